-- The states that a device gets into.
use Rattle.std.specs.Prelude.{◌≡◌, ℕ, ◌+◌, ◌<◌, ◌≤◌, ◌==◌, max, true, false, List, [], length, Option, Some, None}
use Rattle.std.specs.Prelude.{option_and_then, slice_index, if◌then◌else◌}
use Rattle.reports.specs.declared.table.Entry.{Entry}
use Rattle.common.specs.Masks.{is_member}
use Rattle.image_reading.specs.declared.desc.Desc.{Desc}
use Rattle.image_reading.specs.Image.{IsIntact}
use Rattle.machine.specs.Device.{DeviceState, Machine, Trial, Wanted}

-- What a decision knows of an image, by its description.
abbrev pub entry_of : Desc → Entry
entry_of description = record {
  version = description.version;
  counter = description.counter;
  dependencies = description.dependencies;
  groups = description.groups;
}

-- A machine with this state, no session open, and not booted.
abbrev pub asleep : DeviceState → Machine
asleep s = record { kept = s; session = λ i. None; is_booted = false }

-- The bytes of an intact image that is requested.
abbrev pub wanted_bytes : Option Wanted → Option (List ℕ)
wanted_bytes wanted = option_and_then (λ w. w.bytes) wanted

-- Each image of a trial's set is confirmed.
pub record IsConfirmed (s : DeviceState) (trial : Trial) : Type 0 where
  pub each : (i : ℕ) → i < s.images → is_member trial.set i ≡ true → trial.confirmed i ≡ true

-- Floors are raised to the counters of what runs, if these are greater; damaged images raise none.
pub record IsRaised (images : ℕ) (running : ℕ → Option (List ℕ)) (old new : List ℕ) : Type 0 where
  pub size : length new ≡ length old
  pub raised : (i : ℕ) (bytes : List ℕ) (description : Desc) → i < images
      → running i ≡ Some bytes → IsIntact bytes description
      → slice_index new i ≡ max (slice_index old i) description.counter
  pub damaged : (i : ℕ) → i < images → running i ≡ None
      → slice_index new i ≡ slice_index old i
  pub rest : (i : ℕ) → images ≤ i → slice_index new i ≡ slice_index old i

-- The state after a trial is over: the set runs on, with these floors.
abbrev pub settled : DeviceState → List ℕ → DeviceState
settled s floors = record s { floors = floors; trial = None }

-- What an image runs after a set is taken.
abbrev pub running_after : DeviceState → ℕ → ℕ → Option (List ℕ)
running_after s mask i = if is_member mask i then wanted_bytes (s.request i) else s.running i

-- What is requested of an image after a set is taken: nothing if it is in the set.
abbrev pub left_after : DeviceState → ℕ → ℕ → Option Wanted
left_after s mask i = if is_member mask i then None else s.request i

-- The state after a set is taken, with these floors: on this trial, or permanently.
abbrev pub with_taken : DeviceState → ℕ → List ℕ → Option Trial → DeviceState
with_taken s mask floors trial = record s {
  running = running_after s mask;
  request = left_after s mask;
  floors = floors;
  trial = trial;
}

-- A trial of this set begins in the first of `boots` boots: nothing is confirmed, what ran is kept.
pub record IsBegun (s : DeviceState) (mask boots : ℕ) (trial : Trial) : Type 0 where
  pub set : trial.set ≡ mask
  pub confirmed : (i : ℕ) → trial.confirmed i ≡ false
  pub old : (i : ℕ) → i < s.images → is_member mask i ≡ true → s.running i ≡ Some (trial.old i)
  pub left : trial.left + 1 ≡ boots

-- The bytes of an image that runs, or no bytes if it is damaged.
abbrev pub bytes_or_none : Option (List ℕ) → List ℕ
bytes_or_none None = []
bytes_or_none (Some bytes) = bytes

-- The trial that begins with this set, with `left` boots left.
abbrev pub new_trial : DeviceState → ℕ → ℕ → Trial
new_trial s mask left = record {
  set = mask;
  confirmed = λ i. false;
  old = λ i. bytes_or_none (s.running i);
  left = left;
}

-- The state after a revert: the set runs its old images, and the tried ones are forgotten.
abbrev pub reverted : DeviceState → Trial → DeviceState
reverted s trial = record s {
  running = λ i. if is_member trial.set i then Some (trial.old i) else s.running i;
  request = left_after s trial.set;
  trial = None;
}

-- The state whose trial has `left` boots left.
abbrev pub tried_again : DeviceState → Trial → ℕ → DeviceState
tried_again s trial left = record s { trial = Some (record trial { left = left }) }

-- The state of which image i on trial is confirmed also.
abbrev pub with_confirmed : DeviceState → Trial → ℕ → DeviceState
with_confirmed s trial i = record s {
  trial = Some (record trial { confirmed = λ j. if j == i then true else trial.confirmed j });
}
