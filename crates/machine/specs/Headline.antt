-- What each boot of a run that replies with a report did, in terms of combinations.
use Rattle.std.specs.Prelude.{◌≡◌, ℕ, ◌+◌, Bool, true, false, List, replicate, take, drop, Option, Some, None}
use Rattle.std.specs.Prelude.{slice_get, if◌then◌else◌}
use Rattle.machine.specs.declared.event.Event.TheVariants as event
use Rattle.common.specs.Masks.{is_member}
use Rattle.reports.specs.declared.table.Table.{Table}
use Rattle.reports.specs.declared.report.Report.{Report}
use Rattle.reports.specs.Combination.{IsGreatest}
use Rattle.reports.specs.Rightness.{IsRight, taken_in}
use Rattle.reports.specs.StandardOrder.{IsInStandardOrder}
use Rattle.common.specs.declared.kind.Kind.TheVariants.{Permanent}
use Rattle.machine.specs.Device.{DeviceState, Machine, Trial, Wanted}
use Rattle.machine.specs.States.{asleep, wanted_bytes, IsRaised}
use Rattle.machine.specs.Boots.{Boots, IsReadAs, IsTableOf}
use Rattle.machine.specs.Intake.{Setup}
use Rattle.machine.specs.Steps.{DeviceEvent, IsRun}
use Rattle.machine.specs.declared.reply.Reply.{Reply}
use Rattle.machine.specs.declared.reply.Reply.TheVariants.{Booted, Reverted, TrialAgain, Cut}

-- What an image runs if a report is followed: the requested bytes if it is taken, else what ran.
abbrev pub running_by : DeviceState → Report → ℕ → Option (List ℕ)
running_by s report i = if taken_in report i then wanted_bytes (s.request i) else s.running i

-- What is requested of an image if a report is followed: nothing if it is taken, else what was.
abbrev pub request_by : DeviceState → Report → ℕ → Option Wanted
request_by s report i = if taken_in report i then None else s.request i

abbrev pub TakesNone : Report → Type 0
TakesNone report = (i : ℕ) → taken_in report i ≡ false

-- A report takes something, and each image that it takes was requested permanently.
pub record StaysForGood (s : DeviceState) (report : Report) : Type 0 where
  pub some : TakesNone report → ⊥
  pub each : (i : ℕ) (wanted : Wanted) → taken_in report i ≡ true → s.request i ≡ Some wanted
      → wanted.kind ≡ Permanent

-- A report's set is on trial: nothing is confirmed, what ran is kept, `boots` - 1 boots are left.
pub record IsTriedBy (boots : ℕ) (s : DeviceState) (report : Report) (trial : Trial) : Type 0 where
  pub set : (i : ℕ) → is_member trial.set i ≡ taken_in report i
  pub confirmed : (i : ℕ) → trial.confirmed i ≡ false
  pub old : (i : ℕ) → taken_in report i ≡ true → s.running i ≡ Some (trial.old i)
  pub left : trial.left + 1 ≡ boots

-- A boot that finds one state and leaves the next starts the greatest set of all, and says so in
-- its report; a trial has `boots` boots.
pub record StartsGreatest (boots : ℕ) (found : DeviceState) (table : Table) (report : Report)
    (permanent : Bool) (next : DeviceState) : Type 0 where
  -- The state as the boot reads it: a trial whose complete set is confirmed is over.
  pub read : DeviceState
  pub reads : IsReadAs found read
  pub steady : read.trial ≡ None
  -- What ran and what was requested in that state, image by image.
  pub rows : IsTableOf read table
  -- Of all valid combinations the greatest is taken.
  pub greatest : IsGreatest table (taken_in report)
  -- The report is right: each refusal has a reason that holds at its place.
  pub right : IsRight table report
  pub standard : IsInStandardOrder table report.refusals.items
  -- What is taken runs, and each other image runs on.
  pub runs : (i : ℕ) → next.running i ≡ running_by read report i
  pub asks : (i : ℕ) → next.request i ≡ request_by read report i
  pub images : next.images ≡ read.images
  pub sequence : next.sequence ≡ read.sequence
  -- It is permanent exactly if something is taken, and all that is taken was requested so.
  pub good : permanent ≡ true → StaysForGood read report
  pub only : StaysForGood read report → permanent ≡ true
  pub stays : permanent ≡ true → next.trial ≡ None
  pub raised : permanent ≡ true
      → IsRaised read.images next.running read.floors next.floors
  -- If it isn't permanent the floors are unchanged, and what is taken is on trial.
  pub floors : permanent ≡ false → next.floors ≡ read.floors
  pub plain : TakesNone report → next.trial ≡ None
  pub tries : permanent ≡ false → (TakesNone report → ⊥)
      → (trial : Trial) × (next.trial ≡ Some trial) × IsTriedBy boots read report trial

-- At a place of a run, counted from 0, a boot replies with this report: the run leads to it, the
-- boot starts the greatest set, the device is booted, and the run goes on from there.
pub record IsBootedAt (setup : Setup) (m : Machine) (events : List DeviceEvent)
    (replies : List Reply) (last : Machine) (place : ℕ) (table : Table) (report : Report)
    (permanent : Bool) : Type 0 where
  pub before : Machine
  pub after : Machine
  pub so_far : IsRun setup m (take place events) (take place replies) before
  pub event : slice_get events place ≡ Some event.Boot
  pub starts : StartsGreatest setup.boots before.kept table report permanent after.kept
  pub is_booted : after.is_booted ≡ true
  pub closed : (i : ℕ) → after.session i ≡ None
  pub goes_on : IsRun setup after (drop (place + 1) events) (drop (place + 1) replies) last

-- `times` boots of a device are interrupted, one after the other.
abbrev pub AreCut : Setup → Machine → ℕ → Machine → Type 0
AreCut setup m times last =
    IsRun setup m (replicate times event.Boot) (replicate times Cut) last

-- A complete boot with this reply took an image, reverted a trial, or began another boot of one;
-- any other leaves the state as it is read.
abbrev pub DoesSomething : Reply → Type 0
DoesSomething (Booted table report permanent) = TakesNone report → ⊥
DoesSomething (Reverted mask) = Unit {0}
DoesSomething (TrialAgain set left) = Unit {0}
DoesSomething other = ⊥

-- One of `times` interrupted boots did something and left the state after a complete boot: power
-- failed after its last write took effect.
pub record HasFinished (setup : Setup) (m mid : Machine) (times : ℕ) : Type 0 where
  pub earlier : ℕ
  pub later : ℕ
  pub count : earlier + 1 + later ≡ times
  pub before : Machine
  pub so_far : AreCut setup m earlier before
  pub reply : Reply
  pub next : DeviceState
  pub boots : Boots setup.boots before.kept reply next
  pub did : DoesSomething reply
  pub goes_on : AreCut setup (asleep next) later mid
