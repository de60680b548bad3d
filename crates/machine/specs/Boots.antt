-- The steps of a machine that boots, and of one that confirms an image.
use Rattle.std.specs.Prelude.{◌≡◌, ◌⊎◌, ℕ, ◌+◌, ◌<◌, Bool, true, false, List, length, Option, Some, None, slice_get}
use Rattle.std.specs.Prelude.{slice_index}
use Rattle.common.specs.Masks.{is_member}
use Rattle.common.specs.declared.kind.Kind.TheVariants.{Permanent}
use Rattle.reports.specs.declared.table.Table.{Table}
use Rattle.reports.specs.declared.table.Image.{Image}
use Rattle.reports.specs.declared.table.Entry.{Entry}
use Rattle.reports.specs.declared.table.Request.{Request}
use Rattle.reports.specs.declared.table.Request.TheVariants as request
use Rattle.reports.specs.declared.report.Report.{Report}
use Rattle.reports.specs.Combination.{IsValid, IsGreatest, running_set}
use Rattle.reports.specs.Rightness.{IsRight, taken_in}
use Rattle.reports.specs.StandardOrder.{IsInStandardOrder}
use Rattle.image_reading.specs.declared.desc.Desc.{Desc}
use Rattle.image_reading.specs.Image.{IsIntact}
use Rattle.machine.specs.Device.{DeviceState, Machine, Trial, Wanted}
use Rattle.machine.specs.States.{entry_of, IsConfirmed, IsRaised, IsBegun, running_after, settled, with_taken}
use Rattle.machine.specs.States.{reverted, tried_again, with_confirmed}
use Rattle.machine.specs.declared.error.Fault.TheVariants as no
use Rattle.machine.specs.declared.reply.Reply.{Reply}
use Rattle.machine.specs.declared.reply.Reply.TheVariants.{Done, Booted, Reverted, TrialAgain, Refused}

-- ---- the table of a state

-- The bytes are an intact image, and the entry is what a decision knows of it.
abbrev pub IsEntryOf : Option (List ℕ) → Entry → Type 0
IsEntryOf None entry = ⊥
IsEntryOf (Some bytes) entry =
    (description : Desc) × IsIntact bytes description × (entry_of description ≡ entry)

-- What a row says is requested: nothing, a damaged image, or the entry of an intact one.
abbrev pub IsRequestOf : Option Wanted → Request → Type 0
IsRequestOf None asked = asked ≡ request.None
IsRequestOf (Some wanted) request.None = ⊥
IsRequestOf (Some wanted) request.Damaged = wanted.bytes ≡ None
IsRequestOf (Some wanted) (request.Entry entry) = IsEntryOf wanted.bytes entry

-- The row of an image in a table: what runs, what is requested, and its floor.
pub record IsRowOf (runs : Option (List ℕ)) (wanted : Option Wanted) (least : ℕ) (row : Image)
    : Type 0 where
  pub running : IsEntryOf runs row.running
  pub request : IsRequestOf wanted row.request
  pub floor : row.floor ≡ least

-- The table of a state: a row for each image.
pub record IsTableOf (s : DeviceState) (table : Table) : Type 0 where
  pub count : length table.images.items ≡ s.images
  pub rows : (i : ℕ) (row : Image) → slice_get table.images.items i ≡ Some row
      → IsRowOf (s.running i) (s.request i) (slice_index s.floors i) row

-- ---- what a boot decides

-- Each request for an image of the set is permanent.
pub record AsksForGood (s : DeviceState) (mask : ℕ) : Type 0 where
  pub each : (i : ℕ) (wanted : Wanted) → i < s.images → is_member mask i ≡ true
      → s.request i ≡ Some wanted → wanted.kind ≡ Permanent

-- The set is the greatest combination of the table of a state, and isn't empty.
pub record IsChosen (s : DeviceState) (table : Table) (mask : ℕ) : Type 0 where
  pub rows : IsTableOf s table
  pub valid : IsValid table running_set
  pub greatest : IsGreatest table (is_member mask)
  pub within : (i : ℕ) → is_member mask i ≡ true → i < s.images
  pub some : mask ≡ 0 → ⊥

-- The decision of a state: the chosen set, which is permanent exactly if all its requests are.
pub record IsDecision (s : DeviceState) (table : Table) (mask : ℕ) (permanent : Bool)
    : Type 0 where
  pub chosen : IsChosen s table mask
  pub good : permanent ≡ true → AsksForGood s mask
  pub trial : AsksForGood s mask → permanent ≡ true

-- What a boot reports: the right report of the table of a state, greatest and in standard order.
pub record IsReported (s : DeviceState) (table : Table) (report : Report) : Type 0 where
  pub rows : IsTableOf s table
  pub valid : IsValid table running_set
  pub right : IsRight table report
  pub greatest : IsGreatest table (taken_in report)
  pub standard : IsInStandardOrder table report.refusals.items

-- Image i is the lowest whose running bytes are damaged.
pub record IsLowestDamaged (s : DeviceState) (i : ℕ) : Type 0 where
  pub there : i < s.images
  pub damaged : s.running i ≡ None
  pub lowest : (j : ℕ) → j < i → s.running j ≡ None → ⊥

-- ---- what a boot does

-- The running bytes of some image are damaged.
abbrev pub HasDamaged : DeviceState → Type 0
HasDamaged s = (i : ℕ) × (i < s.images) × (s.running i ≡ None)

-- A trial reverts: its set isn't all confirmed, and no boot is left or a running image is damaged.
abbrev pub GoesBack : DeviceState → Trial → Type 0
GoesBack s trial = (s.trial ≡ Some trial) × (IsConfirmed s trial → ⊥)
    × ((trial.left ≡ 0) ⊎ HasDamaged s)

-- A trial goes on: its set isn't all confirmed, a boot is left, and no running image is damaged.
abbrev pub GoesOn : DeviceState → Trial → Type 0
GoesOn s trial = (s.trial ≡ Some trial) × (IsConfirmed s trial → ⊥) × (trial.left ≡ 0 → ⊥)
    × ((i : ℕ) → i < s.images → s.running i ≡ None → ⊥)

-- A trial whose complete set is confirmed is over: the set runs on, and floors are raised.
abbrev pub IsOver : DeviceState → Trial → DeviceState → Type 0
IsOver s trial read = IsConfirmed s trial × ((floors : List ℕ)
    × IsRaised s.images s.running s.floors floors × (read ≡ settled s floors))

-- The state as a boot reads it: a trial whose complete set is confirmed is over.
abbrev pub IsReadAs : DeviceState → DeviceState → Type 0
IsReadAs s read = ((s.trial ≡ None) × (read ≡ s)) ⊎ ((trial : Trial) × (s.trial ≡ Some trial)
    × ((IsConfirmed s trial → ⊥) × (read ≡ s) ⊎ IsOver s trial read))

-- The state after a set is taken: permanently with raised floors, or on a trial of `boots` boots.
abbrev pub IsTaken : ℕ → DeviceState → ℕ → Bool → DeviceState → Type 0
IsTaken boots s mask true next = (floors : List ℕ)
    × IsRaised s.images (running_after s mask) s.floors floors
    × (next ≡ with_taken s mask floors None)
IsTaken boots s mask false next = (trial : Trial) × IsBegun s mask boots trial
    × (next ≡ with_taken s mask s.floors (Some trial))

-- The state after a boot that replies with a report: unchanged, or the set of the report is taken.
abbrev pub IsBooted : ℕ → DeviceState → Table → Report → Bool → DeviceState → Type 0
IsBooted boots s table report permanent next = IsReported s table report
    × (((i : ℕ) → taken_in report i ≡ false) × (permanent ≡ false) × (next ≡ s)
    ⊎ ((mask : ℕ) × (is_member mask ≡ taken_in report) × IsDecision s table mask permanent
    × IsTaken boots s mask permanent next))

-- A complete boot, by its reply, of the state that the flash keeps; a trial has `boots` boots.
abbrev pub Boots : ℕ → DeviceState → Reply → DeviceState → Type 0
Boots boots s (Booted table report permanent) next = (read : DeviceState)
    × IsReadAs s read × (read.trial ≡ None) × IsBooted boots read table report permanent next
Boots boots s (Reverted mask) next = (trial : Trial) × GoesBack s trial × (mask ≡ trial.set)
    × (next ≡ reverted s trial)
Boots boots s (TrialAgain set left) next = (trial : Trial) × GoesOn s trial
    × (set ≡ trial.set) × (left + 1 ≡ trial.left) × (next ≡ tried_again s trial left)
Boots boots s (Refused (no.RunningDamaged i)) next =
    IsReadAs s next × (next.trial ≡ None) × IsLowestDamaged next i
Boots boots s (Refused no.InvalidSet) next = IsReadAs s next × (next.trial ≡ None)
    × ((table : Table) × IsTableOf next table × (IsValid table running_set → ⊥))
Boots boots s other next = ⊥

-- An interrupted boot leaves the old state, that state as read, or the one after a complete boot.
abbrev pub IsBootCut : ℕ → DeviceState → DeviceState → Type 0
IsBootCut boots s next =
    (next ≡ s) ⊎ IsReadAs s next ⊎ ((reply : Reply) × Boots boots s reply next)

-- Whether a reply to a boot leaves the device booted.
abbrev pub is_answer : Reply → Bool
is_answer (Booted table report permanent) = true
is_answer (Reverted mask) = true
is_answer (TrialAgain set left) = true
is_answer other = false

-- ---- what a confirmation does

-- The image is in the set on trial.
abbrev pub IsOnTrial : DeviceState → ℕ → Trial → Type 0
IsOnTrial s i trial =
    (s.trial ≡ Some trial) × (i < s.images) × (is_member trial.set i ≡ true)

-- A complete confirmation, by its reply.
abbrev pub Confirms : Machine → ℕ → Reply → Machine → Type 0
Confirms m i Done next = (m.is_booted ≡ true) × ((trial : Trial) × IsOnTrial m.kept i trial
    × (next ≡ record m { kept = with_confirmed m.kept trial i }))
Confirms m i (Refused no.NotBooted) next = (m.is_booted ≡ false) × (next ≡ m)
Confirms m i (Refused no.NotOnTrial) next = (m.is_booted ≡ true)
    × ((trial : Trial) → IsOnTrial m.kept i trial → ⊥) × (next ≡ m)
Confirms m i other next = ⊥

-- ---- soundness

-- The running images are intact, and their dependencies and groups are met.
abbrev pub IsSound : DeviceState → Type 0
IsSound s = (table : Table) × IsTableOf s table × IsValid table running_set

-- The state as a boot reads it is sound.
pub record IsReadSound (s : DeviceState) : Type 0 where
  pub each : (read : DeviceState) → IsReadAs s read → IsSound read

-- Whatever a boot may run is sound: the running images and, in a trial, those that ran before.
pub record IsAllSound (s : DeviceState) : Type 0 where
  pub now : IsSound s
  pub before : (trial : Trial) → s.trial ≡ Some trial → IsSound (reverted s trial)
