-- Where a planner is while it reads a fleet.
use Rattle.std.specs.Prelude.{◌≡◌, ℕ, ◌<◌, ◌≤◌, IfSome, unwrap_or, length, take, List, ◌∷◌, ◌++◌, [], codes, Option, Some, None}
use Rattle.std.specs.Io.KnownBytes.{Appends}
use Rattle.std.specs.List.{AllByRecursion, flat_map}
use Rattle.reports.specs.declared.table.Entry.{Entry}
use Rattle.common.specs.Ascii.{LacksByte}
use Rattle.common.specs.Lines.{◌␣◌, lines_of, text_of_lines}
use Rattle.inspecting.specs.Bounded.{Holds}
use Rattle.inspecting.specs.Fleet.{Device, IsDevice, device_lines}
use Rattle.inspecting.specs.Plan.{IsPlan, IsPlanOfFirst, IsPlanned, Planned, has_bad, plan_text}
use Rattle.inspecting.specs.SummaryRows.{Summarizes}
use Rattle.inspecting.specs.Written.{TakesPrefix}
use Rattle.inspecting.specs.declared.fleet.planner.Current.{Current}
use Rattle.inspecting.specs.declared.fleet.planner.Planner.{Planner}
use Rattle.inspecting.specs.declared.fleet.telling.Telling.{Telling}
use Rattle.inspecting.specs.declared.fleet.telling.Telling.TheVariants as tell
use Rattle.inspecting.specs.declared.fleet.telling.Told.{Told}
use Rattle.inspecting.specs.declared.fleet.telling.Told.TheVariants as how

-- Of a text these bytes are read: these complete lines, and this prefix of the next line.
pub record IsReadAs (bytes : List ℕ) (lines : List (List ℕ)) (prefix : List ℕ) : Type 0 where
  pub split : (rest : List ℕ) → lines_of (bytes ++ rest) ≡ lines ++ lines_of (prefix ++ rest)
  pub plain : LacksByte 10 prefix

-- The lines of the devices that have a result.
abbrev pub planned_lines : List Planned → List (List ℕ)
planned_lines plan = flat_map (λ planned. device_lines planned.device) plan

-- This device is read so far.
pub record IsReadSoFar (device : Device) (current : Current) : Type 0 where
  pub is : IsDevice device
  pub first : current.first.items ≡ (codes "device" ␣ device.name) ++ 10 ∷ []
  pub table : Holds (text_of_lines device.table) current.table

-- The lines are those of the devices that have a result, and of the one whose table is read.
abbrev pub AreLinesOf : List (List ℕ) → List Planned → Option Current → Type 0
AreLinesOf lines plan None = lines ≡ planned_lines plan
AreLinesOf lines plan (Some current) =
    (device : Device) × (lines ≡ planned_lines plan ++ device_lines device)
    × IsReadSoFar device current

-- What is written of devices while a fleet is read.
abbrev pub told_text : Telling → List Planned → List ℕ
told_text (tell.Devices form) plan = plan_text form plan
told_text (tell.Summary form) plan = []

-- Devices are written in this form, or a summary has them, to be written in it.
abbrev pub IsTold : Telling → Told → List Planned → Type 0
IsTold (tell.Devices form) (how.Written used) plan = used ≡ form
IsTold (tell.Devices form) (how.Counted used summary) plan = ⊥
IsTold (tell.Summary form) (how.Written used) plan = ⊥
IsTold (tell.Summary form) (how.Counted used summary) plan = (used ≡ form) × Summarizes plan summary

-- A device with its result is written or summarized.
abbrev pub Tells : Planned → Told → Told → Option (List ℕ) → Option (List ℕ) → Type 0
Tells planned old new before after =
    (telling : Telling) (plan : List Planned) → IsTold telling old plan
    → IsTold telling new (plan ++ planned ∷ [])
    × Appends before after (told_text telling (planned ∷ []))

-- A device with its result is written in part, or not at all.
abbrev pub TellsPart : Planned → Told → Option (List ℕ) → Option (List ℕ) → Type 0
TellsPart planned old before after =
    (telling : Telling) (plan : List Planned) → IsTold telling old plan
    → TakesPrefix (told_text telling (planned ∷ [])) before after

-- A planner has read these lines, and these devices have their results.
pub record HasRead (entries : List (Option Entry)) (telling : Telling) (planner : Planner)
    (lines : List (List ℕ)) (plan : List Planned) : Type 0 where
  pub lines_are : AreLinesOf lines plan planner.device
  pub devices : AllByRecursion (λ planned. IsDevice planned.device) plan
  pub each : AllByRecursion (IsPlanned entries) plan
  pub bad : planner.has_bad ≡ has_bad plan
  pub told : IsTold telling planner.told plan

-- A planner has read these lines. Then some more devices have their results, which are written.
pub record ReadsLines (entries : List (Option Entry)) (telling : Telling) (planner : Planner)
    (lines : List (List ℕ)) (plan : List Planned) (before after : Option (List ℕ)) : Type 0 where
  pub more : List Planned
  pub has : HasRead entries telling planner lines (plan ++ more)
  pub written : Appends before after (told_text telling more)

-- A planner has read these bytes, and these devices have their results.
pub record Stands (entries : List (Option Entry)) (telling : Telling) (planner : Planner)
    (bytes : List ℕ) (plan : List Planned) : Type 0 where
  pub lines : List (List ℕ)
  pub prefix : List ℕ
  pub read : IsReadAs bytes lines prefix
  pub line : Holds prefix planner.line
  pub has : HasRead entries telling planner lines plan
  pub begun : planner.device ≡ None → plan ≡ []

-- A planner has read these bytes. Then some more devices have their results, which are written.
pub record ReadsBytes (entries : List (Option Entry)) (telling : Telling) (planner : Planner)
    (bytes : List ℕ) (plan : List Planned) (before after : Option (List ℕ)) : Type 0 where
  pub more : List Planned
  pub stands : Stands entries telling planner bytes (plan ++ more)
  pub written : Appends before after (told_text telling more)

-- A planner reads more bytes: wherever it stood, it goes on from there.
abbrev pub Advances : List (Option Entry) → Planner → Planner → List ℕ
    → Option (List ℕ) → Option (List ℕ) → Type 0
Advances entries old new bytes before after =
    (telling : Telling) (read : List ℕ) (plan : List Planned) → Stands entries telling old read plan
    → ReadsBytes entries telling new (read ++ bytes) plan before after

-- A planner had an error in a fleet with these lines, after the results of some devices. It wrote
-- more devices: all of them completely, but of the last one perhaps a prefix.
pub record BreaksLines (entries : List (Option Entry)) (telling : Telling) (lines : List (List ℕ))
    (plan : List Planned) (before after : Option (List ℕ)) : Type 0 where
  pub more : List Planned
  pub last : List Planned
  pub one : length last ≤ 1
  pub is : IsPlanOfFirst entries lines (plan ++ (more ++ last))
  pub count : ℕ
  pub written : Appends before after (told_text telling more ++ take count (told_text telling last))

-- A planner has an error in the next line. Some lines follow.
abbrev pub BreaksLine : List (Option Entry) → Planner → Option (List ℕ) → Option (List ℕ) → Type 0
BreaksLine entries old before after =
    (telling : Telling) (line : List ℕ) (lines rest : List (List ℕ)) (plan : List Planned)
    → Holds line old.line → (old.device ≡ None → plan ≡ []) → HasRead entries telling old lines plan
    → BreaksLines entries telling (lines ++ line ∷ rest) plan before after

-- A planner has an error in the next bytes, wherever it stood. Some bytes follow.
abbrev pub BreaksBytes : List (Option Entry) → Planner → List ℕ
    → Option (List ℕ) → Option (List ℕ) → Type 0
BreaksBytes entries old bytes before after =
    (telling : Telling) (read rest : List ℕ) (plan : List Planned)
    → Stands entries telling old read plan
    → BreaksLines entries telling (lines_of (read ++ (bytes ++ rest))) plan before after

-- The bytes after those that are read.
abbrev pub left_in : Option (List ℕ) → List ℕ
left_in rest = unwrap_or rest []

-- A planner reads these bytes up to those that are left. If any are left, they are fewer.
pub record ReadsSome (entries : List (Option Entry)) (old new : Planner) (bytes : List ℕ)
    (rest before after : Option (List ℕ)) : Type 0 where
  pub some : List ℕ
  pub split : some ++ left_in rest ≡ bytes
  pub fewer : IfSome rest (λ left. length left < length bytes)
  pub advances : Advances entries old new some before after

-- A planner ends: all devices of the fleet have their results.
pub record EndsPlan (entries : List (Option Entry)) (telling : Telling) (planner : Planner)
    (bytes : List ℕ) (plan : List Planned) (before after : Option (List ℕ)) : Type 0 where
  pub more : List Planned
  pub is : IsPlan entries bytes (plan ++ more)
  pub bad : planner.has_bad ≡ has_bad (plan ++ more)
  pub told : IsTold telling planner.told (plan ++ more)
  pub written : Appends before after (told_text telling more)
