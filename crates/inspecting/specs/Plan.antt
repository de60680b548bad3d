-- What is written for a fleet: each device with its result.
use Rattle.std.specs.Prelude.{ℕ, Bool, List, map, Option}
use Rattle.std.specs.List.{AllByRecursion, flat_map, list_any}
use Rattle.reports.specs.declared.table.Entry.{Entry}
use Rattle.common.specs.Lines.{text_of_lines}
use Rattle.inspecting.specs.Fleet.{BeginWith, Device, IsFleetText}
use Rattle.inspecting.specs.Outcome.{IsOutcome, is_bad}
use Rattle.inspecting.specs.PlanJson.{result_lines}
use Rattle.device_texts.specs.declared.form.Form.{Form}
use Rattle.inspecting.specs.declared.fleet.outcome.Outcome.{Outcome}

-- A device, its result, and the notes on it, which may be any. A text has none.
pub record Planned : Type 0 where
  pub device : Device
  pub outcome : Outcome
  pub notes : List (List ℕ)

-- The result is that of the device's table, in a release of these requests.
abbrev pub IsPlanned : List (Option Entry) → Planned → Type 0
IsPlanned entries planned =
    IsOutcome entries (text_of_lines planned.device.table) planned.outcome

-- The lines of a device and its result in a form.
abbrev pub planned_text : Form → Planned → List ℕ
planned_text form planned =
    result_lines form planned.device.name planned.outcome planned.notes

-- The devices of a fleet, each with its result.
pub record IsPlan (entries : List (Option Entry)) (bytes : List ℕ) (plan : List Planned) : Type 0 where
  pub fleet : IsFleetText bytes (map (λ planned. planned.device) plan)
  pub each : AllByRecursion (IsPlanned entries) plan

-- The first devices of a fleet with these lines, each with its result.
pub record IsPlanOfFirst (entries : List (Option Entry)) (lines : List (List ℕ))
    (plan : List Planned) : Type 0 where
  pub fleet : BeginWith lines (map (λ planned. planned.device) plan)
  pub each : AllByRecursion (IsPlanned entries) plan

-- The lines of the devices and their results in a form.
abbrev pub plan_text : Form → List Planned → List ℕ
plan_text form plan = flat_map (planned_text form) plan

-- Whether a device has no report.
abbrev pub has_bad : List Planned → Bool
has_bad plan = list_any (λ planned. is_bad planned.outcome) plan
