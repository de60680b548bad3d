-- The rows of a summary while the devices of a plan are added.
use Rattle.std.specs.Prelude.{List, ◌++◌, String}
use Rattle.std.specs.BTreeMap.{BTreeMap}
use Rattle.std.specs.List.{flat_map}
use Rattle.inspecting.specs.Plan.{Planned}
use Rattle.inspecting.specs.Row.{Row}
use Rattle.inspecting.specs.Rows.{IsTallied}
use Rattle.inspecting.specs.Summary.{rows_of}
use Rattle.inspecting.specs.declared.fleet.rows.Tally.{Tally}
use Rattle.inspecting.specs.declared.fleet.summary.Summary.{Summary}

-- A summary has the keys of these devices.
abbrev pub Summarizes : List Planned → Summary → Type 0
Summarizes plan summary = IsTallied (flat_map rows_of plan) summary.rows

-- These rows are added to those that were.
abbrev pub AddsRows : {Y : Type 0} → List Row
    → BTreeMap (String Y) Tally → BTreeMap (String Y) Tally → Type 0
AddsRows rows old new = (added : List Row) → IsTallied added old → IsTallied (added ++ rows) new
