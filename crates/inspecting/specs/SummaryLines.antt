-- What is written of the rows of a summary in memory.
use Rattle.std.specs.Prelude.{◌≡◌, ◌⊎◌, ℕ, List, Option, String}
use Rattle.std.specs.BTreeMap.{BTreeMap}
use Rattle.std.specs.Io.KnownBytes.{Appends, Keeps}
use Rattle.device_texts.specs.Json.{json_line}
use Rattle.device_texts.specs.declared.form.Form.{Form}
use Rattle.inspecting.specs.Row.{Row}
use Rattle.inspecting.specs.Rows.{AreRows}
use Rattle.inspecting.specs.SummaryJson.{summary_json, summary_lines}
use Rattle.inspecting.specs.Written.{TakesPrefix}
use Rattle.inspecting.specs.declared.fleet.rows.Tally.{Tally}

-- The line of the object of the rows in memory, and of these notes.
pub record IsSummaryLine {Y : Type 0} (notes : List (List ℕ)) (tallies : BTreeMap (String Y) Tally)
    (line : List ℕ) : Type 0 where
  pub rows : List Row
  pub are : AreRows rows tallies
  pub is : line ≡ json_line (summary_json rows notes)

-- A prefix of the rows in memory is written in a form, or nothing.
abbrev pub WritesSomeRows : {Y : Type 0} → Form → BTreeMap (String Y) Tally
    → Option (List ℕ) → Option (List ℕ) → Type 0
WritesSomeRows form tallies old new =
    Keeps old new
    ⊎ ((rows : List Row) × AreRows rows tallies
    × (notes : List (List ℕ)) × TakesPrefix (summary_lines form rows notes) old new)

-- The rows in memory are written in a form. An object has notes, which may be any.
pub record WritesRows {Y : Type 0} (form : Form) (tallies : BTreeMap (String Y) Tally)
    (old new : Option (List ℕ)) : Type 0 where
  pub rows : List Row
  pub are : AreRows rows tallies
  pub notes : List (List ℕ)
  pub written : Appends old new (summary_lines form rows notes)
