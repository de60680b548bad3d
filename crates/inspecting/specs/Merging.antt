-- Sums of summaries, and where a sum is while the rows of a text are added.
use Rattle.std.specs.Prelude.{◌≡◌, ℕ, ◌<◌, Bool, ◌||◌, List, ◌∷◌, ◌++◌, [], codes, length, map}
use Rattle.std.specs.Prelude.{Option, is_some, String, Vec}
use Rattle.std.specs.BTreeMap.{BTreeMap, get_by_text}
use Rattle.std.specs.Cmp.Lexicographic.{slice_cmp}
use Rattle.std.specs.Io.KnownBytes.{Appends}
use Rattle.std.specs.List.{AllByRecursion, AllZip}
use Rattle.std.specs.List.Sorted.{IsStrictlySortedBy}
use Rattle.std.specs.Ordering.{nat_cmp}
use Rattle.std.specs.declared.cmp.Ordering.TheVariants.{Less}
use Rattle.device_texts.specs.declared.form.Form.{Form}
use Rattle.host.specs.declared.answer.Answer.{Answer}
use Rattle.inspecting.specs.PlanEnd.{IsAnswerFor}
use Rattle.inspecting.specs.Row.{Row, first_in, row_text, summary_text}
use Rattle.inspecting.specs.Summary.{IsSum}
use Rattle.inspecting.specs.SummaryJson.{summary_lines}
use Rattle.inspecting.specs.SummaryRows.{AddsRows}
use Rattle.inspecting.specs.SummaryText.{FitsRow, IsSummaryText}
use Rattle.inspecting.specs.Written.{TakesPrefix}
use Rattle.inspecting.specs.declared.fleet.rows.Tally.{Tally}

-- A text begins with the line of this row, whose key is above the last one.
pub record IsNext (last text : List ℕ) (row : Row) (rest : List ℕ) : Type 0 where
  pub fits : FitsRow row
  pub above : slice_cmp nat_cmp last row.key ≡ Less
  pub split : text ≡ (row_text row ++ 10 ∷ []) ++ rest
  pub fewer : length rest < length text

-- The rows of a text before the rest are added. A key above the last one is above all of theirs.
pub record HasAdded {Y : Type 0} (text rest last : List ℕ) (old new : BTreeMap (String Y) Tally)
    : Type 0 where
  pub rows : List Row
  pub split : text ≡ summary_text rows ++ rest
  pub each : AllByRecursion FitsRow rows
  pub sorted : IsStrictlySortedBy (slice_cmp nat_cmp) (map (λ row. row.key) rows)
  pub above : (key : List ℕ) → slice_cmp nat_cmp last key ≡ Less
      → AllByRecursion (λ k. slice_cmp nat_cmp k key ≡ Less) (map (λ row. row.key) rows)
  pub adds : AddsRows rows old new

-- A row of this key is there.
abbrev pub has_key : List Row → List ℕ → Bool
has_key rows key = is_some (first_in rows key)

-- A row says that a device has no report.
abbrev pub has_bad_row : List Row → Bool
has_bad_row rows = has_key rows (codes "bad") || has_key rows (codes "not-valid")

-- The same of rows in memory.
abbrev pub has_bad_at : {Y : Type 0} → BTreeMap (String Y) Tally → Bool
has_bad_at rows =
    is_some (get_by_text rows (codes "bad")) || is_some (get_by_text rows (codes "not-valid"))

-- The texts are those of summaries, and a writer took their sum in a form. The answer says whether
-- a device has no report.
pub record Merges {Y : Type 0} (texts : List (Vec ℕ Y)) (form : Form) (answer : Answer)
    (old new : Option (List ℕ)) : Type 0 where
  pub parts : List (List Row)
  pub spelled : AllZip IsSummaryText (map (λ text. text.items) texts) parts
  pub rows : List Row
  pub is : IsSum parts rows
  pub answered : IsAnswerFor (has_bad_row rows) answer
  pub notes : List (List ℕ)
  pub written : Appends old new (summary_lines form rows notes)

-- The texts are those of summaries, and a writer took a prefix of their sum in a form.
pub record BeginsSum (texts : List (List ℕ)) (form : Form) (old new : Option (List ℕ)) : Type 0 where
  pub parts : List (List Row)
  pub spelled : AllZip IsSummaryText texts parts
  pub rows : List Row
  pub is : IsSum parts rows
  pub notes : List (List ℕ)
  pub begun : TakesPrefix (summary_lines form rows notes) old new
