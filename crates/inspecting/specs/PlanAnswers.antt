-- The answer of `plan`: what its host held, and what was written.
use Rattle.std.specs.Prelude.{◌⊎◌, Bool, false, true, ℕ, List, Option}
use Rattle.std.specs.Borrow.{Bor}
use Rattle.std.specs.Io.KnownBytes.{Appends, Keeps}
use Rattle.std.specs.List.{AllZip}
use Rattle.reports.specs.declared.table.Entry.{Entry}
use Rattle.command_line.specs.declared.orders.PlanOrder.{PlanOrder}
use Rattle.command_line.specs.declared.orders.PlanOrder.TheVariants.{Fleet, Merge}
use Rattle.command_line.specs.declared.orders.RequestedFile.{RequestedFile}
use Rattle.device_texts.specs.declared.form.Form.{Form}
use Rattle.host.specs.declared.answer.Answer.{Answer}
use Rattle.host.specs.declared.source.Source.{Source}
use Rattle.host.specs.Input.{FileBytes, Gives, IsNamed}
use Rattle.host.specs.Inputs.{GiveEach, names_of}
use Rattle.inspecting.specs.Merging.{BeginsSum, has_bad_row}
use Rattle.inspecting.specs.PlanEnd.{IsAnswerFor, WritesPart, WritesPlan}
use Rattle.inspecting.specs.Release.{IsRelease}
use Rattle.inspecting.specs.Row.{Row}
use Rattle.inspecting.specs.Summary.{IsSum}
use Rattle.inspecting.specs.SummaryJson.{summary_lines}
use Rattle.inspecting.specs.SummaryText.{IsSummaryText}
use Rattle.inspecting.specs.declared.fleet.telling.Telling.{Telling}
use Rattle.inspecting.specs.declared.fleet.telling.Telling.TheVariants as tell

-- A fleet was read, and its plan was written: each device with its result, or their summary.
pub record PlansSource (answer : Answer) (fleet : Source) (entries : List (Option Entry))
    (telling : Telling) (input : Option (List ℕ)) (file : FileBytes) (old new : Option (List ℕ))
    : Type 0 where
  pub bytes : List ℕ
  pub given : Gives fleet input file bytes
  pub writes : WritesPlan entries bytes telling answer old new

-- The same with the requests of these files.
pub record AnswersFleet (answer : Answer) (fleet : Source) (files : List RequestedFile)
    (telling : Telling) (input : Option (List ℕ)) (file : FileBytes) (old new : Option (List ℕ))
    : Type 0 where
  pub entries : List (Option Entry)
  pub release : IsRelease file files entries
  pub plans : PlansSource answer fleet entries telling input file old new

-- These texts were read of sources with these names, one after the other.
pub record ReadsEach (names : List (Bor (List ℕ))) (input : Option (List ℕ)) (file : FileBytes)
    (texts : List (List ℕ)) : Type 0 where
  pub sources : List Source
  pub named : AllZip IsNamed (names_of names) sources
  pub given : GiveEach sources input file texts

-- Summaries were read, and their sum was written in a form.
pub record AnswersMerge (form : Form) (answer : Answer) (names : List (Bor (List ℕ))) (input : Option (List ℕ))
    (file : FileBytes) (old new : Option (List ℕ)) : Type 0 where
  pub texts : List (List ℕ)
  pub read : ReadsEach names input file texts
  pub parts : List (List Row)
  pub spelled : AllZip IsSummaryText texts parts
  pub rows : List Row
  pub is : IsSum parts rows
  pub answered : IsAnswerFor (has_bad_row rows) answer
  pub notes : List (List ℕ)
  pub written : Appends old new (summary_lines form rows notes)

-- A fleet was read, perhaps not to its end. A part of its plan was written.
pub record BreaksSource (fleet : Source) (entries : List (Option Entry)) (telling : Telling)
    (input : Option (List ℕ)) (file : FileBytes) (old new : Option (List ℕ)) : Type 0 where
  pub bytes : List ℕ
  pub given : Gives fleet input file bytes
  pub writes : WritesPart entries bytes telling old new

-- The same with the requests of these files. If they can't be read, nothing was written.
abbrev pub BreaksFleet : Source → List RequestedFile → Telling → Option (List ℕ) → FileBytes
    → Option (List ℕ) → Option (List ℕ) → Type 0
BreaksFleet fleet files telling input file old new =
    Keeps old new
    ⊎ ((entries : List (Option Entry)) × IsRelease file files entries
    × BreaksSource fleet entries telling input file old new)

-- Nothing was written, or summaries were read, and a prefix of their sum was written.
abbrev pub BreaksMerge : Form → List (Bor (List ℕ)) → Option (List ℕ) → FileBytes
    → Option (List ℕ) → Option (List ℕ) → Type 0
BreaksMerge form names input file old new =
    Keeps old new
    ⊎ ((texts : List (List ℕ)) × ReadsEach names input file texts × BeginsSum texts form old new)

-- How results are written in a form, with or without `--summary`.
abbrev pub telling_of : Form → Bool → Telling
telling_of form true = tell.Summary form
telling_of form false = tell.Devices form

-- The answer to an order in a form.
abbrev pub AnswersPlan : Form → Answer → PlanOrder → Option (List ℕ) → FileBytes
    → Option (List ℕ) → Option (List ℕ) → Type 0
AnswersPlan form answer (Fleet fleet requests is_summary) input file old new =
    (source : Source) × IsNamed fleet.now source
    × AnswersFleet answer source requests.items (telling_of form is_summary) input file old new
AnswersPlan form answer (Merge summaries) input file old new =
    AnswersMerge form answer summaries.items input file old new

-- What an order wrote in a form before an error: the results of the first devices, of the last one
-- perhaps a prefix; or nothing, or a prefix of a summary.
abbrev pub BreaksPlan : Form → PlanOrder → Option (List ℕ) → FileBytes
    → Option (List ℕ) → Option (List ℕ) → Type 0
BreaksPlan form (Fleet fleet requests is_summary) input file old new =
    (source : Source) × IsNamed fleet.now source
    × BreaksFleet source requests.items (telling_of form is_summary) input file old new
BreaksPlan form (Merge summaries) input file old new =
    BreaksMerge form summaries.items input file old new
