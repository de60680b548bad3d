-- What a plan reads and writes.
use Rattle.std.specs.Prelude.{◌≡◌, ◌⊎◌, ℕ, ◌≤◌, Bool, true, false, List, ◌++◌, Option, length, take}
use Rattle.std.specs.Io.KnownBytes.{Appends, Consumes, IsAtEnd, Keeps}
use Rattle.reports.specs.declared.table.Entry.{Entry}
use Rattle.common.specs.Lines.{lines_of}
use Rattle.device_texts.specs.declared.form.Form.{Form}
use Rattle.host.specs.declared.answer.Answer.{Answer}
use Rattle.host.specs.declared.answer.Answer.TheVariants.{Done, Refused, Cut}
use Rattle.host.specs.Input.{IsKnownAs}
use Rattle.inspecting.specs.Plan.{IsPlan, IsPlanOfFirst, Planned, has_bad, plan_text}
use Rattle.inspecting.specs.Planning.{BreaksLines, Stands, told_text}
use Rattle.inspecting.specs.Row.{Row}
use Rattle.inspecting.specs.Summary.{IsSummary}
use Rattle.inspecting.specs.SummaryJson.{summary_lines}
use Rattle.inspecting.specs.Written.{TakesPrefix}
use Rattle.inspecting.specs.declared.fleet.planner.Planner.{Planner}
use Rattle.inspecting.specs.declared.fleet.telling.Telling.{Telling}
use Rattle.inspecting.specs.declared.fleet.telling.Telling.TheVariants as tell

-- The answer says whether a device has no report.
abbrev pub IsAnswerFor : Bool → Answer → Type 0
IsAnswerFor bad Done = bad ≡ false
IsAnswerFor bad Refused = bad ≡ true
IsAnswerFor bad Cut = ⊥

-- A text of a plan in a form: each device with its result in order, or the summary.
abbrev pub IsPlanText : Telling → List Planned → List ℕ → Type 0
IsPlanText (tell.Devices form) plan text = text ≡ plan_text form plan
IsPlanText (tell.Summary form) plan text =
    (rows : List Row) × IsSummary plan rows
    × (notes : List (List ℕ)) × (text ≡ summary_lines form rows notes)

-- A writer took a text of the plan of a fleet.
pub record WritesPlan (entries : List (Option Entry)) (bytes : List ℕ) (telling : Telling)
    (answer : Answer) (old new : Option (List ℕ)) : Type 0 where
  pub plan : List Planned
  pub is : IsPlan entries bytes plan
  pub answered : IsAnswerFor (has_bad plan) answer
  pub text : List ℕ
  pub is_text : IsPlanText telling plan text
  pub written : Appends old new text

-- A writer took the results of the first devices of a fleet with these lines: all of them completely,
-- but of the last one perhaps a prefix.
pub record WritesFirst (entries : List (Option Entry)) (lines : List (List ℕ)) (form : Form)
    (old new : Option (List ℕ)) : Type 0 where
  pub told : List Planned
  pub last : List Planned
  pub one : length last ≤ 1
  pub is : IsPlanOfFirst entries lines (told ++ last)
  pub count : ℕ
  pub written : Appends old new (plan_text form told ++ take count (plan_text form last))

-- A writer took a prefix of the summary of these devices.
pub record BeginsSummary (form : Form) (plan : List Planned) (old new : Option (List ℕ))
    : Type 0 where
  pub rows : List Row
  pub is : IsSummary plan rows
  pub notes : List (List ℕ)
  pub begun : TakesPrefix (summary_lines form rows notes) old new

-- The summary of a fleet was written in part, or not at all.
abbrev pub WritesSummaryPart : List (Option Entry) → List ℕ → Form
    → Option (List ℕ) → Option (List ℕ) → Type 0
WritesSummaryPart entries bytes form old new =
    Keeps old new
    ⊎ ((plan : List Planned) × IsPlan entries bytes plan × BeginsSummary form plan old new)

-- What a writer took of the plan of a fleet before an error: the results of the first devices, of
-- the last one perhaps a prefix. Of a summary it took nothing, or a prefix.
abbrev pub WritesPart : List (Option Entry) → List ℕ → Telling
    → Option (List ℕ) → Option (List ℕ) → Type 0
WritesPart entries bytes (tell.Devices form) old new =
    WritesFirst entries (lines_of bytes) form old new
WritesPart entries bytes (tell.Summary form) old new =
    WritesSummaryPart entries bytes form old new

-- A reader had a fleet, which it may not have given to its end. A writer took a part of its plan.
pub record PlansPart (entries : List (Option Entry)) (telling : Telling)
    (input old new : Option (List ℕ)) : Type 0 where
  pub bytes : List ℕ
  pub known : IsKnownAs input bytes
  pub writes : WritesPart entries bytes telling old new

-- A plan had an error after the fleet was read. These devices had their results before.
abbrev pub BreaksEnd : List (Option Entry) → Telling → List ℕ → List Planned
    → Option (List ℕ) → Option (List ℕ) → Type 0
BreaksEnd entries (tell.Devices form) bytes plan before after =
    BreaksLines entries (tell.Devices form) (lines_of bytes) plan before after
BreaksEnd entries (tell.Summary form) bytes plan before after =
    WritesSummaryPart entries bytes form before after

-- The rest of a plan of these devices is written in part: their summary, if there is one.
abbrev pub BreaksRest : Telling → List Planned → Option (List ℕ) → Option (List ℕ) → Type 0
BreaksRest (tell.Devices form) plan before after = ⊥
BreaksRest (tell.Summary form) plan before after =
    Keeps before after ⊎ BeginsSummary form plan before after

-- A reader gave a fleet to its end. A writer took a text of its plan.
pub record Plans (entries : List (Option Entry)) (telling : Telling) (answer : Answer)
    (input rest old new : Option (List ℕ)) : Type 0 where
  pub bytes : List ℕ
  pub read : Consumes input rest bytes
  pub end : IsAtEnd rest
  pub writes : WritesPlan entries bytes telling answer old new

-- Some more devices have their results. Those before and these are the plan of a fleet.
pub record EndsWith (entries : List (Option Entry)) (telling : Telling) (answer : Answer)
    (bytes : List ℕ) (plan : List Planned) (old new : Option (List ℕ)) : Type 0 where
  pub more : List Planned
  pub is : IsPlan entries bytes (plan ++ more)
  pub answered : IsAnswerFor (has_bad (plan ++ more)) answer
  pub text : List ℕ
  pub is_text : IsPlanText telling (plan ++ more) (told_text telling plan ++ text)
  pub written : Appends old new text

-- The rest of a text of a plan is written, after what was written while the fleet was read.
pub record WritesRest (telling : Telling) (plan : List Planned) (old new : Option (List ℕ))
    : Type 0 where
  pub text : List ℕ
  pub is_text : IsPlanText telling plan (told_text telling plan ++ text)
  pub written : Appends old new text

-- A reader gave these bytes, and a planner has read them. A writer took the devices that have their
-- results.
pub record HasPlanned (entries : List (Option Entry)) (telling : Telling) (planner : Planner)
    (input rest old new : Option (List ℕ)) : Type 0 where
  pub bytes : List ℕ
  pub read : Consumes input rest bytes
  pub plan : List Planned
  pub stands : Stands entries telling planner bytes plan
  pub written : Appends old new (told_text telling plan)
