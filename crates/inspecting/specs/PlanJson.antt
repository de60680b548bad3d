-- The lines of a device with its result: a text, or a JSON object.
use Rattle.std.specs.Prelude.{ℕ, true, List, ◌∷◌, ◌++◌, [], codes}
use Rattle.common.specs.Lines.{◌␣◌}
use Rattle.serde_json.specs.Data.{Data, Members, boolean, no_members, object, string}
use Rattle.device_texts.specs.Json.{json_line, number_json, with_member, with_notes, with_report}
use Rattle.device_texts.specs.declared.form.Form.{Form}
use Rattle.device_texts.specs.declared.form.Form.TheVariants.{Text, Json}
use Rattle.inspecting.specs.Outcome.{outcome_text}
use Rattle.inspecting.specs.declared.fleet.outcome.Outcome.{Outcome}
use Rattle.inspecting.specs.declared.fleet.outcome.Outcome.TheVariants.{Decided, NotValid, BadLine, TooLong}

-- The members of a result: those of the report, or why there is none.
abbrev pub outcome_members : Outcome → Members
outcome_members (Decided decision) = with_report decision.report no_members
outcome_members NotValid = with_member (codes "not_valid") (boolean true) no_members
outcome_members (BadLine n) = with_member (codes "bad_line") (number_json n) no_members
outcome_members TooLong = with_member (codes "too_long") (boolean true) no_members

-- The object of a device of this name with its result, and the notes on it.
abbrev pub result_json : List ℕ → Outcome → List (List ℕ) → Data
result_json name outcome notes =
    object (with_notes notes (with_member (codes "device") (string name) (outcome_members outcome)))

-- The printed text of a device of this name and its result.
abbrev pub result_text : List ℕ → Outcome → List ℕ
result_text name outcome = ((codes "device" ␣ name) ++ 10 ∷ []) ++ outcome_text outcome

-- The lines of a device of this name and its result in a form. A text has no notes.
abbrev pub result_lines : Form → List ℕ → Outcome → List (List ℕ) → List ℕ
result_lines Text name outcome notes = result_text name outcome
result_lines Json name outcome notes = json_line (result_json name outcome notes)
