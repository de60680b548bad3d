-- The result of a sweep, and the two forms in which it is written.
use Rattle.std.specs.Prelude.{ℕ, List, [], if◌then◌else◌}
use Rattle.serde_json.specs.Data.{Members, no_members, object}
use Rattle.device_texts.specs.AnswerText.{map_refusal_text}
use Rattle.device_texts.specs.Json.{fault_json, json_line, map_json, with_notes, with_refused}
use Rattle.device_texts.specs.ReplyText.{refused_fault_text}
use Rattle.device_texts.specs.declared.form.Form.{Form}
use Rattle.device_texts.specs.declared.form.Form.TheVariants as form
use Rattle.host.specs.declared.answer.Answer.{Answer}
use Rattle.host.specs.declared.answer.Answer.TheVariants.{Done, Refused}
use Rattle.sweep.specs.Findings.{is_good}
use Rattle.sweep.specs.FoundJson.{with_found}
use Rattle.sweep.specs.FoundText.{found_text}
use Rattle.sweep.specs.declared.swept.Swept.{Swept}
use Rattle.sweep.specs.declared.swept.Swept.TheVariants as swept

-- The answer: `Refused` if something is refused, or if a run had an unexpected end.
abbrev pub answer_of : Swept → Answer
answer_of (swept.Found found) = if is_good found then Done else Refused
answer_of (swept.RefusedMap refused) = Refused
answer_of (swept.RefusedDevice fault) = Refused
answer_of swept.Nothing = Done

-- The text. If no outputs were merged, it is empty.
abbrev pub text_of : Swept → List ℕ
text_of (swept.Found found) = found_text found
text_of (swept.RefusedMap refused) = map_refusal_text refused
text_of (swept.RefusedDevice fault) = refused_fault_text fault
text_of swept.Nothing = []

-- The members of the object.
abbrev pub members_of : Swept → Members
members_of (swept.Found found) = with_found found no_members
members_of (swept.RefusedMap refused) = with_refused (map_json refused) no_members
members_of (swept.RefusedDevice fault) = with_refused (fault_json fault) no_members
members_of swept.Nothing = no_members

-- What is written in this form: the text, or the object with these notes.
abbrev pub written : Form → List (List ℕ) → Swept → List ℕ
written form.Text notes it = text_of it
written form.Json notes it = json_line (object (with_notes notes (members_of it)))
