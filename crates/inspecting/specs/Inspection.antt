-- What a read-only command finds in its inputs, its answer, and the two forms in which it is written.
use Rattle.std.specs.Prelude.{◌≡◌, ℕ, List, ◌++◌, Option, Result, Ok, Err, codes, if◌then◌else◌, map}
use Rattle.std.specs.Io.KnownBytes.{Appends, Keeps}
use Rattle.serde_json.specs.Data.{Data, Members, boolean, no_members, object}
use Rattle.device_texts.specs.AnswerText.{map_refusal_text}
use Rattle.device_texts.specs.Json.{code_json, fault_json, json_line, map_json, with_member, with_notes, with_refused, with_report}
use Rattle.device_texts.specs.ReplyText.{refused_fault_text}
use Rattle.reports.specs.ReportText.{report_text}
use Rattle.command_line.specs.CodeList.{group_of, list_text}
use Rattle.host.specs.declared.answer.Answer.{Answer}
use Rattle.host.specs.declared.answer.Answer.TheVariants.{Done, Refused}
use Rattle.host.specs.declared.error.Refusal.{Refusal}
use Rattle.host.specs.declared.error.Refusal.TheVariants.{CannotWrite, NoMemory}
use Rattle.image_reading.specs.Codes as image
use Rattle.machine.specs.declared.error.Fault.TheVariants.{NotProvisioned}
use Rattle.manifest.specs.Codes as manifest
use Rattle.inspecting.specs.Check.{verdict_text}
use Rattle.inspecting.specs.ImageText as image_text
use Rattle.inspecting.specs.Json.{with_codes, with_description, with_manifest, with_slots, with_state}
use Rattle.inspecting.specs.ManifestText as manifest_text
use Rattle.inspecting.specs.Slots.{answer_to}
use Rattle.inspecting.specs.SlotsText.{found_text}
use Rattle.inspecting.specs.StateText.{state_text}
use Rattle.inspecting.specs.Written.{TakesPrefix}
use Rattle.device_texts.specs.declared.form.Form.{Form}
use Rattle.device_texts.specs.declared.form.Form.TheVariants as form
use Rattle.inspecting.specs.declared.inspection.Inspection.{Inspection}
use Rattle.inspecting.specs.declared.inspection.Inspection.TheVariants as found

-- The answer: `Refused` if something is refused, or for a no.
abbrev pub answer_of : Inspection → Answer
answer_of (found.Choice choice) = Done
answer_of (found.Verdict verdict) = if verdict.is_right then Done else Refused
answer_of (found.Image description) = Done
answer_of (found.RefusedImage refused) = Refused
answer_of (found.Manifest manifest) = Done
answer_of (found.RefusedManifest refused) = Refused
answer_of (found.RefusedMap refused) = Refused
answer_of (found.State state) = Done
answer_of found.NoState = Refused
answer_of (found.Slots state slots) = answer_to slots.decision
answer_of (found.Codes list) = Done

-- The text.
abbrev pub text_of : Inspection → List ℕ
text_of (found.Choice choice) = report_text choice.report
text_of (found.Verdict verdict) = verdict_text verdict.is_right
text_of (found.Image description) = image_text.description_text description
text_of (found.RefusedImage refused) = image_text.refusal_text refused.fault
text_of (found.Manifest manifest) = manifest_text.manifest_text manifest
text_of (found.RefusedManifest refused) = manifest_text.refusal_text refused.fault
text_of (found.RefusedMap refused) = map_refusal_text refused.fault
text_of (found.State state) = state_text state
text_of found.NoState = refused_fault_text NotProvisioned
text_of (found.Slots state slots) = state_text state ++ found_text slots
text_of (found.Codes list) = list_text (map group_of list.groups)

-- The members of the object.
abbrev pub members_of : Inspection → Members
members_of (found.Choice choice) = with_report choice.report no_members
members_of (found.Verdict verdict) =
    with_member (codes "right") (boolean verdict.is_right) no_members
members_of (found.Image description) = with_description description no_members
members_of (found.RefusedImage refused) =
    with_refused (code_json (image.code_of refused.fault) (image.name_of refused.fault)) no_members
members_of (found.Manifest manifest) = with_manifest manifest no_members
members_of (found.RefusedManifest refused) = with_refused
    (code_json (manifest.code_of refused.fault) (manifest.name_of refused.fault)) no_members
members_of (found.RefusedMap refused) = with_refused (map_json refused.fault) no_members
members_of (found.State state) = with_state state no_members
members_of found.NoState = with_refused (fault_json NotProvisioned) no_members
members_of (found.Slots state slots) = with_state state (with_slots slots no_members)
members_of (found.Codes list) = with_codes (map group_of list.groups) no_members

-- The object.
abbrev pub json_of : Inspection → Data
json_of it = object (members_of it)

-- What is written in this form: the text, or the object with these notes.
abbrev pub written : Form → List (List ℕ) → Inspection → List ℕ
written form.Text notes it = text_of it
written form.Json notes it = json_line (object (with_notes notes (members_of it)))

-- What a writer takes of this, by the result of writing it: everything, nothing if memory runs out,
-- or a prefix if a write fails.
abbrev pub WritesInspection : Result Answer Refusal → Answer → List ℕ → Option (List ℕ)
    → Option (List ℕ) → Type 0
WritesInspection (Ok answer) said bytes old new = (answer ≡ said) × Appends old new bytes
WritesInspection (Err NoMemory) said bytes old new = Keeps old new
WritesInspection (Err CannotWrite) said bytes old new = TakesPrefix bytes old new
WritesInspection (Err refusal) said bytes old new = ⊥
