-- What is found by a read-only command has no number that isn't whole.
use Rattle.std.proofs.Common.{ℕ, ◌==◌, List, [], ◌∷◌, Bool, true, false, Option, None, Some, codes, map, refl}
use Rattle.std.specs.List.{flat_map}
use Rattle.std.specs.Prelude.{if◌then◌else◌}
use Rattle.serde_json.specs.Data.{Data, Members, no_members, object}
use Rattle.reports.specs.declared.report.Reason.{Reason}
use Rattle.reports.specs.declared.report.Reason.TheVariants as reason
use Rattle.command_line.specs.CodeList.{Entry, Group, group_of}
use Rattle.image_reading.specs.declared.desc.Desc.{Desc}
use Rattle.machine.specs.declared.error.Fault.TheVariants as fault
use Rattle.manifest.specs.declared.manifest.Component.{Component}
use Rattle.swap_scratch.specs.declared.progress.Progress.{Progress}
use Rattle.device_texts.specs.Json.{group_json, needs_of, number_json, with_member, with_notes}
use Rattle.device_texts.proofs.JsonLaws.{AreAllWhole, AreWhole, IsWhole, flat_map-whole, map-whole, member-whole, none-whole, nothing-whole, value-whole, with_some-whole}
use Rattle.device_texts.proofs.JsonWholeLaws.{code-whole, dependencies-whole, fault-whole, group-whole, layer-whole, notes-whole, number-whole, refused-whole, report-whole, set-whole, text-whole, versioned-whole}
use Rattle.inspecting.specs.Inspection.{members_of}
use Rattle.inspecting.specs.Json.{component_json, floor_json, moved_json, request_json, set_json, slots_json, swap_json, with_content, with_decision, with_description, with_precursor, with_slots, with_state}
use Rattle.inspecting.specs.Json as json
use Rattle.inspecting.specs.PlanJson.{outcome_members, result_json}
use Rattle.inspecting.specs.Row.{Row}
use Rattle.inspecting.specs.RowKey.{row_key_of}
use Rattle.inspecting.specs.SummaryJson.{key_members, row_json, summary_json, with_version}
use Rattle.inspecting.specs.declared.flash_state.FlashState.{FlashState}
use Rattle.inspecting.specs.declared.fleet.outcome.Outcome.{Outcome}
use Rattle.inspecting.specs.declared.fleet.outcome.Outcome.TheVariants as outcome
use Rattle.inspecting.specs.declared.fleet.row_key.RowKey.{RowKey}
use Rattle.inspecting.specs.declared.fleet.row_key.RowKey.TheVariants as key
use Rattle.inspecting.specs.declared.inspection.Inspection.{Inspection}
use Rattle.inspecting.specs.declared.inspection.Inspection.TheVariants as found
use Rattle.inspecting.specs.declared.slots_found.ImageSlots.{ImageSlots}
use Rattle.inspecting.specs.declared.slots_found.NextDecision.{NextDecision}
use Rattle.inspecting.specs.declared.slots_found.NextDecision.TheVariants as next
use Rattle.inspecting.specs.declared.slots_found.SlotContent.{SlotContent}
use Rattle.inspecting.specs.declared.slots_found.SlotContent.TheVariants as content
use Rattle.inspecting.specs.declared.slots_found.SlotsFound.{SlotsFound}
use Rattle.version_order.specs.declared.version.Version.{Version}

description-whole : (description : Desc) (ms : Members) → AreWhole ms → AreWhole (with_description description ms)
description-whole description ms all =
    text-whole _ _ _ (number-whole _ description.length _ (number-whole _ description.counter _ (text-whole _ _ _
    (with_some-whole _ _ _ (dependencies-whole description.dependencies.items)
    (with_some-whole _ _ _ (map-whole group_json description.groups.items group-whole) all)))))

precursor-whole : (precursor : Option (List ℕ)) → AreWhole (with_precursor precursor no_members)
precursor-whole None = nothing-whole
precursor-whole (Some digest) = text-whole _ _ no_members nothing-whole

component-whole : (component : Component) → IsWhole (component_json component)
component-whole component =
    (number-whole _ component.image _ (number-whole _ component.size _ (text-whole _ _ _ (text-whole _ _ _
    (precursor-whole component.precursor))))).none

left-whole : (b : Bool) (left : ℕ) (ms : Members) → AreWhole ms
    → AreWhole (if b then ms else with_member (codes "left") (number_json left) ms)
left-whole true left ms all = all
left-whole false left ms all = number-whole _ left ms all

state-whole : (state : FlashState) (ms : Members) → AreWhole ms → AreWhole (with_state state ms)
state-whole it ms all =
    text-whole _ _ _ (member-whole _ (set_json it.state.mask) _
    (set-whole it.state.mask).none
    (left-whole (it.state.left == 0) it.state.left _ (number-whole _ it.state.sequence _
    (with_some-whole _ _ _ (map-whole floor_json it.floors.items
    (λ it. (number-whole _ it.image _ (number-whole _ it.floor no_members nothing-whole)).none))
    (with_some-whole _ _ _ (map-whole swap_json it.swaps.items
    (λ it. (number-whole _ it.image _ (text-whole _ _ no_members nothing-whole)).none)) all)))))

content-whole : (it : SlotContent) → AreWhole (with_content it no_members)
content-whole (content.Intact description) = description-whole description no_members nothing-whole
content-whole content.Erased = member-whole _ _ no_members refl nothing-whole
content-whole (content.Damaged check) =
    member-whole _ _ no_members (code-whole _ _ no_members nothing-whole).none nothing-whole

slot-whole : (n : ℕ) (side : List ℕ) (held : SlotContent) → IsWhole (json.slot_json n side held)
slot-whole n side held = (number-whole _ n _ (text-whole _ side _ (content-whole held))).none

slots-of-whole : (it : ImageSlots) → AreAllWhole (slots_json it)
slots-of-whole it =
    value-whole _ _ (slot-whole it.image _ it.primary) (value-whole _ [] (slot-whole it.image _ it.secondary) none-whole)

moved-whole : (n : ℕ) (progress : Option Progress) → AreAllWhole (moved_json n progress)
moved-whole n None = none-whole
moved-whole n (Some progress) =
    value-whole _ []
    (number-whole _ n _ (number-whole _ progress.taken _ (number-whole _ progress.steps no_members nothing-whole))).none
    none-whole

decision-whole : (decision : Option NextDecision) (ms : Members) → AreWhole ms → AreWhole (with_decision decision ms)
decision-whole None ms all = all
decision-whole (Some (next.Decided table report)) ms all = report-whole report ms all
decision-whole (Some (next.Damaged n slot)) ms all = member-whole _ _ ms (fault-whole (fault.RunningDamaged n)) all
decision-whole (Some (next.Invalid table)) ms all = member-whole _ _ ms (fault-whole fault.InvalidSet) all

slots-whole : (slots : SlotsFound) (ms : Members) → AreWhole ms → AreWhole (with_slots slots ms)
slots-whole slots ms all =
    with_some-whole _ _ _ (flat_map-whole slots_json slots.images.items slots-of-whole)
    (with_some-whole _ _ _ (map-whole request_json slots.images.items
    (λ it. (number-whole _ it.image _ (text-whole _ _ no_members nothing-whole)).none))
    (with_some-whole _ _ _ (flat_map-whole (λ it. moved_json it.image it.moved) slots.images.items
    (λ it. moved-whole it.image it.moved)) (decision-whole slots.decision ms all)))

name-whole : (code : Option ℕ) (name : List ℕ) (ms : Members) → AreWhole ms → AreWhole (json.with_name code name ms)
name-whole None name ms all = text-whole _ name ms all
name-whole (Some code) name ms all = code-whole code name ms all

entry-whole : (entry : Entry) → IsWhole (json.entry_json entry)
entry-whole entry = (name-whole entry.code entry.name _ (text-whole _ _ no_members nothing-whole)).none

codes-whole : (group : Group) → IsWhole (json.group_json group)
codes-whole group =
    (text-whole _ group.title _
    (with_some-whole _ _ no_members (map-whole json.entry_json group.entries entry-whole) nothing-whole)).none

members-whole : (it : Inspection) → AreWhole (members_of it)
members-whole (found.Choice choice) = report-whole choice.report no_members nothing-whole
members-whole (found.Verdict verdict) = member-whole _ _ no_members refl nothing-whole
members-whole (found.Image description) = description-whole description no_members nothing-whole
members-whole (found.RefusedImage refused) = refused-whole _ (code-whole _ _ no_members nothing-whole).none
members-whole (found.Manifest manifest) =
    number-whole _ manifest.sequence _
    (with_some-whole _ _ no_members (map-whole component_json manifest.components.items component-whole) nothing-whole)
members-whole (found.RefusedManifest refused) = refused-whole _ (code-whole _ _ no_members nothing-whole).none
members-whole (found.RefusedMap refused) = refused-whole _ (layer-whole _ _ _ no_members nothing-whole)
members-whole (found.State state) = state-whole state no_members nothing-whole
members-whole found.NoState = refused-whole _ (fault-whole fault.NotProvisioned)
members-whole (found.Slots state slots) = state-whole state _ (slots-whole slots no_members nothing-whole)
members-whole (found.Codes list) =
    with_some-whole _ _ no_members (map-whole json.group_json (map group_of list.groups) codes-whole) nothing-whole

-- The object with its notes.
pub noted-whole : (notes : List (List ℕ)) (it : Inspection) → IsWhole (object (with_notes notes (members_of it)))
noted-whole notes it = (notes-whole notes _ (members-whole it)).none

-- The object of a device with its result and its notes.
outcome-whole : (it : Outcome) → AreWhole (outcome_members it)
outcome-whole (outcome.Decided decision) = report-whole decision.report no_members nothing-whole
outcome-whole outcome.NotValid = member-whole _ _ no_members refl nothing-whole
outcome-whole (outcome.BadLine n) = number-whole _ n no_members nothing-whole
outcome-whole outcome.TooLong = member-whole _ _ no_members refl nothing-whole

pub result-whole : (name : List ℕ) (it : Outcome) (notes : List (List ℕ)) → IsWhole (result_json name it notes)
result-whole name it notes = (notes-whole notes _ (text-whole _ name _ (outcome-whole it))).none

-- The object of a summary and its notes.
needs-whole : (reason : Reason) → AreAllWhole (needs_of reason)
needs-whole reason.Damaged = none-whole
needs-whole reason.Older = none-whole
needs-whole reason.Counter = none-whole
needs-whole (reason.NoSuchImage n) = value-whole _ [] (number-whole _ n no_members nothing-whole).none none-whole
needs-whole (reason.Needs n minimum) = value-whole _ [] (versioned-whole n minimum) none-whole
needs-whole (reason.NeedsOne group) = dependencies-whole group.alternatives.items

version-whole : (version : Option Version) (ms : Members) → AreWhole ms → AreWhole (with_version version ms)
version-whole None ms all = all
version-whole (Some version) ms all = text-whole _ _ ms all

key-whole : (it : RowKey) → AreWhole (key_members it)
key-whole key.Device = nothing-whole
key-whole key.Bad = nothing-whole
key-whole key.NotValid = nothing-whole
key-whole (key.Take images) = with_some-whole _ _ no_members (dependencies-whole images.items) nothing-whole
key-whole (key.Refuse version refusal) =
    version-whole version _ (number-whole _ refusal.image _
    (with_some-whole _ _ _ (needs-whole refusal.reason) (text-whole _ _ no_members nothing-whole)))
key-whole key.Other = nothing-whole

row-whole : (row : Row) → IsWhole (row_json row)
row-whole row =
    (number-whole _ row.count _ (text-whole _ row.first _ (text-whole _ _ _ (key-whole (row_key_of row.key))))).none

pub summary-whole : (rows : List Row) (notes : List (List ℕ)) → IsWhole (summary_json rows notes)
summary-whole rows notes =
    (notes-whole notes _ (with_some-whole _ _ no_members (map-whole row_json rows row-whole) nothing-whole)).none
