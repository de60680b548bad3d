-- The JSON of what a read-only command finds: a field a line, as docs/JSON.md lists them.
use Rattle.std.specs.Prelude.{ℕ, ◌==◌, true, List, [], ◌∷◌, map, Option, None, Some, codes, if◌then◌else◌}
use Rattle.std.specs.List.{flat_map}
use Rattle.command_line.specs.CodeList.{Entry, Group, meaning_text}
use Rattle.hex.specs.Hex.{encode_lower}
use Rattle.serde_json.specs.Data.{Data, Members, array, boolean, no_members, object, string}
use Rattle.serde_json.specs.View.{items_of}
use Rattle.swap_scratch.specs.declared.progress.Progress.{Progress}
use Rattle.version_order.specs.VersionText.{version_text}
use Rattle.image_reading.specs.Codes as image
use Rattle.image_reading.specs.declared.desc.Desc.{Desc}
use Rattle.manifest.specs.Component.{kind_text}
use Rattle.manifest.specs.declared.manifest.Component.{Component}
use Rattle.manifest.specs.declared.manifest.Manifest.{Manifest}
use Rattle.machine.specs.declared.error.Fault.TheVariants as fault
use Rattle.device_texts.specs.Json as texts
use Rattle.device_texts.specs.Json.{dependency_json, fault_json, number_json, set_numbers, with_code, with_image, with_member, with_refused, with_report, with_some}
use Rattle.inspecting.specs.StateText as state
use Rattle.inspecting.specs.SlotsText as slots
use Rattle.inspecting.specs.declared.flash_state.FlashState.{FlashState}
use Rattle.inspecting.specs.declared.flash_state.ImageFloor.{ImageFloor}
use Rattle.inspecting.specs.declared.flash_state.ImageSwap.{ImageSwap}
use Rattle.inspecting.specs.declared.slots_found.ImageSlots.{ImageSlots}
use Rattle.inspecting.specs.declared.slots_found.NextDecision.{NextDecision}
use Rattle.inspecting.specs.declared.slots_found.NextDecision.TheVariants as next
use Rattle.inspecting.specs.declared.slots_found.SlotContent.{SlotContent}
use Rattle.inspecting.specs.declared.slots_found.SlotContent.TheVariants as content
use Rattle.inspecting.specs.declared.slots_found.SlotsFound.{SlotsFound}

-- The name of a reason, or a code with its name.
abbrev pub with_name : Option ℕ → List ℕ → Members → Members
with_name None name members = with_member (codes "reason") (string name) members
with_name (Some code) name members = with_code code name members

-- A code or a reason, with its meaning in one line.
abbrev pub entry_json : Entry → Data
entry_json entry =
    object (with_name entry.code entry.name
    (with_member (codes "meaning") (string (meaning_text (codes " ") entry.lines)) no_members))

-- The codes of one layer.
abbrev pub group_json : Group → Data
group_json group =
    object (with_member (codes "title") (string group.title)
    (with_some (codes "codes") (map entry_json group.entries) no_members))

-- The member of the list of codes.
abbrev pub with_codes : List Group → Members → Members
with_codes groups members = with_some (codes "groups") (map group_json groups) members

-- The members of an image's description.
abbrev pub with_description : Desc → Members → Members
with_description description members =
    with_member (codes "version") (string (version_text description.version))
    (with_member (codes "length") (number_json description.length)
    (with_member (codes "counter") (number_json description.counter)
    (with_member (codes "digest") (string (encode_lower description.digest))
    (with_some (codes "needs") (map dependency_json description.dependencies.items)
    (with_some (codes "needs_one") (map texts.group_json description.groups.items) members)))))

-- The precursor digest of a component, if it has one.
abbrev pub with_precursor : Option (List ℕ) → Members → Members
with_precursor None members = members
with_precursor (Some digest) members =
    with_member (codes "precursor") (string (encode_lower digest)) members

abbrev pub component_json : Component → Data
component_json component =
    object (with_image component.image
    (with_member (codes "size") (number_json component.size)
    (with_member (codes "kind") (string (kind_text component.permanent))
    (with_member (codes "digest") (string (encode_lower component.digest))
    (with_precursor component.precursor no_members)))))

-- The members of a manifest's contents.
abbrev pub with_manifest : Manifest → Members → Members
with_manifest manifest members =
    with_member (codes "sequence") (number_json manifest.sequence)
    (with_some (codes "components") (map component_json manifest.components.items) members)

-- The images of a set.
abbrev pub set_json : ℕ → Data
set_json mask = array (items_of (set_numbers mask))

-- The boots that a trial has left, if there are any.
abbrev pub with_left : ℕ → Members → Members
with_left left members = if left == 0 then members else with_member (codes "left") (number_json left) members

-- The least security counter that an image may have.
abbrev pub floor_json : ImageFloor → Data
floor_json it =
    object (with_image it.image (with_member (codes "floor") (number_json it.floor) no_members))

-- What the trailers of an image ask of the next boot.
abbrev pub swap_json : ImageSwap → Data
swap_json swap =
    object (with_image swap.image
    (with_member (codes "type") (string (state.swap_type_text swap.swap_type)) no_members))

-- The members of the state of a device.
abbrev pub with_state : FlashState → Members → Members
with_state found members =
    with_member (codes "state") (string (state.kind_text found.state.kind))
    (with_member (codes "set") (set_json found.state.mask)
    (with_left found.state.left
    (with_member (codes "sequence") (number_json found.state.sequence)
    (with_some (codes "floors") (map floor_json found.floors.items)
    (with_some (codes "swaps") (map swap_json found.swaps.items) members)))))

-- The members of what a slot begins with.
abbrev pub with_content : SlotContent → Members → Members
with_content (content.Intact description) members = with_description description members
with_content content.Erased members = with_member (codes "erased") (boolean true) members
with_content (content.Damaged check) members =
    with_member (codes "damaged")
    (object (with_code (image.code_of check) (image.name_of check) no_members)) members

abbrev pub slot_json : ℕ → List ℕ → SlotContent → Data
slot_json n side held =
    object (with_image n (with_member (codes "side") (string side) (with_content held no_members)))

-- The two slots of an image.
abbrev pub slots_json : ImageSlots → List Data
slots_json found =
    slot_json found.image (codes "primary") found.primary
    ∷ slot_json found.image (codes "secondary") found.secondary ∷ []

abbrev pub request_json : ImageSlots → Data
request_json found =
    object (with_image found.image
    (with_member (codes "kind") (string (slots.request_text found.request)) no_members))

-- The progress of an image's swap.
abbrev pub progress_json : ℕ → Progress → Data
progress_json n progress =
    object (with_image n
    (with_member (codes "done") (number_json progress.taken)
    (with_member (codes "total") (number_json progress.steps) no_members)))

-- The same, if the swap is under way.
abbrev pub moved_json : ℕ → Option Progress → List Data
moved_json n None = []
moved_json n (Some progress) = progress_json n progress ∷ []

-- The members of the decision of the next boot.
abbrev pub with_decision : Option NextDecision → Members → Members
with_decision None members = members
with_decision (Some (next.Decided table report)) members = with_report report members
with_decision (Some (next.Damaged n slot)) members =
    with_refused (fault_json (fault.RunningDamaged n)) members
with_decision (Some (next.Invalid table)) members =
    with_refused (fault_json fault.InvalidSet) members

-- The members of what the slots hold.
abbrev pub with_slots : SlotsFound → Members → Members
with_slots found members =
    with_some (codes "slots") (flat_map slots_json found.images.items)
    (with_some (codes "requests") (map request_json found.images.items)
    (with_some (codes "moved") (flat_map (λ it. moved_json it.image it.moved) found.images.items)
    (with_decision found.decision members)))
