-- The JSON of what several commands write, a field a line: reports, refusals, notes.
use Rattle.std.specs.Prelude.{ℕ, ◌+◌, Bool, false, true, not, List, [], ◌∷◌, ◌++◌, map, codes, if◌then◌else◌}
use Rattle.std.specs.List.{flat_map, range_with_len}
use Rattle.serde_json.specs.Data.{Data, Members, array, no_members, number, object, put, string, unsigned}
use Rattle.serde_json.specs.View.{items_of}
use Rattle.serde_json.specs.Written.{compact_text}
use Rattle.common.specs.Masks.{is_member}
use Rattle.sector_map.specs.declared.error.MapError.{MapError}
use Rattle.sector_map.specs.Codes as map_fault
use Rattle.common.specs.Limits.{MOST_IMAGES}
use Rattle.version_order.specs.VersionText.{version_text}
use Rattle.version_order.specs.declared.dependency.Dependency.{Dependency}
use Rattle.version_order.specs.declared.group.Group.{Group}
use Rattle.version_order.specs.declared.version.Version.{Version}
use Rattle.reports.specs.declared.report.Reason.{Reason}
use Rattle.reports.specs.declared.report.Reason.TheVariants.{Damaged, Older, Counter, NoSuchImage, Needs, NeedsOne}
use Rattle.reports.specs.declared.report.Refusal.{Refusal}
use Rattle.reports.specs.declared.report.Report.{Report}
use Rattle.reports.specs.declared.report.ReportedImage.{ReportedImage}
use Rattle.image_reading.specs.Codes as image
use Rattle.manifest.specs.Codes as manifest
use Rattle.machine.specs.UploadCodes as upload
use Rattle.machine.specs.declared.upload_error.UploadError.{UploadError}
use Rattle.machine.specs.declared.upload_error.UploadError.TheVariants.{NotAnImage}
use Rattle.machine.specs.Codes as boot
use Rattle.machine.specs.declared.error.Fault.{Fault}
use Rattle.machine.specs.declared.error.Fault.TheVariants as fault

-- A line of JSON: the compact text of a value, and a line feed.
abbrev pub json_line : Data → List ℕ
json_line value = compact_text value ++ 10 ∷ []

abbrev pub number_json : ℕ → Data
number_json n = number (unsigned n)

-- An object with one more member.
unfoldable pub with_member : List ℕ → Data → Members → Members
with_member key value members = put key value members

-- The member of a list. An empty list has no member.
abbrev pub with_some : List ℕ → List Data → Members → Members
with_some key [] members = members
with_some key (first ∷ rest) members = with_member key (array (items_of (first ∷ rest))) members

-- The object of an image, with these further members.
abbrev pub with_image : ℕ → Members → Members
with_image n members = with_member (codes "image") (number_json n) members

-- A version of an image.
abbrev pub versioned_json : ℕ → Version → Data
versioned_json n version =
    object (with_image n (with_member (codes "version") (string (version_text version)) no_members))

abbrev pub dependency_json : Dependency → Data
dependency_json dependency = versioned_json dependency.image dependency.minimum

abbrev pub group_json : Group → Data
group_json group =
    object (with_some (codes "any_of") (map dependency_json group.alternatives.items) no_members)

-- The image of this number, if its request is taken, or if it isn't.
abbrev pub reported_json : Bool → ℕ → ReportedImage → List Data
reported_json is_taken n image =
    if if is_taken then image.is_taken else not image.is_taken
    then versioned_json n image.version ∷ [] else []

-- Of the images from this number on, those whose requests are taken, or those whose aren't.
abbrev pub reported_images : Bool → ℕ → List ReportedImage → List Data
reported_images is_taken n [] = []
reported_images is_taken n (image ∷ images) =
    reported_json is_taken n image ++ reported_images is_taken (n + 1) images

-- The word for a reason.
abbrev pub reason_word : Reason → List ℕ
reason_word Damaged = codes "damaged"
reason_word Older = codes "older"
reason_word Counter = codes "counter"
reason_word (NoSuchImage n) = codes "no-such-image"
reason_word (Needs n minimum) = codes "needs"
reason_word (NeedsOne group) = codes "needs-one"

-- What a refused request needs: a version of an image, an image, or one of several versions.
abbrev pub needs_of : Reason → List Data
needs_of (NoSuchImage n) = object (with_image n no_members) ∷ []
needs_of (Needs n minimum) = versioned_json n minimum ∷ []
needs_of (NeedsOne group) = map dependency_json group.alternatives.items
needs_of _ = []

abbrev pub refusal_json : Refusal → Data
refusal_json refusal =
    object (with_image refusal.image
    (with_some (codes "needs") (needs_of refusal.reason)
    (with_member (codes "reason") (string (reason_word refusal.reason)) no_members)))

-- The members of a report.
abbrev pub with_report : Report → Members → Members
with_report report members =
    with_some (codes "take") (reported_images true 0 report.images.items)
    (with_some (codes "run") (reported_images false 0 report.images.items)
    (with_some (codes "refuse") (map refusal_json report.refusals.items) members))

-- A refusal: its number and its name.
abbrev pub with_code : ℕ → List ℕ → Members → Members
with_code code name members =
    with_member (codes "code") (number_json code) (with_member (codes "name") (string name) members)

-- The refusal of a layer below, with these further members.
abbrev pub layer_json : List ℕ → ℕ → List ℕ → Members → Data
layer_json layer code name members =
    object (with_member (codes "layer") (string layer) (with_code code name members))

abbrev pub upload_json : UploadError → Data
upload_json (NotAnImage check) =
    layer_json (codes "upload") (upload.code_of (NotAnImage check)) (upload.name_of (NotAnImage check))
    (with_member (codes "check") (number_json (image.code_of check)) no_members)
upload_json error = layer_json (codes "upload") (upload.code_of error) (upload.name_of error) no_members

-- Why a call of a device is refused.
abbrev pub fault_json : Fault → Data
fault_json (fault.Manifest error) =
    layer_json (codes "manifest") (manifest.code_of error) (manifest.name_of error) no_members
fault_json (fault.Upload error) = upload_json error
fault_json (fault.RunningDamaged n) =
    layer_json (codes "boot") (boot.code_of (fault.RunningDamaged n))
    (boot.name_of (fault.RunningDamaged n)) (with_image n no_members)
fault_json reason = layer_json (codes "boot") (boot.code_of reason) (boot.name_of reason) no_members

-- The member of a refusal.
abbrev pub with_refused : Data → Members → Members
with_refused refused members = with_member (codes "refused") refused members

-- The image of this number, if it is in the set.
abbrev pub member : ℕ → ℕ → List ℕ
member mask n = if is_member mask n then n ∷ [] else []

-- The numbers of the images of a set.
abbrev pub set_numbers : ℕ → List Data
set_numbers mask = map number_json (flat_map (member mask) (range_with_len 0 MOST_IMAGES))

-- Notes, which no answer needs.
abbrev pub with_notes : List (List ℕ) → Members → Members
with_notes notes members = with_some (codes "notes") (map string notes) members

-- The refusal by a map, a manifest or an image alone.
abbrev pub map_json : MapError → Data
map_json refused =
    layer_json (codes "map") (map_fault.code_of refused) (map_fault.name_of refused) no_members

abbrev pub code_json : ℕ → List ℕ → Data
code_json code name = object (with_code code name no_members)
