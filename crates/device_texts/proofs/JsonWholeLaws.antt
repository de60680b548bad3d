-- What a reply is written as has no number that isn't whole, nor has what several commands write.
use Rattle.std.proofs.Common.{◌≡◌, ℕ, ◌+◌, List, [], ◌∷◌, Bool, true, false, codes, map, refl}
use Rattle.std.specs.List.{flat_map, range_with_len}
use Rattle.std.specs.Prelude.{if◌then◌else◌, not}
use Rattle.common.specs.Limits.{MOST_IMAGES}
use Rattle.serde_json.specs.Data.{Data, Members, no_members, string}
use Rattle.serde_json.specs.Written.{members_have_float}
use Rattle.version_order.specs.declared.dependency.Dependency.{Dependency}
use Rattle.version_order.specs.declared.group.Group.{Group}
use Rattle.version_order.specs.declared.version.Version.{Version}
use Rattle.reports.specs.declared.report.Reason.{Reason}
use Rattle.reports.specs.declared.report.Reason.TheVariants.{Damaged, Older, Counter, NoSuchImage, Needs, NeedsOne}
use Rattle.reports.specs.declared.report.Refusal.{Refusal}
use Rattle.reports.specs.declared.report.Report.{Report}
use Rattle.reports.specs.declared.report.ReportedImage.{ReportedImage}
use Rattle.machine.specs.declared.error.Fault.{Fault}
use Rattle.machine.specs.declared.error.Fault.TheVariants as fault
use Rattle.machine.specs.declared.reply.Reply.{Reply}
use Rattle.machine.specs.declared.reply.Reply.TheVariants as reply
use Rattle.machine.specs.declared.upload_error.UploadError.{UploadError}
use Rattle.machine.specs.declared.upload_error.UploadError.TheVariants.{NotAnImage}
use Rattle.device_texts.specs.Json.{dependency_json, fault_json, group_json, layer_json, needs_of, number_json, refusal_json, reported_images, reported_json, set_numbers, upload_json, versioned_json, with_member, with_notes, with_report}
use Rattle.device_texts.specs.Json as json
use Rattle.device_texts.specs.ReplyJson.{reply_members, with_set, with_word}
use Rattle.device_texts.proofs.JsonLaws.{AreAllWhole, AreWhole, IsWhole, append-whole, map-whole, member-whole, none-whole, nothing-whole, value-whole, with_some-whole}

-- One more number, or text.
pub number-whole : (k : List ℕ) (n : ℕ) (ms : Members) → AreWhole ms → AreWhole (with_member k (number_json n) ms)
number-whole k n ms all = member-whole k (number_json n) ms refl all

pub text-whole : (k text : List ℕ) (ms : Members) → AreWhole ms → AreWhole (with_member k (string text) ms)
text-whole k text ms all = member-whole k (string text) ms refl all

pub versioned-whole : (n : ℕ) (version : Version) → IsWhole (versioned_json n version)
versioned-whole n version = (number-whole _ n _ (text-whole _ _ no_members nothing-whole)).none

pub dependencies-whole : (all : List Dependency) → AreAllWhole (map dependency_json all)
dependencies-whole all = map-whole dependency_json all (λ it. versioned-whole it.image it.minimum)

pub group-whole : (group : Group) → IsWhole (group_json group)
group-whole group = (with_some-whole _ _ no_members (dependencies-whole group.alternatives.items) nothing-whole).none

needs-whole : (reason : Reason) → AreAllWhole (needs_of reason)
needs-whole Damaged = none-whole
needs-whole Older = none-whole
needs-whole Counter = none-whole
needs-whole (NoSuchImage n) = value-whole _ [] (number-whole _ n no_members nothing-whole).none none-whole
needs-whole (Needs n minimum) = value-whole _ [] (versioned-whole n minimum) none-whole
needs-whole (NeedsOne group) = dependencies-whole group.alternatives.items

refusal-whole : (refusal : Refusal) → IsWhole (refusal_json refusal)
refusal-whole refusal =
    (number-whole _ refusal.image _
    (with_some-whole _ _ _ (needs-whole refusal.reason) (text-whole _ _ no_members nothing-whole))).none

reported-whole : (b : Bool) (n : ℕ) (version : Version) → AreAllWhole (if b then versioned_json n version ∷ [] else [])
reported-whole true n version = value-whole _ [] (versioned-whole n version) none-whole
reported-whole false n version = none-whole

reports-whole : (is_taken : Bool) (n : ℕ) (images : List ReportedImage)
    → AreAllWhole (reported_images is_taken n images)
reports-whole is_taken n [] = none-whole
reports-whole is_taken n (image ∷ images) =
    append-whole (reported_json is_taken n image) (reported_images is_taken (n + 1) images)
    (reported-whole (if is_taken then image.is_taken else not image.is_taken) n image.version)
    (reports-whole is_taken (n + 1) images)

pub report-whole : (report : Report) (ms : Members) → AreWhole ms → AreWhole (with_report report ms)
report-whole report ms all =
    with_some-whole _ _ _ (reports-whole true 0 report.images.items)
    (with_some-whole _ _ _ (reports-whole false 0 report.images.items)
    (with_some-whole _ _ _ (map-whole refusal_json report.refusals.items refusal-whole) all))

pub code-whole : (code : ℕ) (name : List ℕ) (ms : Members) → AreWhole ms → AreWhole (json.with_code code name ms)
code-whole code name ms all = number-whole _ code _ (text-whole _ name ms all)

pub layer-whole : (layer : List ℕ) (code : ℕ) (name : List ℕ) (ms : Members) → AreWhole ms
    → IsWhole (layer_json layer code name ms)
layer-whole layer code name ms all = (text-whole _ layer _ (code-whole code name ms all)).none

upload-whole : (error : UploadError) → IsWhole (upload_json error)
upload-whole (NotAnImage check) = layer-whole _ _ _ _ (number-whole _ _ no_members nothing-whole)
upload-whole error = layer-whole _ _ _ no_members nothing-whole

pub fault-whole : (reason : Fault) → IsWhole (fault_json reason)
fault-whole (fault.Manifest error) = layer-whole _ _ _ no_members nothing-whole
fault-whole (fault.Upload error) = upload-whole error
fault-whole (fault.RunningDamaged n) = layer-whole _ _ _ _ (number-whole _ n no_members nothing-whole)
fault-whole reason = layer-whole _ _ _ no_members nothing-whole

pub refused-whole : (value : Data) → IsWhole value → AreWhole (json.with_refused value no_members)
refused-whole value whole = member-whole _ value no_members whole nothing-whole

pub notes-whole : (notes : List (List ℕ)) (ms : Members) → AreWhole ms → AreWhole (with_notes notes ms)
notes-whole notes ms all = with_some-whole _ _ ms (map-whole string notes (λ note. refl)) all

-- The numbers of a set.
pub set-whole : (set : ℕ) → AreAllWhole (set_numbers set)
set-whole set =
    map-whole number_json (flat_map (json.member set) (range_with_len 0 MOST_IMAGES)) (λ n. refl)

word-whole : (word : List ℕ) (ms : Members) → AreWhole ms → AreWhole (with_word word ms)
word-whole word ms all = text-whole _ word ms all

images-whole : (set : ℕ) (ms : Members) → AreWhole ms → AreWhole (with_set set ms)
images-whole set ms all = with_some-whole _ _ ms (set-whole set) all

pub reply-whole : (it : Reply) → AreWhole (reply_members it)
reply-whole reply.Done = word-whole _ no_members nothing-whole
reply-whole (reply.Booted table report permanent) = word-whole _ _ (report-whole report no_members nothing-whole)
reply-whole (reply.Reverted set) = word-whole _ _ (images-whole set no_members nothing-whole)
reply-whole (reply.TrialAgain set left) =
    word-whole _ _ (images-whole set _ (number-whole _ left no_members nothing-whole))
reply-whole (reply.Refused reason) = word-whole _ _ (refused-whole _ (fault-whole reason))
reply-whole reply.Cut = word-whole _ no_members nothing-whole
