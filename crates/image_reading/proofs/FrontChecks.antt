-- What the gathered fields of a front imply for the image at the beginning of bytes: the first
-- check that fails, or the description.
use Rattle.std.proofs.Common.{◌≡◌, ◌≢◌, ℕ, List, [], ◌∷◌, ◌++◌, drop, sym, ap, subst, ◌∙◌}
use Rattle.std.proofs.lemmas.List.{append-nil}
use Rattle.sha2.specs.Sha256.{sha256}
use Rattle.flash_model.specs.Chip.{Chip}
use Rattle.image_header.specs.declared.header.Header.{Header}
use Rattle.image_reading.specs.declared.desc.Desc.{Desc}
use Rattle.image_reading.specs.declared.error.ImageError.{ImageError}
use Rattle.image_reading.specs.declared.error.ImageError.TheVariants.{TrailingBytes}
use Rattle.image_reading.specs.declared.front.Front.{Front}
use Rattle.image_reading.specs.Area.{values_of}
use Rattle.image_reading.specs.Checks.{AllPass, Check, FailsWith}
use Rattle.image_reading.specs.Fault.{IsFirstFault, IsFrontFault}
use Rattle.image_reading.specs.Fields.{SpellCounter, SpellDigest, counter_check, counter_kind, dependency_kind, digest_checks, digest_kind, group_kind, need_checks}
use Rattle.image_reading.specs.Front.{HasGathered, IsFrontOf}
use Rattle.image_reading.specs.Gathered.{AreNeeds, HaveMetDependencies, HaveMetGroups, IsOccurrence}
use Rattle.image_reading.specs.Image.{BeginsIntact, Image, counter_values, dependency_values, entry_checks, group_values, hashed_bytes, image_bytes}
use Rattle.image_reading.specs.Reading.{entries_of}
use Rattle.image_reading.specs.SlotTlvs.{values_at}
use Rattle.image_reading.specs.Span.{bytes_of}
use Rattle.image_reading.proofs.AreaLaws.{entries_of-entries_bytes}
use Rattle.image_reading.proofs.Descriptions.{desc, trailing_check}
use Rattle.image_reading.proofs.CheckLaws.{NotAmong, fails_in_first, fails_in_second, fault_among}
use Rattle.image_reading.proofs.Needs.{PassesDigest, digest_passes, passes_counter, passes_needs}

-- ---- the fields that were read

-- The value of the only digest entry of a front is its digest.
abbrev pub ReadsDigest : Chip → Front → Type 0
ReadsDigest chip front = (values : List (List ℕ)) → IsOccurrence chip values [] front.unprotected.digest
    → SpellDigest values (bytes_of chip front.hashed)

-- This is the fault of the digest entries of a front.
abbrev pub ReadsDigestFault : Chip → Front → ImageError → Type 0
ReadsDigestFault chip front fault = (values : List (List ℕ)) → IsOccurrence chip values [] front.unprotected.digest
    → FailsWith (digest_checks values (bytes_of chip front.hashed)) fault

-- The gathered dependencies and groups of a front are those of a description.
abbrev pub ReadsNeeds : Front → Desc → Type 0
ReadsNeeds front needs = (values others : List (List ℕ))
    → HaveMetDependencies values [] needs.dependencies.items front.protected.dependencies
    → HaveMetGroups others [] needs.groups.items front.protected.groups → AreNeeds values others needs

-- This is the fault of the gathered dependencies and groups.
abbrev pub ReadsNeedsFault : Front → Desc → ImageError → Type 0
ReadsNeedsFault front needs fault = (values others : List (List ℕ))
    → HaveMetDependencies values [] needs.dependencies.items front.protected.dependencies
    → HaveMetGroups others [] needs.groups.items front.protected.groups → FailsWith (need_checks values others) fault

-- The gathered security counter of a front is this one.
abbrev pub ReadsCounter : Chip → Front → ℕ → Type 0
ReadsCounter chip front counter = (values : List (List ℕ)) → IsOccurrence chip values [] front.protected.counter
    → SpellCounter values counter

-- This is the fault of the gathered security counter.
abbrev pub ReadsCounterFault : Chip → Front → ImageError → Type 0
ReadsCounterFault chip front fault = (values : List (List ℕ)) → IsOccurrence chip values [] front.protected.counter
    → FailsWith (counter_check values) fault

-- ---- the same for the image

-- The values of a front's entries are the image's.
unprotected_values : (chip : Chip) (bytes : List ℕ) (front : Front) (image : Image) (kind : ℕ)
    → IsFrontOf chip bytes front image
    → values_at kind chip front.unprotected.entries ≡ values_of kind image.unprotected
unprotected_values chip bytes front image kind is =
    let read = (entries_of-entries_bytes image.unprotected is.begins.formed.unprotected.each).0 in
    ap (values_of kind) (ap entries_of is.unprotected ∙ read)

protected_values : (chip : Chip) (bytes : List ℕ) (front : Front) (image : Image) (kind : ℕ)
    → IsFrontOf chip bytes front image → values_at kind chip front.protected.entries ≡ values_of kind image.protected
protected_values chip bytes front image kind is =
    let read = (entries_of-entries_bytes image.protected is.begins.formed.protected.each).0 in
    ap (values_of kind) (ap entries_of is.protected ∙ read)

-- If the digest entry of a front holds its digest, the image's digest passes.
passes_digest : (chip : Chip) (bytes : List ℕ) (front : Front) (image : Image) → IsFrontOf chip bytes front image
    → SpellDigest (values_at digest_kind chip front.unprotected.entries) (bytes_of chip front.hashed)
    → PassesDigest image
passes_digest chip bytes front image is own =
    sym (unprotected_values chip bytes front image digest_kind is) ∙ own
    ∙ ap (λ (hashed : List ℕ). sha256 hashed ∷ []) is.hashed

digest_passed : (chip : Chip) (bytes : List ℕ) (front : Front) (image : Image) (needs : Desc)
    → IsFrontOf chip bytes front image → HasGathered chip front needs → ReadsDigest chip front → PassesDigest image
digest_passed chip bytes front image needs is gathered read =
    passes_digest chip bytes front image is
    (read (values_at digest_kind chip front.unprotected.entries) gathered.unprotected)

-- The needs of a front's entries are the image's.
has_needs : (chip : Chip) (bytes : List ℕ) (front : Front) (image : Image) (needs : Desc)
    → IsFrontOf chip bytes front image
    → AreNeeds (values_at dependency_kind chip front.protected.entries)
    (values_at group_kind chip front.protected.entries) needs
    → AreNeeds (dependency_values image) (group_values image) needs
has_needs chip bytes front image needs is needed =
    let same = protected_values chip bytes front image dependency_kind is in
    let same_groups = protected_values chip bytes front image group_kind is in
    let read = values_at group_kind chip front.protected.entries in
    let half = subst (λ (values : List (List ℕ)). AreNeeds values read needs) same needed in
    subst (λ (groups : List (List ℕ)). AreNeeds (dependency_values image) groups needs) same_groups half

needs_passed : (chip : Chip) (bytes : List ℕ) (front : Front) (image : Image) (needs : Desc)
    → IsFrontOf chip bytes front image → HasGathered chip front needs → ReadsNeeds front needs
    → AreNeeds (dependency_values image) (group_values image) needs
    × AllPass (need_checks (dependency_values image) (group_values image))
needs_passed chip bytes front image needs is gathered checked =
    let protected = gathered.protected in
    let own =
    checked (values_at dependency_kind chip front.protected.entries)
    (values_at group_kind chip front.protected.entries) protected.dependencies protected.groups in
    let needed = has_needs chip bytes front image needs is own in (
      needed,
      passes_needs image needs.dependencies.items needs.groups.items needed.dependencies needed.groups
          needed.few_dependencies needed.few_groups,
    )

-- ---- the first check that fails

-- The checks of an image's digest, and those after them.
abbrev first_checks : Image → List Check
first_checks image = digest_checks (values_of digest_kind image.unprotected) (hashed_bytes image)

abbrev later_checks : Image → List Check
later_checks image =
    need_checks (dependency_values image) (group_values image) ++ counter_check (counter_values image)

-- No fault of an entry is that bytes follow.
entry_not_behind : (image : Image) (fault : ImageError) → FailsWith (entry_checks image) fault
    → fault ≢ TrailingBytes
entry_not_behind image fault failed =
    let others : NotAmong (entry_checks image) TrailingBytes =
    ((λ e. cc), ((λ e. cc), ((λ e. cc), ((λ e. cc), ((λ e. cc), ((λ e. cc), ((λ e. cc), tt))))))) in
    fault_among (entry_checks image) fault TrailingBytes others failed

-- The fault of the entries is the first fault.
first_in_entries : (chip : Chip) (bytes : List ℕ) (front : Front) (image : Image) (fault : ImageError)
    → IsFrontOf chip bytes front image → FailsWith (entry_checks image) fault → IsFrontFault bytes fault
first_in_entries chip bytes front image fault is failed =
    let rest = drop front.length bytes in (
      IsFirstFault.in_entries image rest is.begins
          (fails_in_first (entry_checks image) (trailing_check rest) fault failed),
      entry_not_behind image fault failed,
    )

-- The fault of the digest entries is the first fault.
pub first_in_digest : (chip : Chip) (bytes : List ℕ) (front : Front) (image : Image) (needs : Desc)
    (fault : ImageError) → IsFrontOf chip bytes front image → HasGathered chip front needs
    → ReadsDigestFault chip front fault → IsFrontFault bytes fault
first_in_digest chip bytes front image needs fault is gathered failed =
    let read = values_at digest_kind chip front.unprotected.entries in
    let same = unprotected_values chip bytes front image digest_kind is in
    let found = failed read gathered.unprotected in
    let of_hashed = subst (λ (hashed : List ℕ). FailsWith (digest_checks read hashed) fault) is.hashed found in
    let own =
    subst (λ (values : List (List ℕ)). FailsWith (digest_checks values (hashed_bytes image)) fault) same of_hashed in
    first_in_entries chip bytes front image fault is
    (fails_in_first (first_checks image) (later_checks image) fault own)

-- If the digest passes, the fault of the dependencies and groups is the first fault.
pub first_in_needs : (chip : Chip) (bytes : List ℕ) (front : Front) (image : Image) (needs : Desc)
    (fault : ImageError) → IsFrontOf chip bytes front image → HasGathered chip front needs → ReadsDigest chip front
    → ReadsNeedsFault front needs fault → IsFrontFault bytes fault
first_in_needs chip bytes front image needs fault is gathered read failed =
    let dependencies = values_at dependency_kind chip front.protected.entries in
    let groups = values_at group_kind chip front.protected.entries in
    let found = failed dependencies groups gathered.protected.dependencies gathered.protected.groups in
    let same = protected_values chip bytes front image dependency_kind is in
    let same_groups = protected_values chip bytes front image group_kind is in
    let half = subst (λ (values : List (List ℕ)). FailsWith (need_checks values groups) fault) same found in
    let own =
    subst (λ (values : List (List ℕ)). FailsWith (need_checks (dependency_values image) values) fault) same_groups
    half in
    let digest = digest_passes _ (hashed_bytes image) (digest_passed chip bytes front image needs is gathered read) in
    let checks = need_checks (dependency_values image) (group_values image) in
    first_in_entries chip bytes front image fault is
    (fails_in_second (first_checks image) (later_checks image) fault digest
    (fails_in_first checks (counter_check (counter_values image)) fault own))

-- If these pass too, the fault of the security counter is the first fault.
pub first_in_counter : (chip : Chip) (bytes : List ℕ) (front : Front) (image : Image) (needs : Desc)
    (fault : ImageError) → IsFrontOf chip bytes front image → HasGathered chip front needs → ReadsDigest chip front
    → ReadsNeeds front needs → ReadsCounterFault chip front fault → IsFrontFault bytes fault
first_in_counter chip bytes front image needs fault is gathered read checked failed =
    let values = values_at counter_kind chip front.protected.entries in
    let found = failed values gathered.protected.counter in
    let same = protected_values chip bytes front image counter_kind is in
    let own = subst (λ (values : List (List ℕ)). FailsWith (counter_check values) fault) same found in
    let passes = (needs_passed chip bytes front image needs is gathered checked).1 in
    let digest = digest_passes _ (hashed_bytes image) (digest_passed chip bytes front image needs is gathered read) in
    first_in_entries chip bytes front image fault is
    (fails_in_second (first_checks image) (later_checks image) fault digest
    (fails_in_second (need_checks (dependency_values image) (group_values image))
    (counter_check (counter_values image)) fault passes own))

-- ---- the description

-- If a front passes all checks, the bytes begin with an intact image.
pub intact_front : (chip : Chip) (bytes : List ℕ) (front : Front) (image : Image) (digest : List ℕ) (needs : Desc)
    (counter : ℕ) → IsFrontOf chip bytes front image → HasGathered chip front needs → ReadsDigest chip front
    → ReadsNeeds front needs → digest ≡ sha256 (bytes_of chip front.hashed) → ReadsCounter chip front counter
    → BeginsIntact bytes
    (desc front.header.version counter front.header.flags front.length needs.dependencies.items needs.groups.items
    digest)
intact_front chip bytes front image digest needs counter is gathered read checked digest_is counted =
    let passed = needs_passed chip bytes front image needs is gathered checked in
    let values = values_at counter_kind chip front.protected.entries in
    let counts : SpellCounter (counter_values image) counter =
    subst (λ (v : List (List ℕ)). SpellCounter v counter) (protected_values chip bytes front image counter_kind is)
    (counted values gathered.protected.counter) in (
      image_bytes image,
      drop front.length bytes,
      is.begins.parts,
      (
        image,
        record { formed = is.begins.formed; parts = sym (append-nil (image_bytes image)) },
        record {
          version = ap (λ (header : Header). header.version) is.header;
          flags = ap (λ (header : Header). header.flags) is.header;
          length_of = is.length_of;
          digest = digest_is ∙ ap sha256 is.hashed;
          dependencies = passed.0.dependencies;
          groups = passed.0.groups;
          counter = counts;
        },
        passes_counter image counter (digest_passed chip bytes front image needs is gathered read) passed.1 counts,
      ),
    )
