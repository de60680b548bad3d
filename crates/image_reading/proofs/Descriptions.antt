-- An intact image has one description, and no check of it fails.
use Rattle.std.proofs.Common.{◌≡◌, ℕ, ◌+◌, ◌^◌, ◌<◌, ◌≤◌, inl, inr, List, [], ◌∷◌, ◌++◌, drop, length, refl, sym, ap, subst, ◌∙◌, arith}
use Rattle.std.proofs.lemmas.List.{append-nil, length-append, nil_from_length}
use Rattle.byteorder.specs.Endian.{little_number}
use Rattle.byteorder.specs.Numbers.{little_number-reads_back}
use Rattle.common.proofs.Items.{same_cons}
use Rattle.flash_model.specs.Chip.{Chip}
use Rattle.version_order.specs.declared.dependency.Dependency.{Dependency}
use Rattle.version_order.specs.declared.group.Group.{Group}
use Rattle.version_order.specs.declared.version.Version.{Version}
use Rattle.image_header.specs.declared.header.Header.{Header}
use Rattle.image_header.specs.Header.{BeginsWith}
use Rattle.image_header.proofs.Laws.{BeginsWith-length, BeginsWith-magic, header-unique}
use Rattle.image_reading.specs.declared.desc.Desc.{Desc}
use Rattle.image_reading.specs.declared.error.ImageError.{ImageError}
use Rattle.image_reading.specs.declared.error.ImageError.TheVariants.{TrailingBytes}
use Rattle.image_reading.specs.Checks.{AllPass, Check, FailsWith}
use Rattle.image_reading.specs.Fault.{IsFirstFault, IsFrontFault, head_checks, part_checks}
use Rattle.image_reading.specs.Fields.{SpellCounter, counter_bytes}
use Rattle.image_reading.specs.Front.{IsFront}
use Rattle.image_reading.specs.declared.front.Front.{Front}
use Rattle.image_reading.specs.Image.{BeginsIntact, BeginsWithImage, Describes, Image, IsIntact, counter_values, dependency_values, entry_checks, group_values, image_bytes}
use Rattle.image_reading.proofs.CheckLaws.{fails_in_second, passing_has_no_fault, second_fails}
use Rattle.image_reading.proofs.ImageLaws.{image_passes_parts, image-unique, parts_of_image}
use Rattle.image_reading.proofs.Needs.{dependencies-unique, groups-unique}

-- ---- one description

-- Numbers with the same four bytes are the same.
same_counter : (first second : ℕ) → first < 2 ^ 32 → second < 2 ^ 32
    → ◌≡◌ {A = List (List ℕ)} (counter_bytes first ∷ []) (counter_bytes second ∷ []) → first ≡ second
same_counter first second a b e =
    let same = (same_cons (counter_bytes first) (counter_bytes second) [] [] e).0 in
    sym (little_number-reads_back 4 first [] (omega (arith, a)))
    ∙ ap (λ (x : List ℕ). little_number 4 (x ++ [])) same ∙ little_number-reads_back 4 second [] (omega (arith, b))

-- Values encode one counter.
counter-unique : (values : List (List ℕ)) (first second : ℕ) → SpellCounter values first → SpellCounter values second
    → first ≡ second
counter-unique values first second a b =
    elim a.1 [
      | inl none ↦ elim b.1 [
        | inl none_too ↦ none.1 ∙ sym none_too.1
        | inr one ↦ absurd (omega (arith, ap length (sym none.0 ∙ one)))
      ]
      | inr one ↦ elim b.1 [
        | inl none ↦ absurd (omega (arith, ap length (sym none.0 ∙ one)))
        | inr one_too ↦ same_counter first second a.0 b.0 (sym one ∙ one_too)
      ]
    ]

-- Descriptions with the same fields are the same.
abbrev pub desc : Version → ℕ → ℕ → ℕ → List Dependency → List Group → List ℕ → Desc
desc version counter flags length dependencies groups digest = record {
  version = version;
  counter = counter;
  flags = flags;
  dependencies = record { items = dependencies };
  groups = record { items = groups };
  digest = digest;
  length = length;
}

same_descriptions : (v1 v2 : Version) (c1 c2 f1 f2 l1 l2 : ℕ) (d1 d2 : List Dependency) (g1 g2 : List Group)
    (h1 h2 : List ℕ) → v1 ≡ v2 → c1 ≡ c2 → f1 ≡ f2 → d1 ≡ d2 → g1 ≡ g2 → h1 ≡ h2 → l1 ≡ l2
    → desc v1 c1 f1 l1 d1 g1 h1 ≡ desc v2 c2 f2 l2 d2 g2 h2
same_descriptions v1 v2 c1 c2 f1 f2 l1 l2 d1 d2 g1 g2 h1 h2 v c f d g h l = cc

-- An image has one description.
description-unique : (image : Image) (first second : Desc) → Describes image first → Describes image second
    → first ≡ second
description-unique image first second a b =
    same_descriptions first.version second.version first.counter second.counter first.flags second.flags
    first.length second.length first.dependencies.items second.dependencies.items first.groups.items
    second.groups.items first.digest second.digest
    (a.version ∙ sym b.version)
    (counter-unique (counter_values image) first.counter second.counter a.counter b.counter)
    (a.flags ∙ sym b.flags)
    (dependencies-unique (dependency_values image) first.dependencies.items second.dependencies.items a.dependencies
    b.dependencies)
    (groups-unique (group_values image) first.groups.items second.groups.items a.groups b.groups)
    (a.digest ∙ sym b.digest)
    (a.length_of ∙ sym b.length_of)

-- Bytes are an intact image with one description.
pub intact-unique : (bytes : List ℕ) (first second : Desc) → IsIntact bytes first → IsIntact bytes second
    → first ≡ second
intact-unique bytes first second a b =
    let same : b.0 ≡ a.0 = (image-unique bytes b.0 a.0 [] [] b.1 a.1).0 in
    let described : Describes a.0 second = subst (λ (image : Image). Describes image second) same b.2 in
    description-unique a.0 first second a.2 described

-- ---- no fault

-- Bytes with a header have its length and magic number.
pub head_passes : (bytes : List ℕ) (header : Header) → BeginsWith bytes header → AllPass (head_checks bytes)
head_passes bytes header begins = (BeginsWith-length bytes header begins, (BeginsWith-magic bytes header begins, tt))

-- No check of the parts of an image fails.
pub no_part_fault : (bytes : List ℕ) (image : Image) (trailing : List ℕ) (header : Header) (fault : ImageError)
    → BeginsWithImage bytes image trailing → BeginsWith bytes header → FailsWith (part_checks bytes header) fault → ⊥
no_part_fault bytes image trailing header fault is begins failed =
    let own = (parts_of_image bytes image trailing is).header in
    let same : header ≡ image.header = header-unique bytes header image.header begins own in
    let here = subst (λ (h : Header). FailsWith (part_checks bytes h) fault) same failed in
    passing_has_no_fault (part_checks bytes image.header) fault (image_passes_parts bytes image trailing is) here

-- The check of what follows an image, alone and after those of the entries.
abbrev pub trailing_check : List ℕ → List Check
trailing_check trailing = (trailing ≡ [], TrailingBytes) ∷ []

abbrev pub last_checks : Image → List ℕ → List Check
last_checks image trailing = entry_checks image ++ trailing_check trailing

-- If the entries pass their checks, only the last check can fail.
no_fault_but_last : (bytes : List ℕ) (image : Image) (trailing : List ℕ) (fault : ImageError)
    → BeginsWithImage bytes image trailing → AllPass (entry_checks image) → IsFirstFault bytes fault
    → (fault ≡ TrailingBytes) × (trailing ≡ [] → ⊥)
no_fault_but_last bytes image trailing fault begins passes failed =
    elim failed [
      | IsFirstFault.in_head own ↦
          let header = (parts_of_image bytes image trailing begins).header in
          absurd (passing_has_no_fault (head_checks bytes) fault (head_passes bytes image.header header) own)
      | IsFirstFault.in_parts header header_begins own ↦
          absurd (no_part_fault bytes image trailing header fault begins header_begins own)
      | IsFirstFault.in_entries own own_trailing own_begins entry ↦
          let same = image-unique bytes own image own_trailing trailing own_begins begins in
          let behind = subst (λ (t : List ℕ). FailsWith (last_checks own t) fault) same.1 entry in
          let here = subst (λ (i : Image). FailsWith (last_checks i trailing) fault) same.0 behind in
          elim (second_fails (entry_checks image) (trailing_check trailing) fault passes here) [
            | inl last ↦ (last.1, last.0)
            | inr none ↦ absurd none.1
          ]
    ]

-- No check fails for an intact image.
pub intact_has_no_fault : (bytes : List ℕ) (description : Desc) (fault : ImageError) → IsIntact bytes description
    → IsFirstFault bytes fault → ⊥
intact_has_no_fault bytes description fault intact failed =
    (no_fault_but_last bytes intact.0 [] fault intact.1 intact.3 failed).1 refl

-- ---- the image at the beginning of bytes

-- Bytes begin with the image that their front is.
begins_with : (bytes : List ℕ) (description : Desc) (intact : BeginsIntact bytes description)
    → BeginsWithImage bytes intact.3.0 intact.1
begins_with bytes description intact = record {
  formed = intact.3.1.formed;
  parts = intact.2
      ∙ ap (λ (front : List ℕ). front ++ intact.1) (intact.3.1.parts ∙ append-nil (image_bytes intact.3.0));
}

-- No check fails for the image at the beginning of bytes.
pub front_has_no_fault : (bytes : List ℕ) (description : Desc) (fault : ImageError) → BeginsIntact bytes description
    → IsFrontFault bytes fault → ⊥
front_has_no_fault bytes description fault intact failed =
    let begins = begins_with bytes description intact in
    failed.1 (no_fault_but_last bytes intact.3.0 intact.1 fault begins intact.3.3 failed.0).0

-- The intact image at the beginning of bytes has one description.
pub front-unique : (bytes : List ℕ) (first second : Desc) → BeginsIntact bytes first → BeginsIntact bytes second
    → first ≡ second
front-unique bytes first second a b =
    let same : b.3.0 ≡ a.3.0 =
    (image-unique bytes b.3.0 a.3.0 b.1 a.1 (begins_with bytes second b) (begins_with bytes first a)).0 in
    let described : Describes a.3.0 second = subst (λ (image : Image). Describes image second) same b.3.2 in
    description-unique a.3.0 first second a.3.2 described

-- The length in the description is that of the image, and the rest follows it.
length_behind : (bytes : List ℕ) (description : Desc) (intact : BeginsIntact bytes description)
    → length bytes ≡ description.length + length intact.1
length_behind bytes description intact =
    let begins = begins_with bytes description intact in
    ap length begins.parts ∙ length-append (image_bytes intact.3.0) intact.1
    ∙ ap (λ (n : ℕ). n + length intact.1) (sym intact.3.2.length_of)

-- If bytes follow the image, that is the first fault.
pub first_behind : (bytes : List ℕ) (description : Desc) → BeginsIntact bytes description
    → description.length < length bytes → IsFirstFault bytes TrailingBytes
first_behind bytes description intact longer =
    let some : intact.1 ≡ [] → ⊥ = λ none.
    omega (arith, longer, length_behind bytes description intact, ap length none) in
    IsFirstFault.in_entries intact.3.0 intact.1 (begins_with bytes description intact)
    (fails_in_second (entry_checks intact.3.0) (trailing_check intact.1) TrailingBytes intact.3.3 (inl (some, refl)))

-- If no bytes follow the image, the bytes are that image.
pub intact_whole : (bytes : List ℕ) (description : Desc) → BeginsIntact bytes description
    → length bytes ≤ description.length → IsIntact bytes description
intact_whole bytes description intact whole =
    let none : intact.1 ≡ [] =
    nil_from_length intact.1 (omega (arith, whole, length_behind bytes description intact)) in
    let same : intact.0 ≡ bytes =
    sym (append-nil intact.0) ∙ ap (λ (rest : List ℕ). intact.0 ++ rest) (sym none) ∙ sym intact.2 in
    subst (λ (front : List ℕ). IsIntact front description) same intact.3

-- The image at the beginning of bytes, if it is intact, has the length in its description.
pub front_long : (chip : Chip) (bytes : List ℕ) (front : Front) (description : Desc) → IsFront chip bytes front
    → BeginsIntact bytes description → front.length ≡ description.length
front_long chip bytes front description found intact =
    let same : found.0 ≡ intact.3.0 =
    (image-unique bytes found.0 intact.3.0 (drop front.length bytes) intact.1 found.1.begins
    (begins_with bytes description intact)).0 in
    found.1.length_of ∙ ap (λ (image : Image). length (image_bytes image)) same ∙ sym intact.3.2.length_of
