-- If a header and its areas pass their checks, there is an image. If a check fails, there is none.
use Rattle.std.proofs.Common.{◌≡◌, ◌≢◌, ℕ, ◌+◌, ◌-◌, ◌<◌, ◌≤◌, ◌⊎◌, inl, inr, List, [], ◌++◌, length, take, drop, Option, None, Some, refl, sym, ap, subst, ◌∙◌, append_assoc, arith}
use Rattle.std.proofs.lemmas.List.{length-append, length-drop, length-take-le, take-append-drop}
use Rattle.image_header.specs.declared.header.Header.{Header}
use Rattle.image_header.specs.declared.error.HeaderError.{HeaderError}
use Rattle.image_header.specs.declared.error.HeaderError.TheVariants as header_fault
use Rattle.image_header.specs.Header.{BeginsWith, IsAccepted, IsHeaderFault, header_bytes}
use Rattle.image_header.proofs.Laws.{header_bytes-rest}
use Rattle.flash_model.specs.Chip.{Chip}
use Rattle.image_reading.specs.declared.error.ImageError.{ImageError}
use Rattle.image_reading.specs.declared.error.ImageError.TheVariants.{Truncated, BadTlvMagic, BadTlvSize, TrailingBytes}
use Rattle.image_reading.specs.declared.front.Front.{Front}
use Rattle.image_reading.specs.Area.{Entry, FitsArea, area_bytes, entries_bytes, protected_magic, unprotected_magic}
use Rattle.common.specs.Bytes.{IsBytes}
use Rattle.image_reading.specs.Fault.{BeginsAccepted, IsAreaFault, IsFirstFault, IsFrontFault, IsTotal, area_checks, image_fault, total_at, entries_at}
use Rattle.image_reading.specs.Front.{IsFront, IsProtected}
use Rattle.image_reading.specs.Image.{Image, BeginsWithImage, protected_bytes, hashed_bytes, image_bytes}
use Rattle.image_reading.specs.Span.{bytes_of}
use Rattle.common.proofs.Items.{drop-from}
use Rattle.image_reading.proofs.Areas.{HasProtectedArea, HasUnprotectedArea, IsAreaOf, drop-area, area_of_entries, protected_fails, protected_passes, protected_place, unprotected_place}
use Rattle.image_reading.proofs.CheckLaws.{fails_in_first, fails_in_second, fault_among}
use Rattle.image_reading.proofs.ImageLaws.{parts_of_image, protected_bytes-absent, protected_bytes-there}
use Rattle.image_reading.proofs.Parts.{whole_of}

-- ---- an image from its parts

-- The image with this header and these entries, and with its other parts from the bytes.
abbrev pub front_image : Header → List ℕ → List Entry → List Entry → Image
front_image header bytes protected unprotected = record {
  header = header;
  filler = take (header.header_size - 32) (drop 32 bytes);
  body = take header.body_size (drop header.header_size bytes);
  protected = protected;
  unprotected = unprotected;
}

-- The entries of the protected area, which is absent or at its place.
abbrev pub IsProtectedOf : List ℕ → Header → List Entry → Type 0
IsProtectedOf bytes header protected = ((header.protected_size ≡ 0) × (protected ≡ []))
    ⊎ ((0 < header.protected_size) × IsAreaOf bytes (protected_place header) protected_magic protected
    × (total_at bytes (protected_place header) ≡ header.protected_size))

-- The bytes of the protected area are before the unprotected area.
drop-protected : (bytes : List ℕ) (header : Header) (protected unprotected : List Entry) → IsBytes bytes
    → IsProtectedOf bytes header protected
    → drop (protected_place header) bytes ≡ protected_bytes (front_image header bytes protected unprotected) ++ drop
    (unprotected_place header) bytes
drop-protected bytes header protected unprotected fits (inl absent) =
    let image = front_image header bytes protected unprotected in
    ap (λ (k : ℕ). drop k bytes) (omega (arith, absent.0))
    ∙ sym (ap (λ (x : List ℕ). x ++ drop (unprotected_place header) bytes) (protected_bytes-absent image absent.0))
drop-protected bytes header protected unprotected fits (inr there) =
    let image = front_image header bytes protected unprotected in
    drop-area bytes (protected_place header) protected_magic protected fits there.1
    ∙ ap (λ (k : ℕ). area_bytes protected_magic protected ++ drop (protected_place header + k) bytes) there.2
    ∙ sym (ap (λ (x : List ℕ). x ++ drop (unprotected_place header) bytes) (protected_bytes-there image there.0))

-- The length of the protected area.
length-protected : (bytes : List ℕ) (header : Header) (protected unprotected : List Entry)
    → IsProtectedOf bytes header protected
    → length (protected_bytes (front_image header bytes protected unprotected)) ≡ header.protected_size
length-protected bytes header protected unprotected (inl absent) =
    ap length (protected_bytes-absent (front_image header bytes protected unprotected) absent.0) ∙ sym absent.0
length-protected bytes header protected unprotected (inr there) =
    let long : length (area_bytes protected_magic protected) ≡ 4 + length (entries_bytes protected) = omega arith in
    ap length (protected_bytes-there (front_image header bytes protected unprotected) there.0)
    ∙ omega (arith, long, there.1.total, there.2)

absent_entries : (bytes : List ℕ) (header : Header) (protected : List Entry) → IsProtectedOf bytes header protected
    → header.protected_size ≡ 0 → protected ≡ []
absent_entries bytes header protected (inl absent) none = absent.1
absent_entries bytes header protected (inr there) none = absurd (omega (arith, there.0))

-- Bytes begin with an image if its header and its areas are at their places.
pub image_from_areas : (bytes : List ℕ) (header : Header) (protected unprotected : List Entry) → IsBytes bytes
    → BeginsWith bytes header → IsAccepted header
    → IsProtectedOf bytes header protected → FitsArea protected
    → IsAreaOf bytes (unprotected_place header) unprotected_magic unprotected → FitsArea unprotected
    → BeginsWithImage bytes (front_image header bytes protected unprotected)
    (drop (unprotected_place header + total_at bytes (unprotected_place header)) bytes)
image_from_areas bytes header protected unprotected fits begins accepted protected_is protected_fits area
    unprotected_fits =
    let image = front_image header bytes protected unprotected in
    let trailing = drop (unprotected_place header + total_at bytes (unprotected_place header)) bytes in
    let long = accepted.long in
    let near = area.head in
    let filler : drop 32 bytes ≡ image.filler ++ drop header.header_size bytes =
    sym (take-append-drop (header.header_size - 32) (drop 32 bytes))
    ∙ ap (λ (x : List ℕ). image.filler ++ x)
    (drop-from (header.header_size - 32) 32 header.header_size bytes (omega (arith, long))) in
    let body : drop header.header_size bytes ≡ image.body ++ drop (protected_place header) bytes =
    sym (take-append-drop header.body_size (drop header.header_size bytes))
    ∙ ap (λ (x : List ℕ). image.body ++ x)
    (drop-from header.body_size header.header_size (protected_place header) bytes refl) in
    let head : bytes ≡ header_bytes header ++ drop 32 bytes =
    begins.parts ∙ ap (λ (x : List ℕ). header_bytes header ++ x) (header_bytes-rest bytes header begins) in
    let whole =
    whole_of bytes (header_bytes header) image.filler image.body (protected_bytes image)
    (drop (unprotected_place header) bytes) (drop 32 bytes) (drop header.header_size bytes)
    (drop (protected_place header) bytes)
    head filler body (drop-protected bytes header protected unprotected fits protected_is) in
    let last : drop (unprotected_place header) bytes ≡ area_bytes unprotected_magic unprotected ++ trailing =
    drop-area bytes (unprotected_place header) unprotected_magic unprotected fits area in
    record {
      formed = record {
        fits = begins.fits;
        accepted = accepted;
        header_size = omega (
          arith,
          long,
          near,
          length-take-le (header.header_size - 32) (drop 32 bytes)
              (omega (arith, near, length-drop 32 bytes)),
        );
        body_size = length-take-le header.body_size (drop header.header_size bytes)
            (omega (arith, near, length-drop header.header_size bytes));
        protected_size = length-protected bytes header protected unprotected protected_is;
        protected = protected_fits;
        unprotected = unprotected_fits;
        absent = absent_entries bytes header protected protected_is;
      };
      parts = whole ∙ ap (λ (x : List ℕ). hashed_bytes image ++ x) last
          ∙ sym (append_assoc (hashed_bytes image) (area_bytes unprotected_magic unprotected) trailing);
    }

-- ---- the image of a front

-- The entries of a protected area that was found.
abbrev FoundProtected : List ℕ → Header → List ℕ → Type 0
FoundProtected bytes header found = (protected : List Entry) × IsProtectedOf bytes header protected
    × FitsArea protected × (found ≡ entries_bytes protected)

found_protected : (bytes found : List ℕ) (header : Header)
    → IsProtected bytes (protected_place header) header.protected_size found → FoundProtected bytes header found
found_protected bytes found header (inl absent) =
    ([], inl (absent.0, refl), record { each = tt; whole = omega arith }, absent.1)
found_protected bytes found header (inr there) =
    let size = Some header.protected_size in
    let filled = there.1.1 in
    let total : (total_at bytes (protected_place header) ≡ header.protected_size)
    × (4 ≤ total_at bytes (protected_place header)) = there.1.0.0.1 in
    let area = area_of_entries bytes (protected_place header) protected_magic size filled.0 there.1 total.1 filled.2 in
    (filled.0, inr (there.0, area, total.0), filled.1, there.2 ∙ filled.2)

-- The length of an image is the place of the bytes after it.
length-image : (bytes : List ℕ) (image : Image) (place : ℕ) → place ≤ length bytes
    → BeginsWithImage bytes image (drop place bytes) → place ≡ length (image_bytes image)
length-image bytes image place near begins =
    let len : length bytes ≡ length (image_bytes image) + (length bytes - place) =
    ap length begins.parts ∙ length-append (image_bytes image) (drop place bytes)
    ∙ ap (λ (k : ℕ). length (image_bytes image) + k) (length-drop place bytes) in
    omega (arith, len, near)

-- A front that was found is an image, by its parts.
pub is_front : (chip : Chip) (bytes : List ℕ) (front : Front) → IsBytes bytes → BeginsWith bytes front.header
    → IsAccepted front.header
    → IsProtected bytes (protected_place front.header) front.header.protected_size
    (bytes_of chip front.protected.entries)
    → HasUnprotectedArea bytes front.header
    → bytes_of chip front.unprotected.entries ≡ entries_at bytes (unprotected_place front.header)
    → bytes_of chip front.hashed ≡ take (unprotected_place front.header) bytes
    → front.length ≡ unprotected_place front.header + 4 + length (bytes_of chip front.unprotected.entries)
    → IsFront chip bytes front
is_front chip bytes front fits begins accepted protected_is area unprotected_is hashed_is length_is =
    let header = front.header in
    let protected = found_protected bytes (bytes_of chip front.protected.entries) header protected_is in
    let unprotected = area.1 in
    let place = unprotected_place header in
    let last = area_of_entries bytes place unprotected_magic None unprotected.0 area area.0.0.1 unprotected.2 in
    let image = front_image header bytes protected.0 unprotected.0 in
    let entries : bytes_of chip front.unprotected.entries ≡ entries_bytes unprotected.0 =
    unprotected_is ∙ unprotected.2 in
    let end : unprotected_place header + total_at bytes (unprotected_place header) ≡ front.length =
    omega (arith, length_is, last.total, ap length entries) in
    let lies = image_from_areas bytes header protected.0 unprotected.0 fits begins accepted protected.1 protected.2
    last unprotected.1 in
    let lies_there : BeginsWithImage bytes image (drop front.length bytes) =
    subst (λ (k : ℕ). BeginsWithImage bytes image (drop k bytes)) end lies in
    let near : front.length ≤ length bytes = omega (arith, end, last.within) in (
      image,
      record {
        begins = lies_there;
        header = refl;
        hashed = hashed_is ∙ (parts_of_image bytes image (drop front.length bytes) lies_there).hashed;
        protected = protected.3;
        unprotected = entries;
        length_of = length-image bytes image front.length near lies_there;
        within = near;
      },
    )

-- ---- if a check fails

-- The fault of the header is the first fault.
first_in_header : (bytes : List ℕ) (own : HeaderError) → IsHeaderFault bytes own
    → IsFirstFault bytes (image_fault own)
first_in_header bytes header_fault.Short failed =
    IsFirstFault.in_head (inl (λ long. omega (arith, failed, long), refl))
first_in_header bytes header_fault.BadMagic failed =
    IsFirstFault.in_head (inr (failed.0, inl (failed.1, refl)))
first_in_header bytes header_fault.BadHeaderSize failed =
    IsFirstFault.in_parts failed.0 failed.1 (inl (λ long. omega (arith, failed.2, long), refl))
first_in_header bytes header_fault.UnsupportedFlags failed =
    IsFirstFault.in_parts failed.0 failed.1 (inr (failed.2.long, inl (failed.2.unknown, refl)))

-- No fault of a header or of an area is that bytes follow.
header_not_behind : (own : HeaderError) → image_fault own ≢ TrailingBytes
header_not_behind header_fault.Short = λ behind. cc
header_not_behind header_fault.BadMagic = λ behind. cc
header_not_behind header_fault.BadHeaderSize = λ behind. cc
header_not_behind header_fault.UnsupportedFlags = λ behind. cc

truncated_not_behind : Truncated ≢ TrailingBytes
truncated_not_behind = λ behind. cc

magic_not_behind : BadTlvMagic ≢ TrailingBytes
magic_not_behind = λ behind. cc

size_not_behind : BadTlvSize ≢ TrailingBytes
size_not_behind = λ behind. cc

area_not_behind : (bytes : List ℕ) (place magic : ℕ) (expected : Option ℕ) (fault : ImageError)
    → IsAreaFault bytes place magic expected fault → fault ≢ TrailingBytes
area_not_behind bytes place magic expected fault failed =
    fault_among (area_checks bytes place magic (IsTotal expected)) fault TrailingBytes
    (truncated_not_behind, (magic_not_behind, (size_not_behind, (truncated_not_behind, (size_not_behind, tt)))))
    failed

-- The fault of the header, or of the protected area, is the first fault, whatever follows.
pub front_in_header : (bytes : List ℕ) (own : HeaderError) → IsHeaderFault bytes own
    → IsFrontFault bytes (image_fault own)
front_in_header bytes own failed = (first_in_header bytes own failed, header_not_behind own)

pub front_in_protected : (bytes : List ℕ) (header : Header) (fault : ImageError) → BeginsAccepted bytes header
    → 0 < header.protected_size
    → IsAreaFault bytes (protected_place header) protected_magic (Some header.protected_size) fault
    → IsFrontFault bytes fault
front_in_protected bytes header fault begins some failed =
    let own = protected_fails bytes (protected_place header) header.protected_size fault some failed in (
      IsFirstFault.in_parts header begins.0
          (inr (begins.1.long, inr (begins.1.known, fails_in_first _ _ fault own))),
      area_not_behind bytes (protected_place header) protected_magic (Some header.protected_size) fault failed,
    )

-- The fault of the unprotected area is the first fault, whatever follows.
pub front_in_unprotected : (bytes : List ℕ) (header : Header) (fault : ImageError) → BeginsAccepted bytes header
    → HasProtectedArea bytes header → IsAreaFault bytes (unprotected_place header) unprotected_magic None fault
    → IsFrontFault bytes fault
front_in_unprotected bytes header fault begins before failed = (
  IsFirstFault.in_parts header begins.0
      (inr (begins.1.long, inr (begins.1.known, fails_in_second _ _ fault before failed))),
  area_not_behind bytes (unprotected_place header) unprotected_magic None fault failed,
)

-- A protected area that was found passes its checks.
pub found_passes : (bytes found : List ℕ) (header : Header)
    → IsProtected bytes (protected_place header) header.protected_size found → HasProtectedArea bytes header
found_passes bytes found header (inl absent) =
    protected_passes bytes (protected_place header) header.protected_size
    (λ some. absurd (omega (arith, absent.0, some)))
found_passes bytes found header (inr there) =
    protected_passes bytes (protected_place header) header.protected_size (λ some. there.1)
