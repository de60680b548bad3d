-- Bytes that begin with an image have its parts at the places that the header gives, and begin with
-- only one image.
use Rattle.std.proofs.Common.{◌≡◌, ℕ, ◌+◌, ◌-◌, ◌<◌, ◌≤◌, inl, inr, cond, eqb, None, Some, List, [], ◌++◌, length, take, drop, refl, sym, ap, ◌∙◌, append_assoc, arith}
use Rattle.std.proofs.lemmas.Bool.{cases_lt, eq-eqb, ne_eqb, cond-true, cond-false}
use Rattle.std.proofs.lemmas.List.{append-nil, append_cancel_left, length-append, length-drop, take_at}
use Rattle.image_header.specs.declared.header.Header.{Header}
use Rattle.image_header.specs.Header.{BeginsWith, header_bytes}
use Rattle.image_header.proofs.Laws.{length-header_bytes, header-unique}
use Rattle.image_reading.specs.Area.{Entry, FitsArea, area_bytes, entries_bytes, protected_magic, unprotected_magic}
use Rattle.image_reading.proofs.AreaLaws.{entries_of-entries_bytes}
use Rattle.image_reading.specs.Checks.{AllPass}
use Rattle.image_reading.specs.Fault.{entries_at, part_checks}
use Rattle.image_reading.specs.Image.{Image, IsWellFormed, BeginsWithImage, protected_bytes, hashed_bytes, image_bytes}
use Rattle.image_reading.specs.Reading.{entries_of}
use Rattle.image_reading.proofs.Areas.{HasProtectedArea, HasUnprotectedArea, IsAreaOf, area_from_bytes, area_passes, area_row, protected_passes, protected_place, unprotected_place}
use Rattle.image_reading.proofs.CheckLaws.{AllPass-append}
use Rattle.image_reading.proofs.Parts.{parts_of, regrouped}

-- ---- the parts of the image at the beginning of bytes

-- The bytes of a protected area that is absent or present.
pub protected_bytes-absent : (image : Image) → image.header.protected_size ≡ 0 → protected_bytes image ≡ []
protected_bytes-absent image none = cond-true (eqb image.header.protected_size 0) []
    (area_bytes protected_magic image.protected) (eq-eqb image.header.protected_size 0 none)

pub protected_bytes-there : (image : Image) → 0 < image.header.protected_size
    → protected_bytes image ≡ area_bytes protected_magic image.protected
protected_bytes-there image some = cond-false (eqb image.header.protected_size 0) []
    (area_bytes protected_magic image.protected) (ne_eqb image.header.protected_size 0 (λ e. omega arith))

-- The length of an area's bytes.
length-area_bytes : (magic : ℕ) (entries : List Entry)
    → length (area_bytes magic entries) ≡ 4 + length (entries_bytes entries)
length-area_bytes magic entries = omega arith

-- The bytes at the places of the parts of an image, which follow from the lengths of the parts.
record HasPartsAt (bytes : List ℕ) (image : Image) (trailing : List ℕ)
    (filler_place body_place protected_place unprotected_place : ℕ) : Type 0 where
  pub after_header : drop filler_place bytes ≡ image.filler ++
      (image.body ++ (protected_bytes image ++ (area_bytes unprotected_magic image.unprotected ++ trailing)))
  pub after_filler : drop body_place bytes ≡ image.body ++
      (protected_bytes image ++ (area_bytes unprotected_magic image.unprotected ++ trailing))
  pub protected : drop protected_place bytes ≡ protected_bytes image ++
      (area_bytes unprotected_magic image.unprotected ++ trailing)
  pub unprotected : drop unprotected_place bytes ≡ area_bytes unprotected_magic image.unprotected ++ trailing
  pub hashed : take unprotected_place bytes ≡ hashed_bytes image

-- The parts of bytes that begin with an image.
pub record HasParts (bytes : List ℕ) (image : Image) (trailing : List ℕ) : Type 0 where
  pub header : BeginsWith bytes image.header
  pub long : 32 ≤ image.header.header_size
  pub filler : take (image.header.header_size - 32) (drop 32 bytes) ≡ image.filler
  pub body : take image.header.body_size (drop image.header.header_size bytes) ≡ image.body
  pub protected : drop (protected_place image.header) bytes ≡ protected_bytes image ++
      (area_bytes unprotected_magic image.unprotected ++ trailing)
  pub unprotected : drop (unprotected_place image.header) bytes ≡ area_bytes unprotected_magic image.unprotected ++
      trailing
  pub hashed : take (unprotected_place image.header) bytes ≡ hashed_bytes image

-- The places of the parts, for plain lists.
parts_at : (bytes head : List ℕ) (image : Image) (trailing : List ℕ) (a b c d : ℕ)
    → bytes ≡ (head ++ (image.filler ++ (image.body ++ protected_bytes image))) ++
    (area_bytes unprotected_magic image.unprotected ++ trailing)
    → head ++ (image.filler ++ (image.body ++ protected_bytes image)) ≡ hashed_bytes image
    → length head ≡ a → length head + length image.filler ≡ b
    → length head + length image.filler + length image.body ≡ c
    → length head + length image.filler + length image.body + length (protected_bytes image) ≡ d
    → HasPartsAt bytes image trailing a b c d
parts_at bytes head image trailing a b c d e hashed at-a at-b at-c at-d =
    let parts =
    parts_of bytes head image.filler image.body (protected_bytes image)
    (area_bytes unprotected_magic image.unprotected ++ trailing) e in
    record {
      after_header = sym (ap (λ (k : ℕ). drop k bytes) at-a) ∙ parts.after_head;
      after_filler = sym (ap (λ (k : ℕ). drop k bytes) at-b) ∙ parts.after_filler;
      protected = sym (ap (λ (k : ℕ). drop k bytes) at-c) ∙ parts.after_body;
      unprotected = sym (ap (λ (k : ℕ). drop k bytes) at-d) ∙ parts.after_protected;
      hashed = sym (ap (λ (k : ℕ). take k bytes) at-d) ∙ parts.hashed ∙ hashed;
    }

pub parts_of_image : (bytes : List ℕ) (image : Image) (trailing : List ℕ) → BeginsWithImage bytes image trailing
    → HasParts bytes image trailing
parts_of_image bytes image trailing begins =
    let formed = begins.formed in
    let long : length (header_bytes image.header) ≡ 32 = length-header_bytes image.header in
    let e : bytes ≡ hashed_bytes image ++ (area_bytes unprotected_magic image.unprotected ++ trailing) =
    begins.parts ∙ append_assoc (hashed_bytes image) (area_bytes unprotected_magic image.unprotected) trailing in
    let parts =
    parts_at bytes (header_bytes image.header) image trailing 32 image.header.header_size
    (protected_place image.header) (unprotected_place image.header) e refl long
    (omega (arith, long, formed.header_size)) (omega (arith, long, formed.header_size, formed.body_size))
    (omega (arith, long, formed.header_size, formed.body_size, formed.protected_size)) in
    record {
      header = record {
        fits = formed.fits;
        rest = image.filler ++
            (image.body ++ (protected_bytes image ++ (area_bytes unprotected_magic image.unprotected ++ trailing)));
        parts = e
            ∙ regrouped (header_bytes image.header) image.filler image.body (protected_bytes image)
            (area_bytes unprotected_magic image.unprotected ++ trailing);
      };
      long = formed.accepted.long;
      filler = ap (take (image.header.header_size - 32)) parts.after_header
          ∙ take_at image.filler
          (image.body ++ (protected_bytes image ++ (area_bytes unprotected_magic image.unprotected ++ trailing)))
          (image.header.header_size - 32) (omega (arith, formed.header_size));
      body = ap (take image.header.body_size) parts.after_filler
          ∙ take_at image.body (protected_bytes image ++ (area_bytes unprotected_magic image.unprotected ++ trailing))
          image.header.body_size formed.body_size;
      protected = parts.protected;
      unprotected = parts.unprotected;
      hashed = parts.hashed;
    }

-- The length of bytes is that of a place, the part there, and the rest.
reaches : (bytes part rest : List ℕ) (place : ℕ) → drop place bytes ≡ part ++ rest → 0 < length part
    → place + length part + length rest ≡ length bytes
reaches bytes part rest place e some =
    let len : length bytes - place ≡ length part + length rest =
    sym (length-drop place bytes) ∙ ap length e ∙ length-append part rest in
    omega (arith, len, some)

-- The unprotected area of an image is at its place.
pub unprotected_of_image : (bytes : List ℕ) (image : Image) (trailing : List ℕ) → BeginsWithImage bytes image trailing
    → IsAreaOf bytes (unprotected_place image.header) unprotected_magic image.unprotected
unprotected_of_image bytes image trailing begins =
    let parts = parts_of_image bytes image trailing begins in
    let reach =
    reaches bytes (area_bytes unprotected_magic image.unprotected) trailing (unprotected_place image.header)
    parts.unprotected (omega arith) in
    area_from_bytes bytes trailing (unprotected_place image.header) unprotected_magic image.unprotected (omega arith)
    begins.formed.unprotected (omega (arith, reach)) parts.unprotected

-- The protected area of an image, if it has one, is at its place.
pub protected_of_image : (bytes : List ℕ) (image : Image) (trailing : List ℕ) → BeginsWithImage bytes image trailing
    → 0 < image.header.protected_size → IsAreaOf bytes (protected_place image.header) protected_magic image.protected
protected_of_image bytes image trailing begins some =
    let parts = parts_of_image bytes image trailing begins in
    let rest = area_bytes unprotected_magic image.unprotected ++ trailing in
    let e : drop (protected_place image.header) bytes ≡ area_bytes protected_magic image.protected ++ rest =
    parts.protected ∙ ap (λ (x : List ℕ). x ++ rest) (protected_bytes-there image some) in
    let reach =
    reaches bytes (area_bytes protected_magic image.protected) rest (protected_place image.header) e (omega arith) in
    area_from_bytes bytes rest (protected_place image.header) protected_magic image.protected (omega arith)
    begins.formed.protected (omega (arith, reach)) e

-- The length of the protected area is the one in the header.
protected_total : (bytes : List ℕ) (image : Image) (trailing : List ℕ) → BeginsWithImage bytes image trailing
    → 0 < image.header.protected_size → 4 + length (entries_bytes image.protected) ≡ image.header.protected_size
protected_total bytes image trailing begins some =
    sym (length-area_bytes protected_magic image.protected) ∙ sym (ap length (protected_bytes-there image some))
    ∙ begins.formed.protected_size

-- The protected area of an image is absent or passes its checks.
pub image_has_protected_area : (bytes : List ℕ) (image : Image) (trailing : List ℕ)
    → BeginsWithImage bytes image trailing → HasProtectedArea bytes image.header
image_has_protected_area bytes image trailing begins =
    protected_passes bytes (protected_place image.header) image.header.protected_size (λ some.
    let total = protected_total bytes image trailing begins some in
    area_passes bytes (protected_place image.header) protected_magic (Some image.header.protected_size)
    image.protected (protected_of_image bytes image trailing begins some) begins.formed.protected
    (total, omega arith))

pub image_has_unprotected_area : (bytes : List ℕ) (image : Image) (trailing : List ℕ)
    → BeginsWithImage bytes image trailing → HasUnprotectedArea bytes image.header
image_has_unprotected_area bytes image trailing begins =
    area_passes bytes (unprotected_place image.header) unprotected_magic None image.unprotected
    (unprotected_of_image bytes image trailing begins) begins.formed.unprotected (omega arith)

-- An image passes the checks of its header and of both areas.
pub image_passes_parts : (bytes : List ℕ) (image : Image) (trailing : List ℕ) → BeginsWithImage bytes image trailing
    → AllPass (part_checks bytes image.header)
image_passes_parts bytes image trailing begins =
    let last = area_row bytes (unprotected_place image.header) unprotected_magic None
    (image_has_unprotected_area bytes image trailing begins) in
    let areas = AllPass-append _ _ (image_has_protected_area bytes image trailing begins) last in
    (begins.formed.accepted.long, (begins.formed.accepted.known, areas))

-- ---- one image

-- The image at the beginning of bytes with this header, if there is one.
abbrev pub image_at : Header → List ℕ → Image
image_at header bytes = record {
  header = header;
  filler = take (header.header_size - 32) (drop 32 bytes);
  body = take header.body_size (drop header.header_size bytes);
  protected = cond (eqb header.protected_size 0) [] (entries_of (entries_at bytes (protected_place header)));
  unprotected = entries_of (entries_at bytes (unprotected_place header));
}

-- Images with the same parts are the same.
pub same_images : (header : Header) (f1 f2 b1 b2 : List ℕ) (p1 p2 u1 u2 : List Entry) → f1 ≡ f2 → b1 ≡ b2 → p1 ≡ p2
    → u1 ≡ u2
    → ◌≡◌ {A = Image} (record { header = header; filler = f1; body = b1; protected = p1; unprotected = u1 })
    (record { header = header; filler = f2; body = b2; protected = p2; unprotected = u2 })
same_images header f1 f2 b1 b2 p1 p2 u1 u2 f b p u = cc

-- The entries of an area of an image are those that are read at its place.
entries_read : (bytes : List ℕ) (place magic : ℕ) (entries : List Entry) → FitsArea entries
    → IsAreaOf bytes place magic entries → entries_of (entries_at bytes place) ≡ entries
entries_read bytes place magic entries fits area = ap entries_of area.entries_are
    ∙ (entries_of-entries_bytes entries fits.each).0

-- The image at the beginning of bytes is the one that is read there.
image_at-image : (bytes : List ℕ) (image : Image) (trailing : List ℕ) → BeginsWithImage bytes image trailing
    → image_at image.header bytes ≡ image
image_at-image bytes image trailing begins =
    let parts = parts_of_image bytes image trailing begins in
    let size = image.header.protected_size in
    let read = entries_of (entries_at bytes (protected_place image.header)) in
    let protected : cond (eqb size 0) [] read ≡ image.protected =
    elim (cases_lt 0 size) [
      | inl some ↦ cond-false (eqb size 0) [] read (ne_eqb size 0 (λ e. omega arith))
          ∙ entries_read bytes (protected_place image.header) protected_magic image.protected begins.formed.protected
          (protected_of_image bytes image trailing begins some)
      | inr none ↦ cond-true (eqb size 0) [] read (eq-eqb size 0 (omega arith))
          ∙ sym (begins.formed.absent (omega arith))
    ] in
    same_images image.header _ _ _ _ _ _ _ _ parts.filler parts.body protected
    (entries_read bytes (unprotected_place image.header) unprotected_magic image.unprotected begins.formed.unprotected
    (unprotected_of_image bytes image trailing begins))

-- Bytes begin with at most one image, and the same bytes follow it.
pub image-unique : (bytes : List ℕ) (first second : Image) (more other : List ℕ) → BeginsWithImage bytes first more
    → BeginsWithImage bytes second other → (first ≡ second) × (more ≡ other)
image-unique bytes first second more other a b =
    let header : first.header ≡ second.header =
    header-unique bytes first.header second.header (parts_of_image bytes first more a).header
    (parts_of_image bytes second other b).header in
    let same : first ≡ second =
    sym (image_at-image bytes first more a) ∙ ap (λ (h : Header). image_at h bytes) header
    ∙ image_at-image bytes second other b in
    let rest : image_bytes first ++ more ≡ image_bytes first ++ other =
    sym a.parts ∙ b.parts ∙ sym (ap (λ (i : Image). image_bytes i ++ other) same) in
    (same, append_cancel_left (image_bytes first) more other rest)

-- If the bytes of an image begin with those of another, the two are the same.
pub image_begins_no_other : (first second : Image) (more : List ℕ) → IsWellFormed first → IsWellFormed second
    → image_bytes second ≡ image_bytes first ++ more → (first ≡ second) × (more ≡ [])
image_begins_no_other first second more one two e =
    image-unique (image_bytes second) first second more [] (record { formed = one; parts = e })
    (record { formed = two; parts = sym (append-nil (image_bytes second)) })

-- At most one front of bytes is an image.
pub image_front-unique : (first second behind other : List ℕ) (one two : Image) → first ++ behind ≡ second ++ other
    → BeginsWithImage first one [] → BeginsWithImage second two [] → (first ≡ second) × (one ≡ two)
image_front-unique first second behind other one two e a b =
    let first_is : first ≡ image_bytes one = a.parts ∙ append-nil (image_bytes one) in
    let second_is : second ≡ image_bytes two = b.parts ∙ append-nil (image_bytes two) in
    let begins_one : BeginsWithImage (first ++ behind) one behind =
    record { formed = a.formed; parts = ap (λ (x : List ℕ). x ++ behind) first_is } in
    let begins_two : BeginsWithImage (first ++ behind) two other =
    record { formed = b.formed; parts = e ∙ ap (λ (x : List ℕ). x ++ other) second_is } in
    let same = (image-unique (first ++ behind) one two behind other begins_one begins_two).0 in
    (first_is ∙ ap image_bytes same ∙ sym second_is, same)
