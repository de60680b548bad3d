-- Bytes have at most one first fault: the checks are in a row, and each has its own fault.
use Rattle.std.proofs.Common.{◌≡◌, ℕ, List, subst}
use Rattle.image_header.specs.declared.header.Header.{Header}
use Rattle.image_header.proofs.Laws.{header-unique}
use Rattle.image_reading.specs.declared.error.ImageError.{ImageError}
use Rattle.image_reading.specs.Checks.{FailsWith}
use Rattle.image_reading.specs.Fault.{IsFirstFault, head_checks, part_checks}
use Rattle.image_reading.specs.Image.{BeginsWithImage, Image}
use Rattle.image_reading.proofs.CheckLaws.{FailsWith-unique, passing_has_no_fault}
use Rattle.image_reading.proofs.Descriptions.{head_passes, last_checks, no_part_fault}
use Rattle.image_reading.proofs.ImageLaws.{image-unique, parts_of_image}

-- The checks before the header's fields don't fail for an image.
no_head_fault : (bytes : List ℕ) (image : Image) (trailing : List ℕ) (fault : ImageError)
    → BeginsWithImage bytes image trailing → FailsWith (head_checks bytes) fault → ⊥
no_head_fault bytes image trailing fault begins failed =
    let header = (parts_of_image bytes image trailing begins).header in
    passing_has_no_fault (head_checks bytes) fault (head_passes bytes image.header header) failed

-- The header at the beginning of bytes has at most one fault.
part_fault-unique : (bytes : List ℕ) (header own : Header) (first second : ImageError)
    → ◌≡◌ {A = Header} own header → FailsWith (part_checks bytes header) first
    → FailsWith (part_checks bytes own) second → first ≡ second
part_fault-unique bytes header own first second same a b =
    FailsWith-unique (part_checks bytes header) first second a
    (subst (λ (h : Header). FailsWith (part_checks bytes h) second) same b)

-- The image at the beginning of bytes has at most one such fault.
entry_fault-unique : (bytes : List ℕ) (image own : Image) (trailing own_trailing : List ℕ) (first second : ImageError)
    → BeginsWithImage bytes image trailing → BeginsWithImage bytes own own_trailing
    → FailsWith (last_checks image trailing) first → FailsWith (last_checks own own_trailing) second
    → first ≡ second
entry_fault-unique bytes image own trailing own_trailing first second begins own_begins a b =
    let same = image-unique bytes own image own_trailing trailing own_begins begins in
    let there = subst (λ (i : Image). FailsWith (last_checks i own_trailing) second) same.0 b in
    let here = subst (λ (t : List ℕ). FailsWith (last_checks image t) second) same.1 there in
    FailsWith-unique (last_checks image trailing) first second a here

-- Bytes have at most one first fault.
pub first_fault-unique : (bytes : List ℕ) (first second : ImageError) → IsFirstFault bytes first
    → IsFirstFault bytes second → first ≡ second
first_fault-unique bytes first second a b =
    elim a [
      | IsFirstFault.in_head failed ↦ elim b [
        | IsFirstFault.in_head too ↦ FailsWith-unique (head_checks bytes) first second failed too
        | IsFirstFault.in_parts header begins own ↦
            absurd (passing_has_no_fault (head_checks bytes) first (head_passes bytes header begins) failed)
        | IsFirstFault.in_entries image trailing begins own ↦
            absurd (no_head_fault bytes image trailing first begins failed)
      ]
      | IsFirstFault.in_parts header begins failed ↦ elim b [
        | IsFirstFault.in_head too ↦
            absurd (passing_has_no_fault (head_checks bytes) second (head_passes bytes header begins) too)
        | IsFirstFault.in_parts own own_begins too ↦
            part_fault-unique bytes header own first second (header-unique bytes own header own_begins begins)
            failed too
        | IsFirstFault.in_entries image trailing is own ↦
            absurd (no_part_fault bytes image trailing header first is begins failed)
      ]
      | IsFirstFault.in_entries image trailing begins failed ↦ elim b [
        | IsFirstFault.in_head too ↦ absurd (no_head_fault bytes image trailing second begins too)
        | IsFirstFault.in_parts header header_begins own ↦
            absurd (no_part_fault bytes image trailing header second begins header_begins own)
        | IsFirstFault.in_entries own own_trailing own_begins too ↦
            entry_fault-unique bytes image own trailing own_trailing first second begins own_begins failed too
      ]
    ]
