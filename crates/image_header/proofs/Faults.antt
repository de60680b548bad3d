-- Laws about a header's faults: bytes have at most one, and none if they begin with an accepted
-- header.
use Rattle.std.specs.Prelude.{◌≡◌, ℕ, zero, suc, ◌<◌, ◌≤◌, List, length}
use Rattle.std.proofs.Common.{refl, sym, ap, subst, ◌∙◌, arith}
use Rattle.byteorder.specs.Endian.{little_number}
use Rattle.image_header.specs.declared.header.Header.{Header}
use Rattle.image_header.specs.declared.error.HeaderError.{HeaderError}
use Rattle.image_header.specs.declared.error.HeaderError.TheVariants.{Short, BadMagic, BadHeaderSize, UnsupportedFlags}
use Rattle.common.specs.Checks.{FailsFirst, PassBefore}
use Rattle.common.proofs.ChecksLaws.{FailsFirst-unique}
use Rattle.image_header.specs.Header.{BeginsWith, HasKnownFlags, IsAccepted, IsHeaderFault, header_magic}
use Rattle.image_header.proofs.Laws.{BeginsWith-length, BeginsWith-magic, header-unique}

-- The checks of a header, in their order.
abbrev header_check : List ℕ → ℕ → Type 0
header_check bytes zero = 32 ≤ length bytes
header_check bytes (suc zero) = little_number 4 bytes ≡ header_magic
header_check bytes (suc (suc zero)) = (header : Header) → BeginsWith bytes header → 32 ≤ header.header_size
header_check bytes place = (header : Header) → BeginsWith bytes header → HasKnownFlags header

-- The fault of each check that fails.
abbrev header_fault_at : ℕ → HeaderError
header_fault_at zero = Short
header_fault_at (suc zero) = BadMagic
header_fault_at (suc (suc zero)) = BadHeaderSize
header_fault_at place = UnsupportedFlags

-- A fault has its place among the checks.
fails_at : (bytes : List ℕ) (fault : HeaderError) → IsHeaderFault bytes fault
    → (place : ℕ) × FailsFirst (header_check bytes) place × (fault ≡ header_fault_at place)
fails_at bytes Short failed = (0, (tt, λ long. omega (arith, failed, long)), refl)
fails_at bytes BadMagic failed = (1, ((tt, failed.0), failed.1), refl)
fails_at bytes BadHeaderSize failed =
    let passed : PassBefore (header_check bytes) 2 =
    ((tt, BeginsWith-length bytes failed.0 failed.1), BeginsWith-magic bytes failed.0 failed.1) in
    (2, (passed, λ long. omega (arith, long failed.0 failed.1, failed.2)), refl)
fails_at bytes UnsupportedFlags failed =
    let long : header_check bytes (suc (suc zero)) = λ header begins.
    subst (λ (h : Header). 32 ≤ h.header_size) (header-unique bytes failed.0 header failed.1 begins) failed.2.long in
    let passed : PassBefore (header_check bytes) 3 =
    (((tt, BeginsWith-length bytes failed.0 failed.1), BeginsWith-magic bytes failed.0 failed.1), long) in
    (3, (passed, λ known. failed.2.unknown (known failed.0 failed.1)), refl)

-- Bytes have at most one fault.
pub header_fault-unique : (bytes : List ℕ) (first second : HeaderError)
    → IsHeaderFault bytes first → IsHeaderFault bytes second → first ≡ second
header_fault-unique bytes first second a b =
    let at = fails_at bytes first a in
    let too = fails_at bytes second b in
    at.2 ∙ ap header_fault_at (FailsFirst-unique (header_check bytes) at.0 too.0 at.1 too.1) ∙ sym too.2

-- Bytes that begin with an accepted header have no fault.
pub accepted_has_no_fault : (bytes : List ℕ) (header : Header) (fault : HeaderError)
    → BeginsWith bytes header → IsAccepted header → IsHeaderFault bytes fault → ⊥
accepted_has_no_fault bytes header Short begins accepted failed = omega
    (arith, failed, BeginsWith-length bytes header begins)
accepted_has_no_fault bytes header BadMagic begins accepted failed = failed.1 (BeginsWith-magic bytes header begins)
accepted_has_no_fault bytes header BadHeaderSize begins accepted failed =
    let short =
    subst (λ (h : Header). h.header_size < 32) (header-unique bytes failed.0 header failed.1 begins) failed.2 in
    omega (arith, short, accepted.long)
accepted_has_no_fault bytes header UnsupportedFlags begins accepted failed =
    let same = header-unique bytes failed.0 header failed.1 begins in
    subst (λ (h : Header). HasKnownFlags h → ⊥) same failed.2.unknown accepted.known
