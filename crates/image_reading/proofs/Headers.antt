-- The header in the first 32 bytes is the header of all bytes.
use Rattle.std.proofs.Common.{◌≡◌, ℕ, ◌≤◌, List, ◌++◌, length, take, drop, Result, Ok, Err, sym, subst, ap, ◌∙◌, append_assoc, arith}
use Rattle.std.specs.Prelude.{IfErr, IfOk}
use Rattle.std.proofs.lemmas.List.{length-take-le, take-append-drop}
use Rattle.byteorder.specs.Numbers.{little_from-take}
use Rattle.image_header.specs.declared.header.Header.{Header}
use Rattle.image_header.specs.declared.error.HeaderError.{HeaderError}
use Rattle.image_header.specs.declared.error.HeaderError.TheVariants.{Short, BadMagic, BadHeaderSize, UnsupportedFlags}
use Rattle.image_header.specs.Header.{BeginsWith, IsAccepted, IsHeaderFault, header_bytes}
use Rattle.image_reading.specs.Fault.{BeginsAccepted}

-- If the first 32 bytes begin with a header, so do all bytes.
BeginsWith-first : (bytes : List ℕ) (header : Header) → BeginsWith (take 32 bytes) header → BeginsWith bytes header
BeginsWith-first bytes header begins = record {
  fits = begins.fits;
  rest = begins.rest ++ drop 32 bytes;
  parts = sym (take-append-drop 32 bytes) ∙ ap (λ (front : List ℕ). front ++ drop 32 bytes) begins.parts
      ∙ append_assoc (header_bytes header) begins.rest (drop 32 bytes);
}

-- The fault of the first 32 bytes is that of all bytes.
IsHeaderFault-first : (bytes : List ℕ) (fault : HeaderError) → 32 ≤ length bytes → IsHeaderFault (take 32 bytes) fault
    → IsHeaderFault bytes fault
IsHeaderFault-first bytes Short long failed = absurd (omega (arith, failed, length-take-le 32 bytes long))
IsHeaderFault-first bytes BadMagic long failed =
    (long, λ magic. failed.1 (little_from-take 0 4 32 bytes (omega arith) ∙ magic))
IsHeaderFault-first bytes BadHeaderSize long failed = (failed.0, BeginsWith-first bytes failed.0 failed.1, failed.2)
IsHeaderFault-first bytes UnsupportedFlags long failed = (failed.0, BeginsWith-first bytes failed.0 failed.1, failed.2)

-- A header that was read from the first 32 bytes is that of all bytes.
pub header_read : (bytes first : List ℕ) (result : Result Header HeaderError) → first ≡ take 32 bytes
    → IfOk result (λ header. BeginsWith first header × IsAccepted header) → IfOk result (BeginsAccepted bytes)
header_read bytes first (Ok header) e read =
    (BeginsWith-first bytes header (subst (λ (b : List ℕ). BeginsWith b header) e read.0), read.1)
header_read bytes first (Err fault) e read = tt

-- A fault that was found in the first 32 bytes is that of all bytes.
pub header_failed : (bytes first : List ℕ) (result : Result Header HeaderError) → first ≡ take 32 bytes
    → 32 ≤ length bytes → IfErr result (IsHeaderFault first) → IfErr result (IsHeaderFault bytes)
header_failed bytes first (Ok header) e long failed = tt
header_failed bytes first (Err fault) e long failed =
    IsHeaderFault-first bytes fault long (subst (λ (b : List ℕ). IsHeaderFault b fault) e failed)
