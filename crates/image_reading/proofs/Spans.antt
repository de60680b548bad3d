-- Spans of spans, and the bytes that are read from them.
use Rattle.std.proofs.Common.{◌≡◌, ℕ, zero, suc, ◌+◌, ◌-◌, ◌^◌, ◌<◌, ◌≤◌, true, List, [], ◌∷◌, ◌++◌, length, take, drop, refl, sym, ap, subst, ◌∙◌, append_assoc, arith}
use Rattle.std.proofs.Math.Seq.{take-length}
use Rattle.std.proofs.lemmas.List.{append-nil, take-append-drop, drop-drop, drop-take, ext_get_or, get_or-drop, get_or-take, length-drop, length-take-le}
use Rattle.sha2.specs.declared.Sha256.{Sha256}
use Rattle.sha2.specs.Hashers.{Holds256}
use Rattle.common.specs.Bytes.{IsBytes}
use Rattle.common.proofs.Bytes.{IsBytes-drop, IsBytes-take}
use Rattle.flash_model.specs.Chip.{Chip, Reads}
use Rattle.image_reading.specs.declared.span.Span.{Span}
use Rattle.image_reading.specs.Memory.{memory_chip}
use Rattle.image_reading.specs.Span.{CanRead, bytes_of}

-- ---- spans of spans

-- The first n of the first m are the first n, if n isn't greater.
pub take-take : (n m : ℕ) (xs : List ℕ) → n ≤ m → take n (take m xs) ≡ take n xs
take-take zero m xs less = refl
take-take (suc n) zero xs less = absurd (omega (arith, less))
take-take (suc n) (suc m) [] less = refl
take-take (suc n) (suc m) (x ∷ xs) less =
    ap (λ (rest : List ℕ). x ∷ rest) (take-take n m xs (omega (arith, less)))

-- The bytes of the first part of a span.
pub bytes_of-first : (chip : Chip) (span : Span) (n : ℕ) → n ≤ span.len
    → bytes_of chip (record { at = span.at; len = n }) ≡ take n (bytes_of chip span)
unfolding bytes_of
bytes_of-first chip span n less = sym (take-take n span.len (drop span.at chip.bytes) less)

-- The bytes of the rest of a span.
pub bytes_of-after : (chip : Chip) (span : Span) (n : ℕ) → n ≤ span.len
    → bytes_of chip (record { at = span.at + n; len = span.len - n }) ≡ drop n (bytes_of chip span)
unfolding bytes_of
bytes_of-after chip span n less =
    ap (take (span.len - n)) (sym (drop-drop n span.at chip.bytes))
    ∙ sym (drop-take n (span.len - n) (drop span.at chip.bytes))
    ∙ ap (λ (k : ℕ). drop n (take k (drop span.at chip.bytes))) (omega (arith, less))

-- A span of no bytes.
pub bytes_of-none : (chip : Chip) (span : Span) → span.len ≡ 0 → bytes_of chip span ≡ []
unfolding bytes_of
bytes_of-none chip span none = ap (λ (n : ℕ). take n (drop span.at chip.bytes)) none

-- ---- what can be read

-- If a span is inside the flash, it has its length in bytes.
length-bytes_of : (chip : Chip) (span : Span) → span.at + span.len ≤ length chip.bytes
    → length (bytes_of chip span) ≡ span.len
unfolding bytes_of
length-bytes_of chip span inside =
    length-take-le span.len (drop span.at chip.bytes) (omega (arith, inside, length-drop span.at chip.bytes))

-- If a span is inside a flash that is on, it can be read.
pub CanRead-span : (chip : Chip) (span : Span) → chip.is_on ≡ true → span.at + span.len ≤ length chip.bytes
    → span.at + span.len < 2 ^ 63 → CanRead chip span
CanRead-span chip span on inside addressed =
    record { on = on; inside = inside; addressed = addressed; whole = length-bytes_of chip span inside }

-- Each byte of a span is below 256.
pub IsBytes-bytes_of : (chip : Chip) (span : Span) → IsBytes chip.bytes → IsBytes (bytes_of chip span)
unfolding bytes_of
IsBytes-bytes_of chip span fits = IsBytes-take span.len (drop span.at chip.bytes) (IsBytes-drop span.at chip.bytes fits)

-- The bytes that were read from a flash are those of the span.
pub bytes_of-reads : (chip : Chip) (span : Span) (out : List ℕ) → CanRead chip span → length out ≡ span.len
    → Reads chip span.at out → out ≡ bytes_of chip span
unfolding bytes_of
bytes_of-reads chip span out can whole reads =
    let there : length (take span.len (drop span.at chip.bytes)) ≡ span.len =
    length-take-le span.len (drop span.at chip.bytes) (omega (arith, can.inside, length-drop span.at chip.bytes)) in
    ext_get_or 0 out (take span.len (drop span.at chip.bytes)) (whole ∙ sym there)
    (λ i less.
    let own = get_or-take span.len (drop span.at chip.bytes) i 0 (omega (arith, less, whole)) in
    sym (reads.each (span.at + i) i refl less) ∙ sym (own ∙ get_or-drop span.at chip.bytes i 0))

-- ---- hashing in pieces

-- A hasher has processed the bytes before the rest.
abbrev pub HoldsBefore : Sha256 → List ℕ → List ℕ → Type 0
HoldsBefore hasher rest whole = (done : List ℕ) × Holds256 hasher done × (whole ≡ done ++ rest)

-- After the first bytes of the rest it has processed more.
pub HoldsBefore-update : (old new : Sha256) (n : ℕ) (piece rest after whole : List ℕ) → HoldsBefore old rest whole
    → ((m : List ℕ) → Holds256 old m → Holds256 new (m ++ piece))
    → piece ≡ take n rest → after ≡ drop n rest → HoldsBefore new after whole
HoldsBefore-update old new n piece rest after whole held fed first behind = (
  held.0 ++ piece,
  fed held.0 held.1,
  held.2 ∙ ap (λ (x : List ℕ). held.0 ++ x) (sym (take-append-drop n rest))
      ∙ sym (append_assoc held.0 (take n rest) (drop n rest))
      ∙ ap (λ (x : List ℕ). (held.0 ++ x) ++ drop n rest) (sym first)
      ∙ ap (λ (x : List ℕ). (held.0 ++ piece) ++ x) (sym behind),
)

-- If no rest is left, it has processed all bytes.
pub HoldsBefore-all : (hasher : Sha256) (rest whole : List ℕ) → HoldsBefore hasher rest whole → rest ≡ []
    → Holds256 hasher whole
HoldsBefore-all hasher rest whole held none =
    let done : whole ≡ held.0 = held.2 ∙ ap (λ (x : List ℕ). held.0 ++ x) none ∙ append-nil held.0 in
    subst (Holds256 hasher) (sym done) held.1

-- ---- bytes in memory

-- The span of all bytes.
bytes_of-all : (chip : Chip) → bytes_of chip (record { at = 0; len = length chip.bytes }) ≡ chip.bytes
unfolding bytes_of
bytes_of-all chip = take-length chip.bytes

-- A property of the span of all bytes in memory is one of the bytes.
pub of_memory : (Holds : List ℕ → Type 0) (bytes : List ℕ)
    → Holds (bytes_of (memory_chip bytes) (record { at = 0; len = length bytes })) → Holds bytes
of_memory Holds bytes holds = subst Holds (bytes_of-all (memory_chip bytes)) holds
