-- Two words determine a part of bytes.
use Rattle.std.proofs.Common.{◌≡◌, ℕ, ◌+◌, ◌^◌, ◌<◌, ◌≤◌, List, length, Option, Some, None, Bor, sym, ◌∙◌, arith}
use Rattle.std.specs.Prelude.{IfNone, IsSome, decimal}
use Rattle.std.proofs.lemmas.Bool.{false≢true}
use Rattle.std.proofs.lemmas.Fmt.{decimal_injective}
use Rattle.device_texts.specs.Part.{IsPart}
use Rattle.device_texts.specs.Said.{PartWords}

-- If words with these numbers name a part, the bytes have it.
pub IsPart-within : (words : PartWords) (bytes part : List ℕ) (from count : ℕ) → words.from ≡ decimal from
    → words.count ≡ decimal count → from < 2 ^ 64 → count < 2 ^ 64 → length bytes < 2 ^ 64
    → IsPart words bytes part → from + count ≤ length bytes
IsPart-within words bytes part from count is_from is_count from_fits count_fits fits
    (first, many, says_first, says_many, within, same) =
    let from_is = decimal_injective from first from_fits (omega arith) (sym is_from ∙ says_first) in
    let count_is = decimal_injective count many count_fits (omega arith) (sym is_count ∙ says_many) in
    omega arith

-- The result is none only if there is no part.
pub no_part : (words : PartWords) (bytes : List ℕ) (result : Option (Bor (List ℕ)))
    → ((part : List ℕ) → IsPart words bytes part → IsSome result)
    → IfNone result ((part : List ℕ) → IsPart words bytes part → ⊥)
no_part words bytes None some = λ part is. false≢true (some part is)
no_part words bytes (Some x) some = tt
