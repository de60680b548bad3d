-- A text that is counted, or written to the front of a buffer, piece by piece. `tlv` says how a
-- piece is written.
use Rattle.std.proofs.Common.{◌≡◌, ℕ, ◌+◌, ◌-◌, ◌^◌, ◌<◌, ◌≤◌, min, List, [], ◌++◌, length, arith, length-append}

-- A text of this length fits in a buffer of this size, and its length fits in 32 bits.
abbrev pub FitsIn : ℕ → ℕ → Type 0
FitsIn length_of size = (length_of ≤ size) × (length_of < 2 ^ 32)

-- A count goes on by the bytes of a text, up to 2^64 - 1.
abbrev pub Counts : ℕ → List ℕ → ℕ → Type 0
Counts old text new = old ≤ 2 ^ 64 - 1 → new ≡ min (old + length text) (2 ^ 64 - 1)

pub counts_nothing : (count : ℕ) → Counts count [] count
counts_nothing count = λ most. omega arith

pub counts_both : (first second third : ℕ) (before after : List ℕ)
    → Counts first before second → Counts second after third → Counts first (before ++ after) third
counts_both first second third before after counted more = λ most.
    let once = counted most in
    omega (arith, length-append before after, once, more (omega (arith, once)))

-- A place is in a buffer, or at its end.
abbrev pub IsWithin : ℕ → List ℕ → Type 0
IsWithin place buffer = place ≤ length buffer
