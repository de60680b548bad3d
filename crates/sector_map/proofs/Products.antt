-- Lemmas about sectors as products: their order, and the sector of an address.
use Rattle.std.proofs.Common.{◌≡◌, ℕ, ◌+◌, ◌*◌, ◌/◌, ◌%◌, ◌<◌, ◌≤◌, arith, ⊎_elim}
use Rattle.std.proofs.lemmas.Bool.{cases_lt}
use Rattle.flash_model.proofs.Frame.{product_le}
pub use Rattle.flash_model.proofs.Frame.{mul_le}

pub lower : (a s e o : ℕ) → a * e ≤ s * e + o → o < e → a ≤ s
lower a s e o le small =
    ⊎_elim (λ (lt : s < a). absurd (omega (arith, product_le s a e lt))) (λ (ge : a ≤ s). ge) (cases_lt s a)

pub upper : (s b e o : ℕ) → s * e + o < b * e → s < b
upper s b e o low = ⊎_elim (λ (lt : s < b). lt) (λ (ge : b ≤ s). absurd (omega (arith, mul_le b s e ge))) (cases_lt s b)

-- An address lies in the sector of its quotient.
pub sector_at : (a n e k : ℕ) → 0 < e → a * e ≤ k → k < (a + n) * e
    → (a ≤ k / e) × (k / e < a + n) × (k ≡ k / e * e + k % e) × (k % e < e)
sector_at a n e k some low high =
    let is : k ≡ k / e * e + k % e = omega arith in
    let below : k % e < e = omega arith in
    (lower a (k / e) e (k % e) (omega arith) below, upper (k / e) (a + n) e (k % e) (omega arith), is, below)
