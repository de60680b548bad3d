-- Lemmas about the first check of a list that fails.
use Rattle.std.specs.Prelude.{◌≡◌, ℕ, zero, suc, ◌<◌}
use Rattle.std.proofs.Common.{inl, inr, subst, arith}
use Rattle.std.proofs.lemmas.Bool.{cases_lt}
use Rattle.common.specs.Checks.{FailsFirst, PassBefore}

-- Each check before the place passes.
passes_at : (check : ℕ → Type 0) (place before : ℕ) → before < place → PassBefore check place
    → check before
passes_at check zero before less pass = absurd (omega (arith, less))
passes_at check (suc place) before less pass =
    elim (cases_lt before place) [
      | inl earlier ↦ passes_at check place before earlier pass.0
      | inr last ↦
          let here : place ≡ before = omega (arith, less, last) in
          subst check here pass.1
    ]

-- At most one check is the first that fails.
pub FailsFirst-unique : (check : ℕ → Type 0) (first second : ℕ) → FailsFirst check first
    → FailsFirst check second
    → first ≡ second
FailsFirst-unique check first second a b =
    elim (cases_lt first second) [
      | inl before ↦ absurd (a.1 (passes_at check second first before b.0))
      | inr not_before ↦ elim (cases_lt second first) [
        | inl behind ↦ absurd (b.1 (passes_at check first second behind a.0))
        | inr not_behind ↦ omega (arith, not_before, not_behind)
      ]
    ]
