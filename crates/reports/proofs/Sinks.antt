-- Pieces that a sink accepts one after the other.
use Rattle.std.proofs.Common.{◌≡◌, ℕ, List, ◌++◌, Result, IfOk, subst}
use Rattle.std.proofs.lemmas.Result.{IfOk-weaker}

-- Texts that a sink accepts one after the other are one text.
abbrev pub Joins : (S : Type 0) → (S → List ℕ → S → Type 0) → Type 0
Joins S takes =
    (first second third : S) (before after : List ℕ)
    → takes first before second → takes second after third → takes first (before ++ after) third

-- A piece after the text that was accepted before is one text.
pub then : {S E : Type 0} (takes : S → List ℕ → S → Type 0) → Joins S takes
    → (first second third : S) (before after : List ℕ) (result : Result (Unit {0}) E)
    → takes first before second → IfOk result (λ done. takes second after third)
    → IfOk result (λ done. takes first (before ++ after) third)
then takes joins first second third before after result taken more =
    IfOk-weaker result (λ done. takes second after third) (λ done. takes first (before ++ after) third)
    (λ done. joins first second third before after taken) more

-- The same for a text that is equal to the two.
pub spelled : {S E : Type 0} (takes : S → List ℕ → S → Type 0) (first last : S)
    (one other : List ℕ) (result : Result (Unit {0}) E)
    → one ≡ other → IfOk result (λ done. takes first one last)
    → IfOk result (λ done. takes first other last)
spelled takes first last one other result same taken =
    subst (λ text. IfOk result (λ done. takes first text last)) same taken

pub respelled : {S : Type 0} (takes : S → List ℕ → S → Type 0) (first last : S)
    (one other : List ℕ) → one ≡ other → takes first one last → takes first other last
respelled takes first last one other same taken = subst (λ text. takes first text last) same taken
