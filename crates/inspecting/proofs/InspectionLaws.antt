-- What is written of what was found.
use Rattle.std.proofs.Common.{◌≡◌, ◌∷◌, [], inl, inr, ℕ, List, Option, Result, Ok, Err, IfErr, IfOk, ap, map, refl, subst, sym}
use Rattle.std.specs.Borrow.{Bor}
use Rattle.std.specs.Io.KnownBytes.{Appends, Keeps}
use Rattle.serde_json.specs.Data.{string}
use Rattle.host.specs.declared.answer.Answer.{Answer}
use Rattle.host.specs.declared.error.Refusal.{Refusal}
use Rattle.host.specs.declared.error.Refusal.TheVariants.{NoMemory}
use Rattle.inspecting.specs.Inspection.{WritesInspection}
use Rattle.inspecting.specs.Written.{TakesPrefix, WritesText}

-- A text was written, or a prefix of it.
pub written-text : (answer said : Answer) (text bytes : List ℕ) (result : Result Answer Refusal) (old new : Option (List ℕ))
    → answer ≡ said → text ≡ bytes → WritesText answer text result old new → WritesInspection result said bytes old new
written-text answer said text bytes result old new is same (inl done) =
    subst (λ end. WritesInspection end said bytes old new) (sym done.0) (is, subst (λ all. Appends old new all) same done.1)
written-text answer said text bytes result old new is same (inr failed) =
    subst (λ end. WritesInspection end said bytes old new) (sym failed.0)
    (subst (λ all. TakesPrefix all old new) same failed.1)

-- The same of a text that was made in memory.
pub written-made : {T E : Type 0} (made : Result T E) (bytes_of : T → List ℕ) (answer said : Answer) (bytes : List ℕ)
    (result : Result Answer Refusal) (old new : Option (List ℕ)) → answer ≡ said
    → IfOk made (λ text. bytes_of text ≡ bytes) → IfErr made (λ _. (result ≡ Err NoMemory) × Keeps old new)
    → IfOk made (λ text. WritesText answer (bytes_of text) result old new) → WritesInspection result said bytes old new
written-made (Ok text) bytes_of answer said bytes result old new is same unmade written =
    written-text answer said (bytes_of text) bytes result old new is same written
written-made (Err fault) bytes_of answer said bytes result old new is same unmade written =
    subst (λ end. WritesInspection end said bytes old new) (sym unmade.0) unmade.1
