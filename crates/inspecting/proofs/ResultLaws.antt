-- Lemmas by which a fact of a result gives another one.
use Rattle.std.proofs.Common.{List, ℕ, Option, Result, Ok, Err, OnErr, OnOk}
use Rattle.std.proofs.KnownBytes.{Appends-nil}
use Rattle.std.specs.Result.{IfOk}
use Rattle.inspecting.specs.Written.{TakesPrefix}

-- A fact of an answer gives another one.
pub OnOk-then : {T E P Q : Type 0} (result : Result T E) → (P → Q) → OnOk result P → OnOk result Q
OnOk-then (Ok x) f p = f p
OnOk-then (Err x) f p = tt

-- A fact of each value gives another one.
pub IfOk-then : {T E : Type 0} {P Q : T → Type 0} (result : Result T E) → ((x : T) → P x → Q x) → IfOk result P → IfOk result Q
IfOk-then (Ok x) f p = f x p
IfOk-then (Err x) f p = tt

-- What follows from an error.
pub OnErr-then : {T E P Q : Type 0} (result : Result T E) → (P → Q) → OnErr result P → OnErr result Q
OnErr-then (Ok x) f p = tt
OnErr-then (Err x) f p = f p

-- What holds anyway holds after an error.
pub OnErr-any : {T E P : Type 0} (result : Result T E) → P → OnErr result P
OnErr-any (Ok x) p = tt
OnErr-any (Err x) p = p

-- Nothing is a prefix of any text.
pub TakesPrefix-none : (text : List ℕ) (known : Option (List ℕ)) → TakesPrefix text known known
TakesPrefix-none text known = (0, Appends-nil known)
