-- The fold of a list, item by item.
use Rattle.std.proofs.Common.{◌≡◌, ℕ, ◌+◌, ◌<◌, List, length, get_or, take, add-one}
use Rattle.std.specs.Prelude.{fold}
use Rattle.std.proofs.Math.Seq.{take-suc}
use Rattle.std.proofs.lemmas.List.Sums.{fold_push}

-- The fold of the first items and the next one.
pub fold-more : {A B : Type 0} (step : B → A → B) (old : B) (items : List A) (place : ℕ) (default : A) (made next : B) → place < length items → made ≡ fold step old (take place items) → next ≡ step made (get_or items place default) → next ≡ fold step old (take (place + 1) items)
fold-more step old items place default made next within so_far steps =
    rw (add-one, take-suc items place default within, fold_push, ← so_far) steps
