use Rattle.std.proofs.Common.{◌≡◌, ◌≢◌, ℕ, ◌<◌, List, IsTrue, Some, codes}
use Rattle.std.specs.Borrow.{Bor}
use Rattle.std.specs.List.{slice_get}
use Rattle.sweep.proofs.command.refuse_inputs.Given as goal

-- The arguments so far name other files.
abbrev pub invariant-loop-image : goal.invariant-loop-image
invariant-loop-image g l = (place : ℕ) (word : Bor (List ℕ)) → place < l.image-index
    → slice_get l.order.images.now place ≡ Some word → word.now ≢ codes "-"
    → IsTrue (g.H.Host.apart l.host l.picture word.now)
