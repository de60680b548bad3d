use Rattle.std.proofs.Common.{◌≡◌, ◌≢◌, ℕ, ◌<◌, List, IsTrue, Some, codes}
use Rattle.std.specs.Borrow.{Bor}
use Rattle.std.specs.List.{slice_get}
use Rattle.sweep.proofs.outputs.refuse_outputs.Given as goal

-- The outputs so far are other files.
abbrev pub invariant-loop-output : goal.invariant-loop-output
invariant-loop-output g l = (place : ℕ) (word : Bor (List ℕ)) → place < l.output-index
    → slice_get l.outputs place ≡ Some word → word.now ≢ codes "-"
    → IsTrue (g.H.Host.apart l.host l.picture word.now)
