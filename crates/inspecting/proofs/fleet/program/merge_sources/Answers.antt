use Rattle.std.proofs.Common.{inl, inr}
use Rattle.std.proofs.KnownBytes.{Keeps-refl}
use Rattle.inspecting.proofs.ResultLaws.{OnErr-any}
use Rattle.inspecting.proofs.fleet.program.merge_sources.Goals as goal

-- The summaries can't be read.
pub returns-in_err-texts-clause-begun : goal.returns-in_err-texts-clause-begun
returns-in_err-texts-clause-begun g c = OnErr-any _ (inl (Keeps-refl _))

-- They can't be added, or a prefix of their sum is written.
pub returns-clause-begun : goal.returns-clause-begun
returns-clause-begun g c = elim c.in-Err.ensures.begun [
  | inl kept ↦ inl kept
  | inr begun ↦ inr (_, rw (← c.deref.ensures.value) at c.in_ok-texts.ensures, begun)
]
