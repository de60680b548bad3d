use Rattle.slice_flash.specs.Asked.{step_of}
use Rattle.slice_flash.proofs.overlay.OverlayFlash.refuse.Goals as goal

pub invariant_of-self-clause-off_by_journal : goal.invariant_of-self-clause-off_by_journal
invariant_of-self-clause-off_by_journal g c = λ off. ∣ record {
  step = step_of c.args.at c.args.asked;
  accepted = c.requires.taken;
  long = c.requires.long;
} ∣₁
