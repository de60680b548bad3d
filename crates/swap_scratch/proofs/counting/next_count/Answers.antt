use Rattle.std.proofs.Common.{arith, refl}
use Rattle.flash_model.proofs.Ending.{ends_well, uncut_refl}
use Rattle.swap_scratch.proofs.KnownUnits.{next_known}
use Rattle.swap_scratch.proofs.counting.next_count.Goals as goal

pub returns-then-next-known : goal.returns-then-next-known
returns-then-next-known g c = record {
  same = refl;
  ok = next_known _ _ _ _ c.args.known _ _ c.requires.step refl (omega arith) c.requires.step.within
      (λ lt. omega arith) (λ lt. omega arith);
  ends = ends_well _ _ _ (uncut_refl _) (λ off. refl);
}

pub returns-then-next-status_units : goal.returns-then-next-status_units
returns-then-next-status_units g c = record {
  same = refl;
  ok = next_known _ _ _ _ c.args.known _ _ c.requires.step refl (omega arith) (omega arith)
      (λ lt. absurd (omega arith)) (λ lt. absurd (omega arith));
  ends = ends_well _ _ _ (uncut_refl _) (λ off. refl);
}
