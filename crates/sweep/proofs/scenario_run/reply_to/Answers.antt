use Rattle.std.proofs.Common.{◌≡◌, subst, refl}
use Rattle.flash_model.specs.Chip.{Chip}
use Rattle.sweep.proofs.CutRuns.{step_cut}
use Rattle.sweep.proofs.scenario_run.reply_to.Goals as goal

-- A flash in memory has no faults.
pub returns-clause-steps : goal.returns-clause-steps
returns-clause-steps g c =
    step_cut c.step-reply.ensures (subst (λ (chip : Chip). chip.faults ≡ 0) c.flash-before.ensures refl)
    (subst (λ (chip : Chip). chip.faults ≡ 0) c.flash-after.ensures refl)
