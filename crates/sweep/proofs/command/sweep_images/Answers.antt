use Rattle.sweep.specs.SweepEnd.{IsNamedBy}
use Rattle.sweep.proofs.SweepEndLaws.{inputs_kept}
use Rattle.sweep.proofs.command.sweep_images.Goals as goal

-- The images could not be read, and nothing was written yet.
pub returns-in_err-bytes-clause-inputs : goal.returns-in_err-bytes-clause-inputs
returns-in_err-bytes-clause-inputs g c = inputs_kept c.args.order.now.device c.args.order.now.script
    c.args.order.now.images.now (IsNamedBy c.args.script.text.now) c.args.order.now.choices.picture _ _ c.in_err-bytes.ensures.kept
