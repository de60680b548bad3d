use Rattle.std.proofs.lemmas.Grind.{common_steps}
use Rattle.std.proofs.Common.{◌∙◌, arith}
use Rattle.flash_model.proofs.Ending.{ends_passed, ends_then}
use Rattle.trailer.proofs.FailedCalls.{decides_nothing}
use Rattle.trailer.proofs.settling.is_trailer_whole.Goals as goal

pub returns-in_err-copy_done : goal.returns-in_err-copy_done
returns-in_err-copy_done g c = decides_nothing _ _ _ _ c.are_units_free.ensures.same c.from_residual.ensures.0
    (ends_passed _ _ _ _ c.from_residual.ensures.1 c.in_err-copy_done.ensures.ends)

pub returns-in_err-image_ok : goal.returns-in_err-image_ok
returns-in_err-image_ok g c = decides_nothing _ _ _ _ (c.is_ok_free.ensures.same ∙ c.are_units_free.ensures.same)
    c.from_residual-in_err-image_ok.ensures.0
    (ends_then _ _ _ _ _ c.in_ok-copy_done.ensures.ends
    (ends_passed _ _ _ _ c.from_residual-in_err-image_ok.ensures.1 c.in_err-image_ok.ensures.ends))

pub returns-in_err-magic : goal.returns-in_err-magic
returns-in_err-magic g c = decides_nothing _ _ _ _
    (c.are_units_free-2.ensures.same ∙ c.is_ok_free.ensures.same ∙ c.are_units_free.ensures.same)
    c.from_residual-in_err-magic.ensures.0
    (ends_then _ _ _ _ _ c.in_ok-copy_done.ensures.ends
    (ends_then _ _ _ _ _ c.in_ok-image_ok.ensures.ends
    (ends_passed _ _ _ _ c.from_residual-in_err-magic.ensures.1 c.in_err-magic.ensures.ends)))

pub returns-else-image_ok : goal.returns-else-image_ok
returns-else-image_ok g c = grind (arith, common_steps)

pub returns-then-image_ok : goal.returns-then-image_ok
returns-then-image_ok g c = grind (arith, common_steps)
