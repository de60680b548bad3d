use Rattle.std.proofs.Common.{ℕ, List, subst}
use Rattle.image_reading.specs.Fault.{IsFrontFault}
use Rattle.image_reading.proofs.slot.intact_image_into.Goals as goal

pub returns-in-Ok-clause-found : goal.returns-in-Ok-clause-found
returns-in-Ok-clause-found g c =
    let same = c.slot_span.ensures.bytes (g.F.Flash.chip c.args.flash.now) c.requires.laid_out in
    rw (c.read.ensures.same, same) at c.in-Ok.ensures.described

pub returns-in-Err-clause-found : goal.returns-in-Err-clause-found
returns-in-Err-clause-found g c =
    let same = c.slot_span.ensures.bytes (g.F.Flash.chip c.args.flash.now) c.requires.laid_out in
    let own = rw c.read.ensures.same at c.in-Err.ensures.fault in
    (c.in-Err.field-0, subst (λ (bytes : List ℕ). IsFrontFault bytes c.in-Err.field-0) same own)
