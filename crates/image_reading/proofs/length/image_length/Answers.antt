use Rattle.std.proofs.Common.{ℕ, List, subst}
use Rattle.image_reading.specs.Fault.{IsFrontFault}
use Rattle.image_reading.proofs.Descriptions.{front_has_no_fault, front_long}
use Rattle.image_reading.proofs.length.image_length.Goals as goal

pub returns-in-Ok-clause-length : goal.returns-in-Ok-clause-length
returns-in-Ok-clause-length g c =
    let same = c.slot_span.ensures.bytes (g.F.Flash.chip c.args.flash.now) c.requires.laid_out in
    λ description begins. front_long _ _ c.in-Ok.front description
    (rw (c.read.ensures.same, same) at c.in-Ok.ensures.found) begins

pub returns-in-Err-clause-length : goal.returns-in-Err-clause-length
returns-in-Err-clause-length g c =
    let same = c.slot_span.ensures.bytes (g.F.Flash.chip c.args.flash.now) c.requires.laid_out in
    let own = rw c.read.ensures.same at c.in-Err.ensures.fault in
    let failed = subst (λ (bytes : List ℕ). IsFrontFault bytes c.in-Err.field-0) same own in
    λ description begins. absurd (front_has_no_fault _ description c.in-Err.field-0 begins failed)
