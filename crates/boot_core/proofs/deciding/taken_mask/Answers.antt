use Rattle.std.proofs.Common.{◌≡◌, ◌≤◌, ◌∙◌, length, ap, arith, sym}
use Rattle.common.proofs.Masks.{told_of}
use Rattle.reports.specs.declared.report.ReportedImage.{ReportedImage}
use Rattle.boot_core.proofs.deciding.taken_mask.Goals as goal

pub returns-clause-each : goal.returns-clause-each
returns-clause-each c =
    let report = c.args.report.now in
    let long : length c.deref-image-items.result.now ≡ length report.images.items =
    ap length c.deref-image-items.ensures.0 in
    let all : length report.images.items ≤ c.loop-image.image-index = omega (arith, long) in
    λ i. c.mask_of.ensures.each i
    ∙ told_of (λ (image : ReportedImage). image.is_taken) report.images.items c.loop-image.image-index
    c.deref.result.now all (c.deref.ensures.0 ∙ c.loop-image.invariant) i

pub returns-clause-only : goal.returns-clause-only
returns-clause-only c = λ mask small same.
    c.mask_of.ensures.only mask small
    (λ i. same i ∙ sym (returns-clause-each c i) ∙ c.mask_of.ensures.each i)
