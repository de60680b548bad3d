use Rattle.std.proofs.Common.{◌≡◌, map, take}
use Rattle.reports.specs.declared.report.ReportedImage.{ReportedImage}
use Rattle.boot_core.proofs.deciding.taken_mask.Given as goal

abbrev pub invariant-loop-image : goal.invariant-loop-image
invariant-loop-image l =
    l.members.items ≡ map (λ (image : ReportedImage). image.is_taken) (take l.image-index l.report.images.items)
