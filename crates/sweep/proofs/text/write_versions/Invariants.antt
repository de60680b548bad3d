use Rattle.std.proofs.Common.{take}
use Rattle.std.specs.Fmt.{IsPlainFormatter, HasWritten}
use Rattle.sweep.specs.Findings.{numbered}
use Rattle.sweep.specs.FoundText.{version_line}
use Rattle.sweep.proofs.text.write_versions.Given as goal

-- The lines of the images so far are written.
abbrev pub invariant-loop-image : goal.invariant-loop-image
invariant-loop-image g l =
    IsPlainFormatter l.initial.f → HasWritten g.W.Write.write_str_gives l.initial.f
    (numbered version_line 0 (take l.image l.versions)) l.f
