use Rattle.std.proofs.Common.{take}
use Rattle.std.specs.Fmt.{IsPlainFormatter, HasWritten}
use Rattle.sweep.specs.Findings.{marks_text}
use Rattle.sweep.proofs.text.write_marks.Given as goal

-- The characters of the marks so far are written.
abbrev pub invariant-loop-mark : goal.invariant-loop-mark
invariant-loop-mark g l =
    IsPlainFormatter l.initial.f → HasWritten g.W.Write.write_str_gives l.initial.f
    (marks_text (take l.mark-index l.marks)) l.f
