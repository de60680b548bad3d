use Rattle.std.proofs.Common.{take}
use Rattle.std.specs.Fmt.{IsPlainFormatter, HasWritten}
use Rattle.sweep.specs.FoundText.{sets_text}
use Rattle.sweep.proofs.text.write_sets.Given as goal

-- The lines of the sets so far are written.
abbrev pub invariant-loop-set : goal.invariant-loop-set
invariant-loop-set g l =
    IsPlainFormatter l.initial.f → HasWritten g.W.Write.write_str_gives l.initial.f
    (sets_text (take l.set-index l.sets)) l.f
