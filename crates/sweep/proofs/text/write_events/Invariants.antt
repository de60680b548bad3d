use Rattle.std.proofs.Common.{take}
use Rattle.std.specs.Fmt.{IsPlainFormatter, HasWritten}
use Rattle.sweep.specs.Findings.{numbered}
use Rattle.sweep.specs.FoundText.{event_line}
use Rattle.sweep.proofs.text.write_events.Given as goal

-- The lines of the events so far are written.
abbrev pub invariant-loop-place : goal.invariant-loop-place
invariant-loop-place g l =
    IsPlainFormatter l.initial.f → HasWritten g.W.Write.write_str_gives l.initial.f
    (numbered (event_line l.found) 0 (take l.place l.events)) l.f
