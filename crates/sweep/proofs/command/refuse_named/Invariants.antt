use Rattle.std.proofs.Common.{length}
use Rattle.sweep.proofs.SweepEndLaws.{AreApartBefore}
use Rattle.sweep.proofs.command.refuse_named.Given as goal

-- The files that the lines so far name are apart.
abbrev pub invariant-loop-lines : goal.invariant-loop-lines
invariant-loop-lines g l = AreApartBefore (g.H.Host.apart l.host) l.picture l.text l.lines.rest.now

abbrev pub decreases-loop-lines : goal.decreases-loop-lines
decreases-loop-lines g l = length l.lines.rest.now
