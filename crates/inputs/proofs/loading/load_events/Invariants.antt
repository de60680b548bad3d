use Rattle.std.proofs.Common.{ℕ, length}
use Rattle.inputs.specs.Loading.{came_in}
use Rattle.inputs.proofs.ScriptLaws.{AreTaken}
use Rattle.inputs.proofs.ScriptFaultLaws.{AreRead}
use Rattle.inputs.proofs.loading.load_events.Given as goal

-- The events so far are those of the lines so far.
abbrev pub invariant-loop-lines : goal.invariant-loop-lines
invariant-loop-lines g l = record {
  lines : AreRead l.text l.lines;
  taken : ℕ;
  are : AreTaken l.text l.lines.rest.now l.lines.order taken l.sources.buffered.now
      (g.H.Host.file l.sources.host.now) (came_in l.events.items);
}

abbrev pub decreases-loop-lines : goal.decreases-loop-lines
decreases-loop-lines g l = length l.lines.rest.now
