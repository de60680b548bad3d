use Rattle.std.proofs.Common.{◌≡◌, ◌+◌, ◌≤◌, ℕ, List, is_some, length, true}
use Rattle.machine.specs.declared.event.Event.{Event}
use Rattle.device_commands.specs.Telling.{TellsAll}
use Rattle.inputs.proofs.ScriptFaultLaws.{AreRead}
use Rattle.inputs.proofs.ScriptLaws.{AreTaken}
use Rattle.device_commands.proofs.run.run_events.Given as goal

-- The device has the setup that it was made with, and power. The events of the lines so far were
-- run, and the replies to them were written. There were at most as many events as bytes were read.
abbrev pub invariant-loop-lines : goal.invariant-loop-lines
invariant-loop-lines g l = record {
  setup : l.device.setup ≡ l.fn.device.setup;
  on : l.device.here.flash.is_on ≡ true;
  few : l.number + length l.lines.rest.now ≤ length l.text;
  lines : AreRead l.text l.lines;
  taken : ℕ;
  came : List (Event (List ℕ));
  counted : l.number ≡ length came;
  are : AreTaken l.text l.lines.rest.now l.lines.order taken l.sources.buffered.now
      (g.H.Host.file l.sources.host.now) came;
  told : TellsAll l.options.form l.last l.has_refused (is_some l.failure) l.fn.device.setup l.fn.device.here l.device.here came
      (g.O.Write.contents l.fn.out) (g.O.Write.contents l.out);
}

abbrev pub decreases-loop-lines : goal.decreases-loop-lines
decreases-loop-lines g l = length l.lines.rest.now
