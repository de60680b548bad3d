use Rattle.std.proofs.Common.{◌≡◌, ◌++◌, [], ℕ, List, rules}
use Rattle.common.proofs.Results.{IfErr-passed}
use Rattle.machine.specs.declared.event.Event.{Event}
use Rattle.flash_contents.specs.Holding.{DeviceView}
use Rattle.machine.specs.Intake.{Setup}
use Rattle.flash_contents.specs.Passing.{StepsTo}
use Rattle.machine.specs.Steps.{DeviceEvent}
use Rattle.machine.specs.declared.reply.Reply.{Reply}
use Rattle.std.proofs.KnownBytes.{Appends-trans}
use Rattle.boot_core.specs.CutEvents.{IsCutAsDue}
use Rattle.device_commands.specs.RunEnd.{came_by}
use Rattle.device_commands.specs.Telling.{RepliesTo}
use Rattle.device_commands.proofs.TellingLaws.{BreaksOff-notes, BreaksOff-reply}
use Rattle.device_commands.proofs.run.run_event.Goals as goal

abbrev replied : (setup : Setup) (old new : DeviceView) (came : Event (List ℕ)) (event : DeviceEvent) (reply : Reply)
    → came_by event ≡ came → StepsTo setup old new event reply → IsCutAsDue old.flash reply new.flash
    → RepliesTo setup old new came
replied setup old new came event reply comes steps due =
    record { event = event; reply = reply; comes = comes; steps = steps; due = due }

-- The reply was written in part or not at all.
pub returns-in_err-write_reply-clause-begun : goal.returns-in_err-write_reply-clause-begun
returns-in_err-write_reply-clause-begun g c = IfErr-passed _ _ _ c.from_residual.ensures.1 (record {
  step = replied _ _ _ _ c.as_deref-borrowed.result c.step-reply.result (search rules) (search rules) (search rules);
  notes = [];
  broken = BreaksOff-reply c.args.form c.args.number _ _ _ _ c.in_err-write_reply.ensures.begun;
})

-- The reply was written, and its notes in part or not at all.
pub returns-in_err-write_notes-clause-begun : goal.returns-in_err-write_notes-clause-begun
returns-in_err-write_notes-clause-begun g c =
    let begun = c.in_err-write_notes.ensures.begun in
    IfErr-passed _ _ _ c.from_residual-in_err-write_notes.ensures.1 (record {
      step = replied _ _ _ _ c.as_deref-borrowed.result c.step-reply.result (search rules) (search rules) (search rules);
      notes = begun.0;
      broken = BreaksOff-notes _ _ _ _ _ _ c.in_ok-write_reply.ensures.told begun.1;
    })

-- The reply and its notes were written.
pub returns-clause-told : goal.returns-clause-told
returns-clause-told g c =
    let noted = c.in_ok-write_notes.ensures.told in
    record {
      step = replied _ _ _ _ c.as_deref-borrowed.result c.step-reply.result (search rules) (search rules) (search rules);
      notes = noted.0;
      written = Appends-trans _ _ _ _ _ c.in_ok-write_reply.ensures.told noted.1;
      answered = search rules;
      refused = search rules;
    }
