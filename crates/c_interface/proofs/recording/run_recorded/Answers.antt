use Rattle.std.proofs.Common.{◌≡◌, rules, refl, ap, ◌∙◌}
use Rattle.flash_model.specs.Chip.{Chip}
use Rattle.slice_flash.specs.Recording.{Recording}
use Rattle.slice_flash.specs.OverlayFlash.{recording_of}
use Rattle.slice_flash.specs.Steps.{fixed_over}
use Rattle.c_interface.proofs.Recorded.{cut_if_short, cut_over, enough_for, journal_of, shown}
use Rattle.c_interface.proofs.StepLaws.{borrowed_flash, steps_over}
use Rattle.c_interface.proofs.recording.run_recorded.Goals as goal

pub resume_and_run-requires-clause-laid_out : goal.resume_and_run-requires-clause-laid_out
resume_and_run-requires-clause-laid_out g c = (borrowed_flash c.args.checked.now.map c.args.bytes.now _ _
    c.args.checked.now.map.is_map c.requires.room (ap (λ (r : Recording). r.chip) c.new-flash.ensures)).laid_out

pub returns : goal.returns
returns g c =
    let checked = c.args.checked.now in
    let bytes = c.args.bytes.now in
    let journal = c.args.journal.now in
    let run = c.resume_and_run in
    let reply = g.C.Answer.Answer.reply run.new.answer in
    let first = (recording_of c.new-flash.result).chip in
    let r = recording_of run.new.flash in
    let chip = ap (λ (r : Recording). r.chip) c.new-flash.ensures in
    let fixed : r.chip.fixed ≡ fixed_over bytes _ journal _ = run.ensures.fixed ∙ ap (λ (c : Chip). c.fixed) chip in
    let cut = cut_if_short r checked.map.sector_size bytes r.chip.bytes journal r.journal _ _ _ _ c.used-used.ensures.kept
    run.ensures.laid.sector_size fixed refl refl c.writes-writes.ensures.writes c.used-used.ensures.used first reply
    (ap (λ (c : Chip). c.journaled) chip) (ap (λ (c : Chip). c.cuts) chip) refl run.ensures.cuts run.ensures.dark in
    let shows = shown r bytes _ _ _ journal _ fixed (search rules) c.writes-writes.ensures.writes c.writes-writes.ensures.shows in
    record {
      first = first;
      last = r.chip;
      steps = steps_over checked (g.C.Call.call c.args.call.now) first.bytes r.chip.bytes bytes _ c.args.saved.now run.new.saved reply
          first r.chip (ap (λ (c : Chip). c.bytes) chip) shows run.ensures.steps;
      journal = journal_of r checked.map.sector_size bytes _ journal _ _ _ _ _ c.used-used.ensures.kept
          run.ensures.laid.sector_size fixed shows (search rules) c.writes-writes.ensures.writes c.used-used.ensures.used;
      cut = cut_over checked.map.sector_size r.chip.bytes _ _ _ first r.chip reply shows cut;
      enough = enough_for checked.map (g.C.Call.call c.args.call.now) _ _ _ _ first r.chip reply cut run.ensures.journal;
    }
