use Rattle.std.proofs.Common.{◌≡◌, [], rules, ap, ◌∙◌}
use Rattle.flash_model.specs.Chip.{Chip}
use Rattle.slice_flash.specs.Rows.{fixed_by}
use Rattle.slice_flash.specs.SliceFlash.{Slice, chip_of}
use Rattle.c_interface.proofs.Asked.{writes_as_asked, writes_over}
use Rattle.c_interface.proofs.Counting.{cut_as_asked}
use Rattle.c_interface.proofs.StepLaws.{borrowed_flash, steps_over}
use Rattle.c_interface.proofs.borrowed.run_over_bytes.Goals as goal

pub resume_and_run-requires-clause-laid_out : goal.resume_and_run-requires-clause-laid_out
resume_and_run-requires-clause-laid_out g c = (borrowed_flash c.args.checked.now.map c.args.bytes.now _ _
    c.args.checked.now.map.is_map c.requires.room (ap (λ (s : Slice). s.chip) c.new-flash.ensures)).laid_out

pub returns : goal.returns
returns g c =
    let table = c.args.table.now in
    let bytes = c.args.bytes.now in
    let before = chip_of c.new-flash.result in
    let left = chip_of c.resume_and_run.new.flash in
    let writes = c.writes.result in
    let reply = g.C.Answer.Answer.reply c.resume_and_run.new.answer in
    let chip = ap (λ (s : Slice). s.chip) c.new-flash.ensures in
    let fixed : left.fixed ≡ fixed_by table bytes _ = c.resume_and_run.ensures.fixed ∙ ap (λ (c : Chip). c.fixed) chip in
    let had : before.bytes ≡ bytes = ap (λ (c : Chip). c.bytes) chip in
    let cut = cut_as_asked before left reply writes _ _ _ _ chip c.resume_and_run.ensures.fixed
    c.resume_and_run.ensures.cuts c.resume_and_run.new.flash.cut_by_table c.writes.ensures in
    let torn = writes_as_asked table c.args.checked.now.map.sector_size _ bytes before left reply writes
    fixed c.resume_and_run.ensures.laid.sector_size cut c.resume_and_run.ensures.dark
    c.resume_and_run.new.flash.off_by_table c.resume_and_run.new.flash.written in
    record {
      first = before;
      last = left;
      steps = steps_over c.args.checked.now (g.C.Call.call c.args.call.now) before.bytes left.bytes bytes _ c.args.saved.now
          c.resume_and_run.new.saved reply before left had (search rules)
          c.resume_and_run.ensures.steps;
      cut_as_asked = cut;
      writes_as_asked = writes_over (fixed_by table [] 0) c.args.checked.now.map.sector_size bytes left.bytes _ writes
          (search rules) torn;
    }
