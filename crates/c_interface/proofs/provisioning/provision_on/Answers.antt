use Rattle.std.proofs.Common.{◌≡◌, [], refl, rules, ap, ◌∙◌}
use Rattle.boot_core.specs.Answers.{reply_of_result}
use Rattle.flash_model.specs.Chip.{Chip}
use Rattle.slice_flash.specs.Rows.{fixed_by}
use Rattle.slice_flash.specs.SliceFlash.{Slice, chip_of}
use Rattle.c_interface.proofs.Asked.{dark_provided, writes_as_asked, writes_over}
use Rattle.c_interface.proofs.Counting.{cut_as_asked, cuts_provided}
use Rattle.c_interface.proofs.StepLaws.{borrowed_flash}
use Rattle.c_interface.proofs.Provisioned.{provisions_between}
use Rattle.c_interface.proofs.provisioning.provision_on.Goals as goal

pub provision_flash-requires : goal.provision_flash-requires
provision_flash-requires g c = record {
  laid_out = (borrowed_flash c.args.map.now c.args.bytes.now (chip_of c.new-flash.result) _ c.args.map.now.is_map
      c.requires.room (ap (λ (s : Slice). s.chip) c.new-flash.ensures)).laid_out;
}

pub returns : goal.returns
returns g c =
    let table = c.args.table.now in
    let bytes = c.args.bytes.now in
    let map = c.args.map.now in
    let before = chip_of c.new-flash.result in
    let left = chip_of c.provision_flash.new.flash in
    let chip = ap (λ (s : Slice). s.chip) c.new-flash.ensures in
    let fixed : left.fixed ≡ fixed_by table bytes _ =
    c.provision_flash.ensures.outside.fixed ∙ ap (λ (c : Chip). c.fixed) chip in
    let cut = cut_as_asked before left (reply_of_result c.provision_flash.result) c.writes.result _ _ _ _ chip
    c.provision_flash.ensures.outside.fixed
    (cuts_provided map before left c.provision_flash.result (reply_of_result c.provision_flash.result) c.provision_flash.ensures refl)
    c.provision_flash.new.flash.cut_by_table c.writes.ensures in
    let torn = writes_as_asked table map.sector_size _ bytes before left (reply_of_result c.provision_flash.result) c.writes.result fixed
    c.provision_flash.ensures.laid.sector_size cut
    (dark_provided map before left c.provision_flash.result (reply_of_result c.provision_flash.result) c.provision_flash.ensures refl)
    c.provision_flash.new.flash.off_by_table c.provision_flash.new.flash.written in
    record {
      before = before;
      after = left;
      between = provisions_between map bytes _ before left c.provision_flash.result (reply_of_result c.provision_flash.result)
          (borrowed_flash map bytes before _ map.is_map c.requires.room chip) (search rules) c.provision_flash.ensures
          refl;
      cut_as_asked = cut;
      writes_as_asked = writes_over (fixed_by table [] 0) map.sector_size bytes left.bytes _ c.writes.result (search rules) torn;
    }
