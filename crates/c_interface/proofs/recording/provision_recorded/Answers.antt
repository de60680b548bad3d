use Rattle.std.proofs.Common.{◌≡◌, rules, refl, ap, ◌∙◌}
use Rattle.boot_core.specs.Answers.{reply_of_result}
use Rattle.flash_model.specs.Chip.{Chip}
use Rattle.slice_flash.specs.Recording.{Recording}
use Rattle.slice_flash.specs.OverlayFlash.{recording_of}
use Rattle.slice_flash.specs.Steps.{fixed_over}
use Rattle.c_interface.proofs.Asked.{dark_provided}
use Rattle.c_interface.proofs.Counting.{cuts_provided}
use Rattle.c_interface.proofs.Provisioned.{provisions_between}
use Rattle.c_interface.proofs.Recorded.{cut_if_short, cut_over, enough_to_provision, journal_of, shown}
use Rattle.c_interface.proofs.StepLaws.{borrowed_flash}
use Rattle.c_interface.proofs.recording.provision_recorded.Goals as goal

pub provision_flash-requires : goal.provision_flash-requires
provision_flash-requires g c = record {
  laid_out = (borrowed_flash c.args.map.now c.args.bytes.now _ _ c.args.map.now.is_map c.requires.room
      (ap (λ (r : Recording). r.chip) c.new-flash.ensures)).laid_out;
}

pub returns : goal.returns
returns g c =
    let map = c.args.map.now in
    let bytes = c.args.bytes.now in
    let journal = c.args.journal.now in
    let all = c.provision_flash.ensures in
    let first = (recording_of c.new-flash.result).chip in
    let r = recording_of c.provision_flash.new.flash in
    let chip = ap (λ (r : Recording). r.chip) c.new-flash.ensures in
    let fixed : r.chip.fixed ≡ fixed_over bytes _ journal _ = all.outside.fixed ∙ ap (λ (c : Chip). c.fixed) chip in
    let cuts = cuts_provided map first r.chip c.provision_flash.result (reply_of_result c.provision_flash.result) all refl in
    let cut = cut_if_short r map.sector_size bytes r.chip.bytes journal r.journal _ _ _ _ c.used-used.ensures.kept
    all.laid.sector_size fixed refl refl c.writes-writes.ensures.writes c.used-used.ensures.used first (reply_of_result c.provision_flash.result)
    (ap (λ (c : Chip). c.journaled) chip) (ap (λ (c : Chip). c.cuts) chip) refl cuts
    (dark_provided map first r.chip c.provision_flash.result (reply_of_result c.provision_flash.result) all refl) in
    let shows = shown r bytes _ _ _ journal _ fixed (search rules) c.writes-writes.ensures.writes c.writes-writes.ensures.shows in
    record {
      first = first;
      last = r.chip;
      between = provisions_between map bytes _ first r.chip c.provision_flash.result (reply_of_result c.provision_flash.result)
          (borrowed_flash map bytes first _ map.is_map c.requires.room chip) shows all refl;
      journal = journal_of r map.sector_size bytes _ journal _ _ _ _ _ c.used-used.ensures.kept all.laid.sector_size fixed
          shows (search rules) c.writes-writes.ensures.writes c.used-used.ensures.used;
      cut = cut_over map.sector_size r.chip.bytes _ _ _ first r.chip (reply_of_result c.provision_flash.result) shows cut;
      enough = enough_to_provision (reply_of_result c.provision_flash.result) _ _ _ _ _ first r.chip cut all.journal;
    }
