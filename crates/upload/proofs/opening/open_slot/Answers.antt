use Rattle.std.proofs.Common.{◌≡◌, ◌∙◌, ap, arith, refl, inr, subst, sym}
use Rattle.std.proofs.lemmas.Result.{on_ok_weaker}
use Rattle.sector_map.specs.declared.layout.Side.TheVariants.{Secondary}
use Rattle.upload.specs.View.{view}
use Rattle.upload.proofs.Views.{view_kept}
use Rattle.flash_model.specs.Chip.{IsErased}
use Rattle.sector_map.specs.Part.{Slot, TrailerOf, incoming_of}
use Rattle.sector_map.specs.Map.{length_of, start_of}
use Rattle.flash_model.specs.Units.{are_erased}
use Rattle.upload.specs.Accepted.{IsBlank}
use Rattle.flash_model.proofs.Ending.{ends_after}
use Rattle.upload.proofs.Ends.{err_passed}
use Rattle.upload.proofs.Writing.{front_blank}
use Rattle.upload.proofs.Frames.{erased_stands}
use Rattle.sector_map.proofs.Parts.{keeps_trans, keeps_wider, laid_out_kept}
use Rattle.sector_map.proofs.Touched.{slot_of_incoming}
use Rattle.upload.proofs.Worn.{none_worn, open_erases, open_journal}
use Rattle.upload.proofs.opening.open_slot.Goals as goal

pub returns-in_err-withdraw : goal.returns-in_err-withdraw
returns-in_err-withdraw g c = rw (err_passed _ _ c.from_residual.ensures.1) (record {
  outside = c.withdraw.ensures.outside;
  either = c.withdraw.ensures.either;
  trailer = tt;
  slot = tt;
  erases = tt;
  erased = tt;
  idle = λ blank. c.withdraw.ensures.idle
      (front_blank c.args.map.now _ c.args.image c.requires.laid_out c.requires.there blank.slot) blank.trailer;
  journal = omega (
    arith,
    c.withdraw.ensures.journal,
    c.requires.laid_out.is_map.counts.some c.args.image c.requires.there,
  );
  ends = c.in_err-withdraw.ensures.ends;
})

pub returns : goal.returns
returns g c =
    let map = c.args.map.now in
    let new = view map (g.F.Flash.chip c.erase_slot.new.flash) in
    let parts = incoming_of c.args.image in
    let laid = laid_out_kept map _ _ (g.F.Flash.chip c.withdraw.new.flash) c.requires.laid_out
    c.withdraw.ensures.outside in
    let kept = (view_kept map _ _ _ c.erase_slot.ensures.outside).trailers c.args.image Secondary refl
    ∙ c.in_ok-withdraw.ensures.ok in
    let idle : IsBlank map (g.F.Flash.chip c.args.flash.now) c.args.image
    → g.F.Flash.chip c.erase_slot.new.flash ≡ g.F.Flash.chip c.args.flash.now = λ blank.
    let same = c.withdraw.ensures.idle
    (front_blank map _ c.args.image c.requires.laid_out c.requires.there blank.slot) blank.trailer in
    c.erase_slot.ensures.idle (subst (λ chip. IsErased chip (start_of map (Slot c.args.image Secondary))
    (length_of map (Slot c.args.image Secondary))) (sym same) blank.slot) ∙ same in
    record {
      outside = keeps_trans map parts _ _ _ c.withdraw.ensures.outside
          (keeps_wider map _ parts _ _ (slot_of_incoming c.args.image) c.erase_slot.ensures.outside);
      either = inr (erased_stands (new.trailer c.args.image Secondary) (new.slot c.args.image Secondary) kept);
      trailer = on_ok_weaker c.erase_slot.result (λ done. kept) c.erase_slot.ensures.ok;
      slot = c.erase_slot.ensures.ok;
      erases = on_ok_weaker c.erase_slot.result (λ worn. open_erases map _ _ c.args.image _ c.requires.laid_out laid
          c.requires.there c.withdraw.ensures.rest c.in_ok-withdraw.ensures.first c.withdraw.ensures.unset
          c.in_ok-withdraw.ensures.erases worn) c.erase_slot.ensures.worn;
      erased = on_ok_weaker c.erase_slot.result (λ slot. none_worn map _ c.args.image slot
          (ap are_erased (c.erase_slot.ensures.outside.parts (TrailerOf c.args.image Secondary) refl)
          ∙ c.in_ok-withdraw.ensures.bytes)) c.erase_slot.ensures.ok;
      idle = idle;
      journal = open_journal map _ _ c.args.image _ laid (c.requires.laid_out.is_map.counts.some c.args.image
          c.requires.there) c.in_ok-withdraw.ensures.first c.withdraw.ensures.journal c.withdraw.ensures.journal_unset
          c.erase_slot.ensures.journal c.erase_slot.ensures.journal_first;
      ends = ends_after _ _ (g.F.Flash.chip c.withdraw.new.flash) _ c.in_ok-withdraw.ensures.ends.uncut
          c.in_ok-withdraw.ensures.ends.asleep c.erase_slot.ensures.ends;
    }
