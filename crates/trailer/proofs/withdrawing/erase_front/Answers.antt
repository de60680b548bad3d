use Rattle.std.proofs.Common.{◌+◌, ◌∙◌, sym, ap, if◌then◌else◌}
use Rattle.std.proofs.lemmas.Bool.{false≢true}
use Rattle.std.proofs.lemmas.Result.{on_ok_weaker}
use Rattle.flash_model.specs.Chip.{Chip}
use Rattle.flash_model.proofs.Ending.{ends_then}
use Rattle.sector_map.specs.declared.layout.Side.TheVariants.{Secondary}
use Rattle.sector_map.specs.Part.{Slot}
use Rattle.sector_map.proofs.Parts.{laid_out_kept}
use Rattle.trailer.proofs.Places.{part_alone, part_within, some_slot}
use Rattle.trailer.proofs.FailedCalls.{refuses_first}
use Rattle.trailer.proofs.Withdrawal.{front_erased, rest_of_erase, sector_erased}
use Rattle.trailer.proofs.withdrawing.erase_front.Goals as goal

pub returns : goal.returns
returns g c =
    let some = some_slot c.args.map.now c.args.image Secondary c.requires.laid_out.is_map c.requires.there in
    let outside = part_alone c.args.map.now _ _ (Slot c.args.image Secondary) c.slot.result
    (rw c.is_front_set.ensures.same at c.erase.ensures.outside) c.requires.laid_out some c.slot.ensures in
    let rest = rest_of_erase c.args.map.now _ _ c.args.image c.slot.result Secondary
    (rw c.is_front_set.ensures.same at c.erase.ensures.outside) c.requires.laid_out c.requires.there
    c.slot.ensures in
    let set = sym c.in_ok-is_front_set.ensures.ok ∙ c.if-not-branch.false in
    let laid = laid_out_kept c.args.map.now _ _ _ c.requires.laid_out outside in
    let size = ap (λ (chip : Chip). chip.sector_size) c.is_front_set.ensures.same ∙ c.requires.laid_out.sector_size in
    record {
      outside = outside;
      idle = λ unset. absurd (false≢true (sym unset ∙ set));
      rest = rest;
      ok = on_ok_weaker c.erase.result (λ erased.
          front_erased c.args.map.now _ c.args.image _ _ Secondary erased laid c.requires.there c.slot.ensures size)
          c.erase.ensures.ok;
      first = on_ok_weaker c.erase.result (λ erased. λ was.
          sector_erased c.args.map.now _ c.args.image _ _ Secondary erased laid c.requires.there c.slot.ensures size)
          c.erase.ensures.ok;
      erases = on_ok_weaker c.erase.result (λ one.
          one ∙ ap (λ (chip : Chip). chip.erases + 1) c.is_front_set.ensures.same
          ∙ ap (λ front. (g.F.Flash.chip c.args.flash.now).erases + (if front then 1 else 0)) (sym set))
          c.erase.ensures.erases;
      journal = rw c.is_front_set.ensures.same at c.erase.ensures.journal;
      off = refuses_first _ _ _ c.in_ok-is_front_set.ensures.off;
      ends = ends_then _ _ _ _ _ c.in_ok-is_front_set.ensures.ends c.erase.ensures.ends;
    }

pub erase-requires : goal.erase-requires
erase-requires g c = rw (c.slot.ensures, c.is_front_set.ensures.same)
    (part_within c.args.map.now _ (Slot c.args.image Secondary) c.requires.laid_out
    (some_slot c.args.map.now c.args.image Secondary c.requires.laid_out.is_map c.requires.there))
