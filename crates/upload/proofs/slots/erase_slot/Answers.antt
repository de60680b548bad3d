use Rattle.std.proofs.Common.{◌≡◌, ◌+◌, ◌*◌, ◌∙◌, arith, subst}
use Rattle.sector_map.specs.declared.layout.Side.TheVariants.{Secondary}
use Rattle.sector_map.specs.Part.{Slot, only}
use Rattle.sector_map.specs.Map.{slot_sectors, start_of}
use Rattle.sector_map.proofs.Parts.{keeps_trans, laid_out_kept}
use Rattle.flash_model.specs.Chip.{IsErased}
use Rattle.flash_model.proofs.Ending.{asleep_trans, ends_after, ends_well, uncut_trans}
use Rattle.trailer.specs.Standing.{incoming_slot}
use Rattle.upload.specs.Wear.{worn_in}
use Rattle.upload.proofs.Writing.{FirstIsFree, erased_more, free_at_end, free_next, next_sector, sector_place, sectors_idle, slot_erased}
use Rattle.upload.proofs.Ends.{err_passed}
use Rattle.upload.proofs.Worn.{worn_more}
use Rattle.upload.proofs.slots.erase_slot.Goals as goal

pub returns : goal.returns
returns g c =
    let map = c.args.map.now in
    let all = c.loop-index.invariant in
    let laid = laid_out_kept map (only (Slot c.args.image Secondary)) _ (g.F.Flash.chip c.loop-index.flash)
    c.requires.laid_out all.outside in
    let every : c.loop-index.index ≡ slot_sectors map c.args.image =
    omega (arith, c.loop-index-test.false, c.slot_sectors-index-end.ensures) in
    record {
      outside = all.outside;
      ok = slot_erased map (g.F.Flash.chip c.loop-index.flash) c.args.image laid
          (subst (λ n. IsErased (g.F.Flash.chip c.loop-index.flash) (start_of map (Slot c.args.image Secondary))
          (n * map.sector_size)) every all.erased);
      idle = all.idle;
      erases = omega (arith, c.loop-index-test.false, c.slot_sectors-index-end.ensures, all.erases);
      worn = subst (λ n. (g.F.Flash.chip c.loop-index.flash).erases ≡ (g.F.Flash.chip c.args.flash.now).erases
          + worn_in map.sector_size (incoming_slot map (g.F.Flash.chip c.args.flash.now) c.args.image) n) every all.worn;
      journal = omega (arith, every, all.journal);
      journal_first = λ erased. free_at_end (subst (λ n. FirstIsFree n (g.F.Flash.chip c.args.flash.now)
          (g.F.Flash.chip c.loop-index.flash)) every (all.first erased))
          (c.requires.laid_out.is_map.counts.some c.args.image c.requires.there);
      ends = ends_well _ _ _ all.uncut all.asleep;
    }

pub returns-in_err-erase_sector : goal.returns-in_err-erase_sector
returns-in_err-erase_sector g c =
    let all = c.loop-index.invariant in
    rw (err_passed _ _ c.from_residual.ensures.1) (record {
      outside = keeps_trans c.args.map.now (only (Slot c.args.image Secondary)) _ _ _ all.outside
          c.erase_sector.ensures.outside;
      ok = tt;
      idle = sectors_idle c.args.map.now _ _ _ c.args.image c.loop-index.index
          (rw c.slot_sectors-index-end.ensures at c.loop-index-test.true) all.idle c.erase_sector.ensures.idle;
      erases = tt;
      worn = tt;
      journal = omega (
        arith,
        c.loop-index-test.true,
        c.slot_sectors-index-end.ensures,
        c.erase_sector.ensures.journal,
        all.journal,
      );
      journal_first = λ erased.
          free_next c.args.map.now _ _ _ c.args.image c.loop-index.index (slot_sectors c.args.map.now c.args.image)
          (omega (arith, c.loop-index-test.true, c.slot_sectors-index-end.ensures)) erased (all.first erased)
          c.erase_sector.ensures.idle c.erase_sector.ensures.journal;
      ends = ends_after _ _ (g.F.Flash.chip c.loop-index.flash) _ all.uncut all.asleep
          c.in_err-erase_sector.ensures.ends;
    })

pub loop-index-preserved : goal.loop-index-preserved
loop-index-preserved g c =
    let map = c.args.map.now in
    let all = c.loop-index.invariant in
    let laid = laid_out_kept map (only (Slot c.args.image Secondary)) _ (g.F.Flash.chip c.loop-index.flash)
    c.requires.laid_out all.outside in
    let lt = rw c.slot_sectors-index-end.ensures at c.loop-index-test.true in
    let place = sector_place map c.args.image c.loop-index.index in
    let next = next_sector map c.loop-index.index in
    record {
      outside = keeps_trans map (only (Slot c.args.image Secondary)) _ _ _ all.outside c.erase_sector.ensures.outside;
      erased = erased_more map _ _ c.args.image c.loop-index.index all.erased c.erase_sector.ensures.sector
          c.in_ok-erase_sector.ensures.ok;
      uncut = uncut_trans _ (g.F.Flash.chip c.loop-index.flash) _ all.uncut c.in_ok-erase_sector.ensures.ends.uncut;
      erases = omega (arith, c.in_ok-erase_sector.ensures.erases, all.erases);
      journal = omega (arith, c.erase_sector.ensures.journal, all.journal);
      first = λ erased. record {
        none = λ start. absurd (omega (arith, start));
        some = λ later. free_next map _ _ _ c.args.image c.loop-index.index (c.loop-index.index + 1) (omega arith) erased
            (all.first erased) c.erase_sector.ensures.idle c.erase_sector.ensures.journal;
      };
      worn = worn_more map _ _ c.args.image c.loop-index.index _ _ c.requires.laid_out laid lt all.outside.size
          all.behind all.worn c.in_ok-erase_sector.ensures.worn;
      behind = λ k low. c.erase_sector.ensures.sector.after k (omega (arith, low, place, next))
          ∙ all.behind k (omega (arith, low, next));
      idle = sectors_idle map _ _ _ c.args.image c.loop-index.index lt all.idle c.erase_sector.ensures.idle;
      asleep = asleep_trans _ (g.F.Flash.chip c.loop-index.flash) _ all.uncut all.asleep
          c.erase_sector.ensures.ends.asleep;
    }

pub erase_sector-requires-clause-image : goal.erase_sector-requires-clause-image
erase_sector-requires-clause-image g c = record {
  laid_out = laid_out_kept c.args.map.now _ _ (g.F.Flash.chip c.loop-index.flash) c.requires.laid_out
      c.loop-index.invariant.outside;
  there = c.requires.there;
}
