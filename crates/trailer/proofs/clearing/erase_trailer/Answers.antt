use Rattle.std.proofs.Common.{◌*◌}
use Rattle.std.proofs.lemmas.Result.{on_ok_weaker}
use Rattle.flash_model.specs.Chip.{IsErased}
use Rattle.sector_map.specs.Part.{TrailerOf}
use Rattle.sector_map.proofs.Parts.{laid_out_kept}
use Rattle.trailer.proofs.Erased.{erased_fields_at, trailer_erased}
use Rattle.trailer.proofs.Places.{part_alone, part_within, some_trailer}
use Rattle.trailer.proofs.FailedCalls.{refuses}
use Rattle.trailer.proofs.clearing.erase_trailer.Goals as goal

pub erase-requires : goal.erase-requires
erase-requires g c = rw c.trailer.ensures
    (part_within c.args.map.now _ (TrailerOf c.args.image c.args.side) c.requires.laid_out
    (some_trailer c.args.map.now c.args.image c.args.side c.requires.laid_out.is_map c.requires.there))

pub returns : goal.returns
returns g c =
    let map = c.args.map.now in
    let old = g.F.Flash.chip c.args.flash.now in
    let new = g.F.Flash.chip c.erase.new.self in
    let outside = part_alone map _ _ (TrailerOf c.args.image c.args.side) _ c.erase.ensures.outside
    c.requires.laid_out (some_trailer map c.args.image c.args.side c.requires.laid_out.is_map c.requires.there)
    c.trailer.ensures in
    let laid = laid_out_kept map _ _ _ c.requires.laid_out outside in
    let erased = λ (all : IsErased new (c.trailer.result * old.sector_size) old.sector_size).
    trailer_erased map new c.args.image _ _ c.args.side all laid c.requires.there c.trailer.ensures
    c.requires.laid_out.sector_size in
    record {
      outside = outside;
      bytes = on_ok_weaker c.erase.result erased c.erase.ensures.ok;
      ok = on_ok_weaker c.erase.result
          (λ (all : IsErased new (c.trailer.result * old.sector_size) old.sector_size).
          erased_fields_at map new c.args.image c.args.side (erased all) laid c.requires.there)
          c.erase.ensures.ok;
      erases = c.erase.ensures.erases;
      journal = c.erase.ensures.journal;
      off = refuses _ _ _ c.erase.ensures.on c.erase.ensures.ends;
      ends = c.erase.ensures.ends;
    }
