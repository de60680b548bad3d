use Rattle.std.proofs.Common.{arith, refl}
use Rattle.std.proofs.lemmas.Result.{on_ok_weaker}
use Rattle.flash_model.specs.Chip.{Reads}
use Rattle.trailer.proofs.FailedCalls.{at_any, refuses}
use Rattle.sector_map.proofs.Parts.{laid_out_kept}
use Rattle.trailer.proofs.Erased.{units_erased}
use Rattle.trailer.proofs.Places.{place_aligned, place_fits, read_of_trailer, units_alone}
use Rattle.trailer.proofs.units.write_units.Goals as goal

pub place_of-requires-clause-within : goal.place_of-requires-clause-within
place_of-requires-clause-within g c =
    omega (arith, c.requires.units.within, c.requires.units.laid_out.is_map.trailers 0)

pub program-requires : goal.program-requires
program-requires g c =
    let has = c.requires.units in
    record {
      inside = omega (
        arith,
        c.place_of.ensures,
        place_fits c.args.map.now _ c.args.image c.args.from_end c.args.side has.laid_out has.there has.within,
        has.room,
      );
      erased = units_erased c.args.map.now _ c.args.image _ c.args.from_end _ c.args.side c.requires.erased has.laid_out
          has.there c.place_of.ensures has.room (omega (arith, has.within, has.laid_out.is_map.trailers 0));
      place = rw c.place_of.ensures (place_aligned c.args.map.now c.args.image c.args.from_end c.args.side
          has.laid_out.is_map (omega (arith, has.within, has.laid_out.is_map.trailers 0)) has.place);
      units = has.whole;
      some = has.some;
    }

pub returns : goal.returns
returns g c =
    let has = c.requires.units in
    let laid = laid_out_kept c.args.map.now _ _ (g.F.Flash.chip c.program.new.self) has.laid_out
    (units_alone c.args.map.now _ _ c.args.image _ c.args.from_end _ c.args.side c.program.ensures.outside has.laid_out
    has.there c.place_of.ensures has.room has.within) in
    record {
      outside = rw c.place_of.ensures at c.program.ensures.outside;
      ok = on_ok_weaker c.program.result
          (λ (reads : Reads (g.F.Flash.chip c.program.new.self) c.place_of.result c.args.units.now).
          read_of_trailer c.args.map.now _ c.args.image _ c.args.from_end _ c.args.side _ reads c.place_of.ensures refl
          has.room (omega (arith, has.within, has.laid_out.is_map.trailers 0)) laid has.there)
          c.program.ensures.ok;
      erases = at_any _ c.program.result c.program.ensures.erases;
      journal = c.program.ensures.journal;
      off = refuses _ _ _ c.program.ensures.on c.program.ensures.ends;
      ends = c.program.ensures.ends;
    }
