use Rattle.std.proofs.Common.{◌+◌, arith, refl}
use Rattle.std.proofs.lemmas.Result.{IfOk-weaker}
use Rattle.sector_map.specs.Part.{TrailerOf}
use Rattle.trailer.proofs.Places.{trailer_addressed, trailer_fits, trailer_size}
use Rattle.trailer.proofs.Erased.{tells_range}
use Rattle.trailer.proofs.FailedCalls.{at_any}
use Rattle.trailer.proofs.units.is_range_erased.Goals as goal

pub returns : goal.returns
returns g c =
    let has = c.requires in
    let ok = IfOk-weaker c.is_erased.result _ _ (λ erased told.
    tells_range c.args.map.now _ (TrailerOf c.args.image c.args.side) _ c.args.length c.args.offset
    (c.args.offset + c.args.length) erased told has.laid_out
    (omega (
      arith,
      trailer_size c.args.map.now c.args.image c.args.side has.laid_out.is_map has.there,
      has.within,
    ))
    (omega (arith, c.trailer_start.ensures)) refl)
    c.is_erased.ensures.ok in
    record {
      same = c.is_erased.ensures.same;
      ok = ok;
      erases = at_any _ _ c.is_erased.ensures.erases;
      off = λ off. c.is_erased.ensures.refuses off has.some;
      ends = c.is_erased.ensures.ends;
    }

pub overflow_add-trailer_start : goal.overflow_add-trailer_start
overflow_add-trailer_start g c = grind (arith, trailer_addressed)

pub is_erased-requires : goal.is_erased-requires
is_erased-requires g c = grind (arith, trailer_fits)
