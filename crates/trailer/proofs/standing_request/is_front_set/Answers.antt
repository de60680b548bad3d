use Rattle.std.proofs.Common.{arith, ◌∙◌, ap, not, refl}
use Rattle.sector_map.specs.Part.{Slot}
use Rattle.trailer.proofs.Erased.{tells_range}
use Rattle.trailer.proofs.Places.{some_slot, sector_of_part, slot_fits}
use Rattle.flash_model.proofs.Ending.{ends_passed, ends_done}
use Rattle.trailer.proofs.FailedCalls.{refuses_first, tells_nothing}
use Rattle.trailer.proofs.standing_request.is_front_set.Goals as goal

pub returns-in_err-erased : goal.returns-in_err-erased
returns-in_err-erased g c = tells_nothing _ _ _ _ c.is_unit_erased.ensures.same c.from_residual.ensures.0
    (ends_passed _ _ _ _ c.from_residual.ensures.1 c.in_err-erased.ensures.ends)

pub returns : goal.returns
returns g c =
    let some = some_slot c.args.map.now c.args.image c.args.side c.requires.laid_out.is_map c.requires.there in
    let ok = ap not (tells_range c.args.map.now _ (Slot c.args.image c.args.side) _ 8 0 8 _
    c.in_ok-erased.ensures.ok c.requires.laid_out
    (omega (
      arith,
      sector_of_part c.args.map.now (Slot c.args.image c.args.side) some,
      c.requires.laid_out.is_map.trailers 0,
    )) (c.slot_start.ensures ∙ omega arith) refl) in
    record {
      same = c.is_unit_erased.ensures.same;
      ok = ok;
      erases = c.is_unit_erased.ensures.erases;
      off = refuses_first _ _ _ c.in_ok-erased.ensures.refuses;
      ends = ends_done _ _ _ _ c.in_ok-erased.ensures.ends;
    }

pub is_unit_erased-requires : goal.is_unit_erased-requires
is_unit_erased-requires g c = grind (arith, slot_fits)
