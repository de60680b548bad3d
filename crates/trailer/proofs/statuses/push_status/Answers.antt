use Rattle.std.proofs.Common.{◌+◌, ◌*◌, ap, arith}
use Rattle.std.proofs.lemmas.Result.{on_ok_weaker}
use Rattle.trailer.proofs.FailedCalls.{at_any, refuses}
use Rattle.trailer.proofs.Places.{trailer_fits, trailer_addressed}
use Rattle.trailer.proofs.StatusUnits.{status_aligned, status_alone, status_fit, status_is_erased, own_status, pushed}
use Rattle.trailer.proofs.statuses.push_status.Goals as goal

pub set_unit-requires-clause-inside : goal.set_unit-requires-clause-inside
set_unit-requires-clause-inside g c = omega (
  arith,
  c.trailer_start.ensures,
  trailer_fits c.args.map.now _ c.args.image c.args.side c.requires.image.laid_out c.requires.image.there,
  status_fit c.args.map.now c.args.image c.requires.image.laid_out.is_map,
  c.requires.room,
)

pub set_unit-requires-clause-erased : goal.set_unit-requires-clause-erased
set_unit-requires-clause-erased g c =
    status_is_erased c.args.map.now _ c.args.image _ c.args.count c.args.side c.requires.image.laid_out
    c.requires.image.there c.requires.count c.requires.room (ap (λ a. a + 8 * c.args.count) c.trailer_start.ensures)

pub set_unit-requires-clause-place : goal.set_unit-requires-clause-place
set_unit-requires-clause-place g c = rw c.trailer_start.ensures
    (status_aligned c.args.map.now c.args.image c.args.count c.args.side c.requires.image.laid_out.is_map)

pub returns : goal.returns
returns g c =
    let place = ap (λ a. a + 8 * c.args.count) c.trailer_start.ensures in
    record {
      outside = status_alone c.args.map.now _ _ c.args.image _ c.args.count c.args.side c.set_unit.ensures.outside
          c.requires.image.laid_out c.requires.image.there place c.requires.room;
      unit = rw (c.trailer_start.ensures, c.requires.count) at c.set_unit.ensures.outside;
      own = own_status c.args.map.now _ _ c.args.image _ c.args.count c.args.side c.set_unit.ensures.outside
          c.requires.image.laid_out.is_map c.requires.image.there place c.requires.room;
      ok = on_ok_weaker c.set_unit.result (λ set.
          pushed c.args.map.now _ _ c.args.image _ c.args.count c.args.side c.set_unit.ensures.outside set
          c.requires.image.laid_out c.requires.image.there c.requires.count c.requires.room place)
          c.set_unit.ensures.ok;
      flag = rw (c.trailer_start.ensures, c.requires.count) at c.set_unit.ensures.flag;
      erases = at_any _ _ c.set_unit.ensures.erases;
      off = refuses _ _ _ c.set_unit.ensures.on c.set_unit.ensures.ends;
      journal = c.set_unit.ensures.journal;
      ends = c.set_unit.ensures.ends;
    }

pub overflow_add-trailer_start : goal.overflow_add-trailer_start
overflow_add-trailer_start g c = grind (arith, trailer_addressed)
