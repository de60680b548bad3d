use Rattle.std.proofs.Common.{ap, not}
use Rattle.set_log.specs.Ring.{is_closed}
use Rattle.set_log.proofs.View.{at_closing, log_tells}
use Rattle.flash_model.proofs.Ending.{ends_done, was_on}
use Rattle.set_log.proofs.places.is_closed.Goals as goal

pub returns : goal.returns
unfolding is_closed
returns g c =
    let map = c.args.map.now in
    record {
      same = c.is_unit_erased.ensures.same;
      ok = ap not (log_tells map _ _ _ 8 _ c.requires.laid_out c.in_ok-erased.ensures.ok
          (at_closing map _ c.args.sector c.requires.laid_out.is_map c.requires.sector c.closing_unit.ensures));
      on = was_on _ _ c.in_ok-erased.ensures.refuses;
      ends = ends_done _ _ _ _ c.in_ok-erased.ensures.ends;
    }
