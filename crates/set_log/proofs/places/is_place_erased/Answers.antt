use Rattle.std.proofs.lemmas.Result.{IfOk-weaker}
use Rattle.set_log.proofs.View.{at_place, log_tells}
use Rattle.set_log.proofs.places.is_place_erased.Goals as goal

pub returns : goal.returns
returns g c =
    let map = c.args.map.now in
    record {
      same = c.is_erased.ensures.same;
      ok = IfOk-weaker c.is_erased.result _ _ (λ erased told.
          log_tells map _ _ _ 64 erased c.requires.laid_out told
          (at_place map _ c.args.sector c.args.place c.requires.laid_out.is_map c.requires.sector c.requires.place
          c.record_start.ensures))
          c.is_erased.ensures.ok;
      ends = c.is_erased.ensures.ends;
    }
