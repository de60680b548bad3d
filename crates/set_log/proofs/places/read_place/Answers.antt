use Rattle.std.proofs.Common.{◌≡◌, arith, length}
use Rattle.set_log.proofs.View.{at_body, log_range}
use Rattle.flash_model.proofs.Ending.{ends_done}
use Rattle.set_log.proofs.places.read_place.Goals as goal

pub returns : goal.returns
returns g c =
    let map = c.args.map.now in
    let long : length c.read.new.out ≡ 56 = omega arith in
    record {
      same = c.read.ensures.same;
      ok = log_range map _ _ _ 56 _ c.requires.laid_out c.in_ok-read.ensures.ok
          (at_body map _ c.args.sector c.args.place c.requires.laid_out.is_map c.requires.sector c.requires.place
          c.record_start.ensures) long;
      ends = ends_done _ _ _ _ c.in_ok-read.ensures.ends;
    }
