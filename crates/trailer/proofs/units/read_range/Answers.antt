use Rattle.std.proofs.Common.{◌≡◌, arith, length, sym}
use Rattle.flash_model.proofs.Ending.{ends_passed, ends_done}
use Rattle.trailer.proofs.Places.{range_of_trailer, trailer_addressed, trailer_fits}
use Rattle.trailer.proofs.FailedCalls.{refuses, tells_nothing}
use Rattle.trailer.proofs.units.read_range.Goals as goal

pub returns-in_err-read : goal.returns-in_err-read
returns-in_err-read g c = tells_nothing _ _ _ _ c.read.ensures.same c.from_residual.ensures.0
    (ends_passed _ _ _ _ c.from_residual.ensures.1 c.in_err-read.ensures.ends)

pub returns : goal.returns
returns g c =
    let long : g.row.N ≡ length c.read.new.out = omega arith in
    let read = range_of_trailer c.args.map.now _ c.args.image _ c.args.offset g.row.N c.args.side _
    c.in_ok-read.ensures.ok
    (omega (arith, c.trailer_start.ensures)) long c.requires.within c.requires.laid_out c.requires.there in
    record {
      same = c.read.ensures.same;
      ok = sym read;
      erases = c.in_ok-read.ensures.erases;
      off = refuses _ _ _ c.in_ok-read.ensures.on (ends_done _ _ _ _ c.in_ok-read.ensures.ends);
      ends = ends_done _ _ _ _ c.in_ok-read.ensures.ends;
    }

pub overflow_add-trailer_start : goal.overflow_add-trailer_start
overflow_add-trailer_start g c = grind (arith, trailer_addressed)

pub read-requires : goal.read-requires
read-requires g c = grind (arith, trailer_fits)
