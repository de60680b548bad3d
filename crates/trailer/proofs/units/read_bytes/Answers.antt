use Rattle.std.proofs.Common.{◌≡◌, arith, length, sym}
use Rattle.flash_model.proofs.Ending.{ends_passed, ends_done}
use Rattle.trailer.proofs.Places.{read_of_trailer, place_fits}
use Rattle.trailer.proofs.FailedCalls.{refuses, tells_nothing}
use Rattle.trailer.proofs.units.read_bytes.Goals as goal

pub returns-in_err-read : goal.returns-in_err-read
returns-in_err-read g c = tells_nothing _ _ _ _ c.read.ensures.same c.from_residual.ensures.0
    (ends_passed _ _ _ _ c.from_residual.ensures.1 c.in_err-read.ensures.ends)

pub returns : goal.returns
returns g c =
    let long : g.row.N ≡ length c.read.new.out = omega arith in
    let read = read_of_trailer c.args.map.now _ c.args.image _ c.args.from_end g.row.N c.args.side _
    c.in_ok-read.ensures.ok
    c.place_of.ensures long c.requires.room
    (omega (arith, c.requires.within, c.requires.laid_out.is_map.trailers 0)) c.requires.laid_out c.requires.there in
    record {
      same = c.read.ensures.same;
      ok = sym read;
      erases = c.in_ok-read.ensures.erases;
      off = refuses _ _ _ c.in_ok-read.ensures.on (ends_done _ _ _ _ c.in_ok-read.ensures.ends);
      ends = ends_done _ _ _ _ c.in_ok-read.ensures.ends;
    }

pub read-requires : goal.read-requires
read-requires g c = omega (
  arith,
  c.place_of.ensures,
  place_fits c.args.map.now (g.F.Flash.chip c.args.flash.now) c.args.image
      c.args.from_end c.args.side c.requires.laid_out c.requires.there c.requires.within,
)
