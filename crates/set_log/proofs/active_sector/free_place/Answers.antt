use Rattle.std.proofs.Common.{rules, ◌≡◌, ◌*◌, ◌+◌, ◌-◌, ◌<◌, ◌≤◌, arith, sym, subst, ◌∙◌, false, true}
use Rattle.set_log.specs.Ring.{reads_erased, places_in}
use Rattle.set_log.specs.Log.{log_bytes, log_of}
use Rattle.set_log.proofs.Blank.{erased_below}
use Rattle.set_log.proofs.View.{place_reads}
use Rattle.set_log.specs.Written.{IsFirstFree}
use Rattle.set_log.proofs.Placing.{match_option, none_found, first_found}
use Rattle.set_log.proofs.active_sector.free_place.Goals as goal

pub loop-place-preserved : goal.loop-place-preserved
loop-place-preserved g c =
    let map = c.args.map.now in
    let some : 0 < c.loop-place.place = omega arith in
    let reads : reads_erased (log_bytes map (g.F.Flash.chip c.args.flash.now))
    (c.args.sector * map.sector_size + 64 * (c.loop-place.place - 1)) 64 ≡ true =
    rw c.loop-place.invariant.same at (sym c.in_ok-is_place_erased.ensures.ok ∙ c.if-not-branch.false) in
    record {
      same = c.is_place_erased.ensures.same ∙ c.loop-place.invariant.same;
      below = omega (arith, c.loop-place.invariant.below);
      erased = erased_below (c.args.sector * map.sector_size) c.loop-place.place (places_in map.sector_size)
          (log_of map (g.F.Flash.chip c.args.flash.now)) c.loop-place.invariant.erased some
          c.loop-place.invariant.below
          (place_reads map _ c.args.sector _ c.requires.laid_out c.requires.sector
          (omega (arith, c.loop-place.invariant.below)) reads);
    }

pub returns-then-not-branch : goal.returns-then-not-branch
returns-then-not-branch g c =
    let map = c.args.map.now in
    let not_erased : reads_erased (log_bytes map (g.F.Flash.chip c.args.flash.now))
    (c.args.sector * map.sector_size + 64 * (c.loop-place.place - 1)) 64 ≡ false =
    rw c.loop-place.invariant.same at (sym c.in_ok-is_place_erased.ensures.ok ∙ c.if-not-branch.true) in
    let among = rw c.record_places-places.ensures at c.place_among.ensures in
    record {
      same = search rules;
      ok = match_option c.place_among.result
          (λ (le : places_in map.sector_size ≤ c.loop-place.place). none_found map.sector_size c.args.sector
          c.loop-place.place _ c.loop-place.invariant.below le not_erased)
          (λ place is. subst
          (λ p. IsFirstFree map.sector_size (log_of map (g.F.Flash.chip c.args.flash.now)) c.args.sector p)
          (sym is.0) (first_found map.sector_size c.args.sector c.loop-place.place _ is.1
          c.loop-place.invariant.erased not_erased))
          among;
      ends = search rules;
    }
