use Rattle.std.proofs.Common.{rules, arith, ◌∙◌}
use Rattle.flash_model.proofs.Ending.{ends_done, ends_then}
use Rattle.swap_scratch.proofs.KnownUnits.{block_known, count_known, count_within}
use Rattle.swap_scratch.proofs.counting.count_from.Goals as goal

pub returns-then-branch : goal.returns-then-branch
returns-then-branch g c = record {
  same = c.are_units_erased.ensures.same;
  ok = block_known c.args.map.now (g.F.Flash.chip c.args.flash.now) c.args.image c.args.side c.args.from
      c.min-units.result (search rules) c.requires.set (omega arith) (omega arith);
  ends = ends_done _ _ _ _ c.in_ok-are_units_erased.ensures.ends;
}

pub overflow_add-count : goal.overflow_add-count
overflow_add-count g c = omega (
  arith,
  c.status_units-all.ensures.count,
  c.status_units-all.ensures.fit,
  c.in_ok-count.ensures.ok,
  count_within c.args.map.now (g.F.Flash.chip c.are_units_erased.new.flash) c.args.image c.args.side,
)

pub returns : goal.returns
returns g c =
    let is = rw c.are_units_erased.ensures.same at c.in_ok-count.ensures.ok in
    let within = count_within c.args.map.now (g.F.Flash.chip c.args.flash.now) c.args.image c.args.side in
    record {
      same = c.status_count_from.ensures.same ∙ c.are_units_erased.ensures.same;
      ok = count_known _ _ _ _ _ _ is (omega (arith, is, within)) (omega arith) (omega arith);
      ends = ends_then _ _ _ _ _ c.in_ok-are_units_erased.ensures.ends
          (ends_done _ _ _ _ c.in_ok-count.ensures.ends);
    }
