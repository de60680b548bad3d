use Rattle.std.proofs.Common.{rules, arith, ◌≡◌, ◌*◌, true, sym}
use Rattle.sector_map.specs.Map.{slot_sectors}
use Rattle.flash_model.specs.Units.{are_erased}
use Rattle.trailer.specs.Fields.{trailer_bytes}
use Rattle.trailer.specs.Status.{status_unit}
use Rattle.trailer.proofs.StatusUnits.{set_below, units_are}
use Rattle.trailer.proofs.FailedCalls.{refuses_first}
use Rattle.trailer.proofs.statuses.status_count_from.Goals as goal

pub loop-status-init : goal.loop-status-init
loop-status-init g c = record {
  same = search rules;
  set = λ j lt. set_below (trailer_bytes c.args.map.now (g.F.Flash.chip c.args.flash.now) c.args.image c.args.side)
      (3 * slot_sectors c.args.map.now c.args.image) j (omega (arith, lt, c.in_ok-set.ensures.set));
  past = c.in_ok-set.ensures.past;
  on = c.in_ok-set.ensures.on;
}

pub returns-then-branch : goal.returns-then-branch
returns-then-branch g c =
    let free : are_erased (status_unit (trailer_bytes c.args.map.now (g.F.Flash.chip c.args.flash.now)
    c.args.image c.args.side) c.loop-status.status) ≡ true = search rules in
    record {
      same = search rules;
      ok = sym (units_are (trailer_bytes c.args.map.now (g.F.Flash.chip c.args.flash.now) c.args.image c.args.side)
          _ _ (omega arith) c.loop-status.invariant.set (λ lt. free));
      erases = search rules;
      off = refuses_first _ _ _ (rw c.loop-status.invariant.same at c.in_ok-is_range_erased.ensures.off);
      ends = search rules;
    }

pub returns : goal.returns
returns g c = grind (arith, units_are)
