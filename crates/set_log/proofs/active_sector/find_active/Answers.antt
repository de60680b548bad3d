use Rattle.std.proofs.Common.{rules, arith}
use Rattle.set_log.proofs.Turns.{no_active}
use Rattle.set_log.proofs.active_sector.find_active.Goals as goal

pub returns : goal.returns
returns g c = record {
  same = search rules;
  ok = no_active _ _ (λ s lt. c.loop-sector.invariant.none s (omega arith));
  on = search rules;
  ends = search rules;
}
