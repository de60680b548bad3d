use Rattle.std.proofs.Common.{◌≡◌, ◌+◌, ◌*◌, ◌<◌, ◌≤◌, true}
use Rattle.trailer.specs.Status.{status_count_of}
use Rattle.trailer.proofs.statuses.pass_set.Given as goal

abbrev pub invariant-loop-block : goal.invariant-loop-block
invariant-loop-block g l = record {
  same : g.F.Flash.chip l.flash ≡ g.F.Flash.chip l.fn.flash;
  set : l.known + 8 * l.block ≤ status_count_of l.map (g.F.Flash.chip l.fn.flash) l.image l.side;
  on : 0 < l.block → (g.F.Flash.chip l.fn.flash).is_on ≡ true;
}
