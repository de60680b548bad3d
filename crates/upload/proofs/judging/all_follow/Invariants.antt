use Rattle.std.proofs.Common.{◌≡◌, take}
use Rattle.upload.specs.View.{view}
use Rattle.upload.specs.Accepted.{AllFollowAt}
use Rattle.upload.proofs.judging.all_follow.Given as goal

abbrev pub invariant-loop-component : goal.invariant-loop-component
invariant-loop-component g l = record {
  follow : AllFollowAt (view l.map (g.F.Flash.chip l.initial.flash)) (take l.component-index l.components);
  same : g.F.Flash.chip l.flash ≡ g.F.Flash.chip l.initial.flash;
}
