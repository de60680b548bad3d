use Rattle.std.proofs.Common.{refl}
use Rattle.std.proofs.lemmas.List.{get_or_default}
use Rattle.sweep.proofs.ScenarioLaws.{armed_for-more}
use Rattle.sweep.proofs.cuts.cut_writes.Goals as goal

-- One more write is armed.
pub loop-cut-preserved : goal.loop-cut-preserved
loop-cut-preserved c =
    let within = c.loop-cut-test.true in
    rw c.in_ok-push.ensures.items
    (armed_for-more c.args.cuts.now c.loop-cut.cut-index _ c.loop-cut.writes.items _ within
    (get_or_default c.args.cuts.now c.loop-cut.cut-index _ _ within) c.loop-cut.invariant refl c.in_ok-torn.ensures)
