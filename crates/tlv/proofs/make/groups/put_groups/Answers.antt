use Rattle.tlv.proofs.GroupSteps.{alternatives_at, groups_fit_more, groups_more}
use Rattle.tlv.proofs.MakingSteps.{puts_more}
use Rattle.tlv.proofs.make.groups.put_groups.Goals as goal

pub put_group-end-requires : goal.put_group-end-requires
put_group-end-requires c =
    (alternatives_at c.args.groups.now c.loop-alternatives.alternatives-index _ c.loop-alternatives-test.true
    c.requires).most

pub loop-alternatives-preserved : goal.loop-alternatives-preserved
loop-alternatives-preserved c =
    let i = c.loop-alternatives.alternatives-index in
    record {
      written = puts_more c.loop-alternatives.invariant.written c.put_group-end.ensures.entry
          (groups_more c.args.groups.now i _ c.loop-alternatives-test.true);
      fit = groups_fit_more c.args.groups.now i _ c.loop-alternatives-test.true c.requires
          c.loop-alternatives.invariant.fit c.put_group-end.ensures.fit;
    }
