use Rattle.std.proofs.Common.{Bor, List, [], arith}
use Rattle.version_order.specs.declared.dependency.Dependency.{Dependency}
use Rattle.tlv.proofs.GroupSteps.{alternatives_at, groups_size-more}
use Rattle.tlv.proofs.make.groups.groups_length.Goals as goal

pub loop-alternatives-preserved : goal.loop-alternatives-preserved
loop-alternatives-preserved c =
    let i = c.loop-alternatives.alternatives-index in
    let so_far = c.loop-alternatives.invariant in
    let none : Bor (List Dependency) = record { ref_ptr = (0, 0); now = [] } in
    let at = alternatives_at c.args.groups.now i none c.loop-alternatives-test.true c.requires.each in
    record {
      length_of = omega
          (arith, so_far.length_of, groups_size-more c.args.groups.now i none c.loop-alternatives-test.true);
      few = omega (arith, so_far.few, at.most);
    }
