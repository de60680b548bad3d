use Rattle.std.proofs.Common.{Bor, List, [], arith, rules}
use Rattle.std.proofs.lemmas.Bool.{false≢true}
use Rattle.version_order.specs.declared.dependency.Dependency.{Dependency}
use Rattle.tlv.proofs.GroupSteps.{alternatives_at}
use Rattle.tlv.proofs.make.groups.are_groups.Goals.{then-is_empty-via-then-is_empty, then-is_empty-via-else-is_empty+then-alternatives-gt-MOST_ALTERNATIVES}
use Rattle.tlv.proofs.make.groups.are_groups.Goals as goal

pub returns-then-is_empty : goal.returns-then-is_empty
returns-then-is_empty c = (
  λ never. absurd (false≢true never),
  λ are.
      let none : Bor (List Dependency) = record { ref_ptr = (0, 0); now = [] } in
      let at =
      alternatives_at c.args.groups.now c.loop-alternatives.alternatives-index none c.loop-alternatives-test.true
      are.each in
      elim c.then-is_empty.branch [
        | then-is_empty-via-then-is_empty w ↦ absurd (search (rules, at.some, w.if-is_empty))
        | then-is_empty-via-else-is_empty+then-alternatives-gt-MOST_ALTERNATIVES w ↦
            absurd (omega (arith, at.most, w.if-alternatives-gt-MOST_ALTERNATIVES.true))
      ],
)
