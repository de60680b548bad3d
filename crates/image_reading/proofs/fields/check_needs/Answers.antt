use Rattle.std.proofs.Common.{rules}
use Rattle.image_reading.specs.Gathered.{dependency_spelling, group_spelling}
use Rattle.image_reading.proofs.Gathered.{few_kept}
use Rattle.image_reading.proofs.Needs.{SpellDependencies-kept, SpellGroups-kept, bad_needs, too_many_dependencies, too_many_groups}
use Rattle.image_reading.proofs.fields.check_needs.Goals as goal

pub returns-then-dependencies-clause-err : goal.returns-then-dependencies-clause-err
returns-then-dependencies-clause-err c = λ description values others met met_groups.
    bad_needs values others (search rules)

pub returns-then-dependencies-2-clause-err : goal.returns-then-dependencies-2-clause-err
returns-then-dependencies-2-clause-err c = λ description values others met met_groups.
    too_many_dependencies values others description _ _ met met_groups c.if-dependencies.false c.if-groups.false
    c.if-dependencies-2.true

pub returns-then-groups-2-clause-err : goal.returns-then-groups-2-clause-err
returns-then-groups-2-clause-err c = λ description values others met met_groups.
    too_many_groups values others description _ _ met met_groups c.if-dependencies.false c.if-groups.false
    c.if-dependencies-2.false c.if-groups-2.true

pub returns-clause-ok : goal.returns-clause-ok
returns-clause-ok c = λ description values others gathered gathered_groups.
    let kept = gathered.kept c.if-dependencies.false in
    let kept_groups = gathered_groups.kept c.if-groups.false in
    record {
      dependencies = SpellDependencies-kept values _ _ kept c.if-dependencies-2.false;
      groups = SpellGroups-kept others _ _ kept_groups c.if-groups-2.false;
      few_dependencies = few_kept dependency_spelling 16 values _ _ _ kept;
      few_groups = few_kept group_spelling 4 others _ _ _ kept_groups;
    }
