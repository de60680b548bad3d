use Rattle.std.proofs.Common.{rules, ◌≡◌, List, refl, ap, subst}
use Rattle.std.specs.Prelude.{Contains, Decides}
use Rattle.std.proofs.lemmas.List.Elements.{contains_decides, Decides-contains}
use Rattle.std.proofs.lemmas.Slice.Eq.{slice_eq-Decides}
use Rattle.version_order.specs.declared.dependency.Dependency.{Dependency}
use Rattle.version_order.specs.contracts.dependency.DependencyPartialEq.TheImpl as of_dependencies
use Rattle.version_order.specs.declared.group.Group.{Group}
use Rattle.version_order.specs.contracts.group.GroupPartialEq.TheImpl as of_groups
use Rattle.checker.proofs.reasons.has_group.Goals as goal

-- The result of `==` for two dependencies.
equal_dependencies : (x y : Dependency) → Decides ((of_dependencies.ghosts).eq x y) (x ≡ y)
equal_dependencies x y = search rules

-- The result of `==` for two groups.
equal_groups : (x y : Group) → Decides ((of_groups.ghosts).eq x y) (x ≡ y)
equal_groups x y =
    let same = slice_eq-Decides equal_dependencies x.alternatives.items y.alternatives.items
    ((of_groups.ghosts).eq x y) refl in (
      λ equal. ap (λ (items : List Dependency). record { alternatives = record { items = items } }) (same.0 equal),
      λ is. same.1 (ap (λ (group : Group). group.alternatives.items) is),
    )

pub returns : goal.returns
returns c =
    let groups = c.deref.result.now in
    let group = c.args.group.now in
    let listed = Decides-contains groups group c.contains.result
    (contains_decides (of_groups.ghosts).eq equal_groups groups group c.contains.result c.contains.ensures.cases) in
    subst (λ (items : List Group). Decides c.contains.result (Contains items group)) c.deref.ensures.0 listed
