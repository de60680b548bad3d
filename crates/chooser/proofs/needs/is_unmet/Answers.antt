use Rattle.std.proofs.Common.{◌≡◌, ℕ, ◌||◌, List, is_some, sym, ap, ◌∙◌}
use Rattle.std.specs.List.{list_any}
use Rattle.std.proofs.lemmas.Bool.{or_left}
use Rattle.version_order.specs.declared.dependency.Dependency.{Dependency}
use Rattle.version_order.specs.declared.group.Group.{Group}
use Rattle.reports.specs.declared.report.Reason.TheVariants.{Needs, NeedsOne}
use Rattle.reports.specs.declared.report.Refusal.{Refusal}
use Rattle.reports.specs.declared.table.Entry.{Entry}
use Rattle.reports.specs.declared.table.Table.{Table}
use Rattle.reports.specs.Reasons.{is_group_out_of_reach, is_out_of_reach}
use Rattle.reports.specs.StandardOrder.{needs_reason_of_entry}
use Rattle.chooser.proofs.Searches.{is_some-first_found}
use Rattle.chooser.proofs.needs.is_unmet.Goals as goal

-- An entry has a reason if a dependency or a group is out of reach.
has_reason : (table : Table) (before : List Refusal) (own : ℕ) (entry : Entry)
    → is_some (needs_reason_of_entry table before own entry)
    ≡ (list_any (is_out_of_reach table before own) entry.dependencies.items
    || list_any (is_group_out_of_reach table before own) entry.groups.items)
has_reason table before own entry =
    is_some-first_found (λ (dependency : Dependency). Needs dependency.image dependency.minimum)
    (λ (group : Group). NeedsOne group) (is_out_of_reach table before own) (is_group_out_of_reach table before own)
    entry.dependencies.items entry.groups.items

pub returns-then-has_unmet_dependency : goal.returns-then-has_unmet_dependency
returns-then-has_unmet_dependency c =
    let test = is_out_of_reach c.args.table.now c.args.before.now c.args.own in
    let found = ap (list_any test) (sym c.deref.ensures.0) ∙ sym c.has_unmet_dependency.ensures
    ∙ c.if-has_unmet_dependency.true in
    c.if-has_unmet_dependency.true
    ∙ sym (has_reason c.args.table.now c.args.before.now c.args.own c.args.entry.now ∙ or_left _ _ found)

pub returns-else-has_unmet_dependency : goal.returns-else-has_unmet_dependency
returns-else-has_unmet_dependency c =
    let test = is_out_of_reach c.args.table.now c.args.before.now c.args.own in
    let of_groups = is_group_out_of_reach c.args.table.now c.args.before.now c.args.own in
    let groups = c.args.entry.now.groups.items in
    let none = ap (list_any test) (sym c.deref.ensures.0) ∙ sym c.has_unmet_dependency.ensures
    ∙ c.if-has_unmet_dependency.false in
    c.has_unmet_group.ensures ∙ ap (list_any of_groups) c.deref-else-has_unmet_dependency.ensures.0
    ∙ sym (has_reason c.args.table.now c.args.before.now c.args.own c.args.entry.now
    ∙ ap (λ found. found || list_any of_groups groups) none)
