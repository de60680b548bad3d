use Rattle.std.proofs.Common.{refl, rules}
use Rattle.reports.specs.Combination.{MayReplace}
use Rattle.checker.proofs.ImageLookups.{image_at-found, image_at-missing}
use Rattle.checker.proofs.Unmet.{intact-none, no_where, unmet-missing, unmet-other}
use Rattle.checker.proofs.combination.is_acceptable.Goals as goal

pub returns-then-ge : goal.returns-then-ge
returns-then-ge c =
    let at = image_at-found _ _ _ _ _ c.deref.ensures.0 refl c.in-Some.ensures.lookup.0
    c.in-Some.ensures.lookup.1 in
    rw (at, c.in-Entry.is) (search rules)

pub returns-else-ge : goal.returns-else-ge
returns-else-ge c =
    let at = image_at-found _ _ _ _ _ c.deref.ensures.0 refl c.in-Some.ensures.lookup.0
    c.in-Some.ensures.lookup.1 in
    rw (at, c.in-Entry.is) (search rules)

pub returns-in_default : goal.returns-in_default
returns-in_default c =
    no_where (unmet-missing c.args.table.now c.args.number MayReplace
    (image_at-missing _ _ _ _ c.deref.ensures.0 refl c.in_default.ensures.lookup.0))

pub returns-in_default-request : goal.returns-in_default-request
returns-in_default-request c =
    let at = image_at-found _ _ _ _ _ c.deref.ensures.0 refl c.in-Some.ensures.lookup.0
    c.in-Some.ensures.lookup.1 in
    no_where (unmet-other c.args.table.now c.args.number c.in-Some.image.now MayReplace at
    (intact-none _ c.in_default-request.not-Entry))
