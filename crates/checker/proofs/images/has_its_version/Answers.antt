use Rattle.std.proofs.Common.{refl, rules, tests}
use Rattle.checker.proofs.ImageLookups.{looked_past, looked_up}
use Rattle.checker.proofs.images.has_its_version.Goals as goal

pub returns-in-None : goal.returns-in-None
returns-in-None c =
    rw (looked_past c.args.report.now.images.items _ _ _ c.deref.ensures.0 refl c.in-None.ensures.lookup.0)
    (λ yes. tt, λ any. refl)

pub returns-in-Some : goal.returns-in-Some
returns-in-Some c =
    let at = looked_up c.args.report.now.images.items _ _ _ _ c.deref.ensures.0 refl
    c.in-Some.ensures.lookup.0 c.in-Some.ensures.lookup.1 in
    rw (at, ← c.entry_in.ensures) (search (rules, tests))
