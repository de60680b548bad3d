use Rattle.std.proofs.Common.{refl}
use Rattle.checker.proofs.ImageLookups.{image_at-found, image_at-missing}
use Rattle.checker.proofs.reasons.is_out_of_reach.Goals as goal

pub returns-in-Some : goal.returns-in-Some
returns-in-Some c =
    let at = image_at-found _ _ _ _ _ c.deref.ensures.0 c.from.ensures c.in-Some.ensures.lookup.0
    c.in-Some.ensures.lookup.1 in
    rw (at, ← c.best_version.ensures) c.lt.ensures

pub returns-in-None : goal.returns-in-None
returns-in-None c =
    rw (image_at-missing _ _ _ _ c.deref.ensures.0 c.from.ensures c.in-None.ensures.lookup.0) refl
