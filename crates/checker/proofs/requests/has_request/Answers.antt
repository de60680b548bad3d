use Rattle.std.proofs.Common.{refl, rules}
use Rattle.checker.proofs.ImageLookups.{image_at-found, image_at-missing}
use Rattle.checker.proofs.requests.has_request.Goals as goal

pub returns-in-None : goal.returns-in-None
returns-in-None c =
    rw (image_at-missing _ _ _ _ c.deref.ensures.0 refl c.in-None.ensures.lookup.0) refl

pub returns-after-matches : goal.returns-after-matches
returns-after-matches c =
    let at = image_at-found _ _ _ _ _ c.deref.ensures.0 refl c.in-Some.ensures.lookup.0
    c.in-Some.ensures.lookup.1 in
    rw at (search rules)
