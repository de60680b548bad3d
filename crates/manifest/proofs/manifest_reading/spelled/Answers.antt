use Rattle.std.proofs.Common.{◌≡◌, length, sym, arith, rules}
use Rattle.std.proofs.lemmas.Slice.Zip.{AllZip-long}
use Rattle.std.specs.List.{AllZip}
use Rattle.common.proofs.Options.{IsSomeAnd-at}
use Rattle.manifest.specs.Component.{IsComponent}
use Rattle.manifest.proofs.manifest_reading.spelled.Goals as goal

pub returns-then-is_empty-clause-other : goal.returns-then-is_empty-clause-other
returns-then-is_empty-clause-other c =
    λ manifest spells.
    let empty : length c.in_ok-components.components.items ≡ 0 = search rules in
    let found = rw c.as_slice.ensures.value at c.in_ok-components.ensures.found in
    let meant = IsSomeAnd-at _ (λ values. AllZip IsComponent values manifest.components.items) _ (sym c.in_ok-array.ensures) spells.components in
    omega (arith, empty, AllZip-long IsComponent _ _ found, AllZip-long IsComponent _ _ meant, spells.some)
