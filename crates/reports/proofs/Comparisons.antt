-- The comparisons of the code in the terms of the definitions.
use Rattle.std.proofs.Common.{◌≡◌, refl}
use Rattle.std.specs.Prelude.{not}
use Rattle.std.specs.declared.cmp.Ordering.{Ordering}
use Rattle.std.specs.declared.cmp.Ordering.TheVariants.{Less, Equal, Greater}
use Rattle.std.specs.Ordering.{is_ge, is_lt}

pub is_ge-not_lt : (o : Ordering) → is_ge o ≡ not (is_lt o)
is_ge-not_lt Less = refl
is_ge-not_lt Equal = refl
is_ge-not_lt Greater = refl
