-- The dependants of an image.
use Rattle.std.proofs.Common.{◌≡◌, ℕ, ◌<◌, ◌≤◌, false, List, length, get_or, Some, refl, sym, ap, subst}
use Rattle.std.specs.Option.{option_map_or}
use Rattle.std.proofs.lemmas.Option.{slice_get_read, slice_get_past}
use Rattle.reports.specs.declared.table.Image.{Image}
use Rattle.reports.specs.declared.table.Table.{Table}
use Rattle.reports.specs.Combination.{image_at}
use Rattle.validity.specs.Dependants.{asks_for, is_dependant}

-- There is no dependant after the last image.
pub is_dependant-past : (table : Table) (j i : ℕ) → length table.images.items ≤ i → is_dependant table j i ≡ false
is_dependant-past table j i past =
    ap (λ found. option_map_or (asks_for j) found false) (slice_get_past table.images.items i past)
