-- A lookup in a list, such as that of a table's images, finds the element of that number.
use Rattle.std.proofs.Common.{◌≡◌, ℕ, false, true, nat_lt, List, length, get_or, None, Some, refl, rules, slice_get, tests}
use Rattle.std.proofs.lemmas.Option.{slice_get_past, slice_get_read}
use Rattle.reports.specs.declared.table.Image.{Image}
use Rattle.reports.specs.declared.table.Table.{Table}
use Rattle.reports.specs.Combination.{image_at}

pub looked_up : {X : Type 0} (all items : List X) (number place : ℕ) (x : X)
    → items ≡ all → place ≡ number → true ≡ nat_lt place (length items)
    → x ≡ get_or items place x → slice_get all number ≡ Some x
looked_up all items number place x same here within is =
    rw (← same, ← here) (slice_get_read items (length items) place x refl (search (rules, tests)) is)

-- A lookup finds nothing if the list ends before that number.
pub looked_past : {X : Type 0} (all items : List X) (number place : ℕ)
    → items ≡ all → place ≡ number → false ≡ nat_lt place (length items) → slice_get all number ≡ None
looked_past all items number place same here past =
    rw (← same, ← here) (slice_get_past items place (search (rules, tests)))

pub image_at-found : (table : Table) (images : List Image) (number place : ℕ) (image : Image)
    → images ≡ table.images.items → place ≡ number → true ≡ nat_lt place (length images)
    → image ≡ get_or images place image → image_at table number ≡ Some image
image_at-found table images number place image same here within is =
    looked_up table.images.items images number place image same here within is

pub image_at-missing : (table : Table) (images : List Image) (number place : ℕ)
    → images ≡ table.images.items → place ≡ number → false ≡ nat_lt place (length images) → image_at table number ≡ None
image_at-missing table images number place same here past =
    looked_past table.images.items images number place same here past
