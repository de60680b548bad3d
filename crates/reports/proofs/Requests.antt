-- Laws of the request of an image.
use Rattle.std.proofs.Common.{◌≡◌, ℕ, true, false, Some, refl, ap, ◌∙◌}
use Rattle.std.specs.Option.{option_map_or}
use Rattle.std.proofs.lemmas.Option.{none-some}
use Rattle.reports.specs.declared.table.Entry.{Entry}
use Rattle.reports.specs.declared.table.Request.{Request}
use Rattle.reports.specs.declared.table.Request.TheVariants as request
use Rattle.reports.specs.declared.table.Image.{Image}
use Rattle.reports.specs.declared.table.Table.{Table}
use Rattle.reports.specs.Combination.{image_at, intact_entry}
use Rattle.reports.specs.Rightness.{has_request, is_requested}

-- An intact request is a request.
is_requested-intact : (asked : Request) (entry : Entry) → intact_entry asked ≡ Some entry → is_requested asked ≡ true
is_requested-intact request.None entry is = absurd (none-some entry is)
is_requested-intact request.Damaged entry is = absurd (none-some entry is)
is_requested-intact (request.Entry intact) entry is = refl

-- An image with an intact request has a request.
pub has_request-intact : (table : Table) (i : ℕ) (image : Image) (entry : Entry) → image_at table i ≡ Some image
    → intact_entry image.request ≡ Some entry → has_request table i ≡ true
has_request-intact table i image entry has_image has_entry =
    ap (λ found. option_map_or (λ any_image. is_requested any_image.request) found false) has_image
    ∙ is_requested-intact image.request entry has_entry
