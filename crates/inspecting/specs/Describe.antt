-- What `image` finds in bytes.
use Rattle.std.specs.Prelude.{◌≡◌, ℕ, List}
use Rattle.image_reading.specs.Fault.{IsFirstFault}
use Rattle.image_reading.specs.Image.{IsIntact}
use Rattle.inspecting.specs.declared.inspection.Inspection.{Inspection}
use Rattle.inspecting.specs.declared.inspection.Inspection.TheVariants as found

-- The description of the intact image, or these bytes and the first check that fails.
abbrev pub IsDescribed : List ℕ → Inspection → Type 0
IsDescribed bytes (found.Image description) = IsIntact bytes description
IsDescribed bytes (found.RefusedImage refused) =
    (refused.bytes.items ≡ bytes) × IsFirstFault bytes refused.fault
IsDescribed bytes it = ⊥
