-- The kind of a request.
use Rattle.std.specs.Prelude.{Bool, if◌then◌else◌}
use Rattle.common.specs.declared.kind.Kind.{Kind}
use Rattle.common.specs.declared.kind.Kind.TheVariants.{Test, Permanent}

-- The kind of a request, by whether it is permanent.
abbrev pub kind_of : Bool → Kind
kind_of image_ok = if image_ok then Permanent else Test
