-- What the trailers of a flash require of a boot, by MCUboot's table of swap types.
use Rattle.std.specs.Prelude.{ℕ}
use Rattle.sector_map.specs.declared.layout.Side.TheVariants.{Primary, Secondary}
use Rattle.common.specs.declared.kind.Kind.{Kind}
use Rattle.common.specs.declared.kind.Kind.TheVariants as request
use Rattle.trailer.specs.declared.kinds.SwapType.{SwapType}
use Rattle.trailer.specs.declared.kinds.SwapType.TheVariants as type
use Rattle.trailer.specs.Fields.{trailer_of}
use Rattle.trailer.specs.SwapTable.{swap_type_of}
use Rattle.upload.specs.View.{View}

-- The swap type of an image.
abbrev pub swap_type_at : View → ℕ → SwapType
swap_type_at w i =
    swap_type_of (trailer_of (w.trailer i Primary)) (trailer_of (w.trailer i Secondary))

-- The swap type of a request.
abbrev pub type_of : Kind → SwapType
type_of request.Test = type.Test
type_of request.Permanent = type.Perm
