-- The swap types of a pair of trailers, as MCUboot reads them (MCUboot design document, "Swapping":
-- the tables of swap types). The order of the rows is bootswap's own.
use Rattle.std.specs.Prelude.{◌&&◌, Bool, true, false, not, if◌then◌else◌}
use Rattle.trailer.specs.declared.kinds.Magic.{Magic}
use Rattle.trailer.specs.declared.kinds.Magic.TheVariants.{Good, Unset, Bad}
use Rattle.trailer.specs.declared.kinds.Trailer.{Trailer}
use Rattle.trailer.specs.declared.kinds.SwapType.{SwapType}
use Rattle.trailer.specs.declared.kinds.SwapType.TheVariants.{Test, Perm, Revert, None}
use Rattle.trailer.specs.Standing.{is_good}

abbrev pub is_unset : Magic → Bool
is_unset Good = false
is_unset Unset = true
is_unset Bad = false

-- The swap type of the first row that fits. No row looks at withdrawn.
abbrev pub swap_type_of : Trailer → Trailer → SwapType
swap_type_of primary secondary =
    if is_good secondary.magic && not secondary.image_ok then Test
    else if is_good secondary.magic && secondary.image_ok then Perm
    else if is_good primary.magic
    && (primary.copy_done && (not primary.image_ok && is_unset secondary.magic)) then Revert
    else None
