-- If a request is pending, the first unit of the slot is set, and the trailer isn't erased.
use Rattle.std.proofs.Common.{◌≡◌, ℕ, ◌+◌, ◌<◌, Bool, true, false, not, Some, None, refl, sym, ap, ◌∙◌, arith}
use Rattle.std.specs.Prelude.{◌&&◌, if◌then◌else◌}
use Rattle.flash_model.specs.Chip.{Chip}
use Rattle.sector_map.specs.declared.layout.SectorMap.{SectorMap}
use Rattle.sector_map.specs.declared.layout.Side.TheVariants.{Secondary}
use Rattle.sector_map.specs.Map.{IsLaidOut}
use Rattle.common.specs.declared.kind.Kind.{Kind}
use Rattle.trailer.specs.declared.kinds.Trailer.{Trailer}
use Rattle.flash_model.specs.Units.{are_erased}
use Rattle.trailer.specs.Fields.{Fields, erased_fields, fields_at, trailer_bytes, trailer_of}
use Rattle.trailer.specs.Standing.{first_is_set, incoming_slot, is_good, standing_kind, standing_of}
use Rattle.common.specs.Kind.{kind_of}
use Rattle.trailer.proofs.Erased.{erased_fields_at}

-- No request is pending if the slot begins with an erased unit.
unfilled : (is_good is_kept : Bool) (own kind : Kind)
    → (if is_good && (is_kept && false) then Some own else None) ≡ Some kind → ⊥
unfilled true true own kind is = cc
unfilled true false own kind is = cc
unfilled false is_kept own kind is = cc

filled : (trailer : Trailer) (is_filled : Bool) (kind : Kind) → standing_kind trailer is_filled ≡ Some kind
    → is_filled ≡ true
filled trailer true kind is = refl
filled trailer false kind is =
    absurd (unfilled (is_good trailer.magic) (not trailer.withdrawn) (kind_of trailer.image_ok) kind is)

-- No request is pending if the trailer is erased.
unasked : (is_filled : Bool) (kind : Kind) → standing_kind (trailer_of erased_fields) is_filled ≡ Some kind → ⊥
unasked is_filled kind is = cc

pub stands_in_units : (map : SectorMap) (chip : Chip) (image : ℕ) (kind : Kind) → IsLaidOut map chip
    → image < map.images → standing_of map chip image ≡ Some kind
    → (first_is_set (incoming_slot map chip image) ≡ true)
    × (are_erased (trailer_bytes map chip image Secondary) ≡ false)
stands_in_units map chip image kind laid there stands = (
  filled (trailer_of (fields_at map chip image Secondary)) (first_is_set (incoming_slot map chip image)) kind stands,
  by (are_erased (trailer_bytes map chip image Secondary)) refl,
)
  where
    by : (erased : Bool) → are_erased (trailer_bytes map chip image Secondary) ≡ erased → erased ≡ false
    by false is = refl
    by true is = absurd (unasked (first_is_set (incoming_slot map chip image)) kind
        (ap (λ (fields : Fields). standing_kind (trailer_of fields) (first_is_set (incoming_slot map chip image)))
        (sym (erased_fields_at map chip image Secondary is laid there)) ∙ stands))

-- Erasing both costs two sectors.
pub two : (n m : ℕ) (is_filled is_erased : Bool) → is_filled ≡ true → is_erased ≡ false
    → m ≡ n + (if is_filled then 1 else 0) + (if is_erased then 0 else 1) → m ≡ n + 2
two n m true false set kept costs = omega (arith, costs)
two n m false is_erased set kept costs = cc
two n m true true set kept costs = cc
