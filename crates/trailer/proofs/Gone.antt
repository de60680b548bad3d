-- Lemmas about when no request is pending, and about what keeps it so.
use Rattle.std.proofs.Common.{◌≡◌, ◌⊎◌, ℕ, ◌&&◌, Bool, true, false, not, sym, ◌∙◌, ap, subst, refl, inl, inr, ⊎_elim, Some, None, if◌then◌else◌}
use Rattle.flash_model.specs.Chip.{Chip}
use Rattle.sector_map.specs.declared.layout.SectorMap.{SectorMap}
use Rattle.sector_map.specs.declared.layout.Side.TheVariants.{Secondary}
use Rattle.trailer.specs.declared.kinds.Trailer.{Trailer}
use Rattle.common.specs.declared.kind.Kind.{Kind}
use Rattle.common.specs.declared.kind.Kind.TheVariants.{Test, Permanent}
use Rattle.trailer.specs.Fields.{fields_at, trailer_of}
use Rattle.trailer.specs.Standing.{is_good, first_is_set, standing_kind, standing_of, incoming_slot, requested_fields}
use Rattle.common.specs.Kind.{kind_of}

-- No request is pending if the magic isn't good.
pub none_without_magic : (trailer : Trailer) (front : Bool) → is_good trailer.magic ≡ false
    → standing_kind trailer front ≡ None
none_without_magic trailer front e = ap (λ b. if b && (not trailer.withdrawn && front) then Some
    (kind_of trailer.image_ok) else None) e

and_never : (a : Bool) → (a && false) ≡ false
and_never true = refl
and_never false = refl

-- No request is pending if the withdrawn unit is set.
pub none_withdrawn : (trailer : Trailer) (front : Bool) → trailer.withdrawn ≡ true → standing_kind trailer front ≡ None
none_withdrawn trailer front e =
    ap (λ b. if is_good trailer.magic && (not b && front) then Some (kind_of trailer.image_ok) else None) e
    ∙ ap (λ b. if b then Some (kind_of trailer.image_ok) else None) (and_never (is_good trailer.magic))

-- No request is pending if the slot's first unit is erased.
pub none_without_front : (trailer : Trailer) (front : Bool) → front ≡ false → standing_kind trailer front ≡ None
none_without_front trailer front e =
    ap (λ b. if is_good trailer.magic && (not trailer.withdrawn && b) then Some (kind_of trailer.image_ok) else None) e
    ∙ ap (λ b. if b then Some (kind_of trailer.image_ok) else None)
    (ap (λ b. is_good trailer.magic && b) (and_never (not trailer.withdrawn)) ∙ and_never (is_good trailer.magic))

-- If no request is pending with the first unit set, none is pending in any case.
pub none_whatever_front : (trailer : Trailer) (front : Bool) → standing_kind trailer true ≡ None
    → standing_kind trailer front ≡ None
none_whatever_front trailer true none = none
none_whatever_front trailer false none = none_without_front trailer false refl

-- A pending request has a good magic, and wasn't withdrawn.
both : (a b : Bool) → (a && b) ≡ true → (a ≡ true) × (b ≡ true)
both true b e = (refl, e)
both false b e = (e, cc)

not_is : (a : Bool) → not a ≡ true → a ≡ false
not_is true e = cc
not_is false e = refl

pub record IsStanding (trailer : Trailer) (front : Bool) : Type 0 where
  pub good : is_good trailer.magic ≡ true
  pub kept : trailer.withdrawn ≡ false
  pub filled : front ≡ true

pub stands_with : (trailer : Trailer) (front : Bool) (kind : Kind) → standing_kind trailer front ≡ Some kind
    → IsStanding trailer front
stands_with trailer front kind stands = by (is_good trailer.magic && (not trailer.withdrawn && front)) refl
  where
    by : (test : Bool) → (is_good trailer.magic && (not trailer.withdrawn && front)) ≡ test → IsStanding trailer front
    by true e =
        let first = both (is_good trailer.magic) (not trailer.withdrawn && front) e in
        let second = both (not trailer.withdrawn) front first.1 in
        record { good = first.0; kept = not_is trailer.withdrawn second.0; filled = second.1 }
    by false e =
        let none = ap (λ b. if b then Some (kind_of trailer.image_ok) else None) e in absurd (cc (none, stands))

-- The same conditions, by the contents of the flash.
pub gone_without_magic : (map : SectorMap) (chip : Chip) (image : ℕ)
    → is_good (fields_at map chip image Secondary).magic ≡ false → standing_of map chip image ≡ None
gone_without_magic map chip image e = none_without_magic (trailer_of (fields_at map chip image Secondary))
    (first_is_set (incoming_slot map chip image)) e

pub gone_withdrawn : (map : SectorMap) (chip : Chip) (image : ℕ)
    → (fields_at map chip image Secondary).withdrawn ≡ true → standing_of map chip image ≡ None
gone_withdrawn map chip image e = none_withdrawn (trailer_of (fields_at map chip image Secondary))
    (first_is_set (incoming_slot map chip image)) e

pub gone_without_front : (map : SectorMap) (chip : Chip) (image : ℕ)
    → first_is_set (incoming_slot map chip image) ≡ false → standing_of map chip image ≡ None
gone_without_front map chip image e = none_without_front (trailer_of (fields_at map chip image Secondary))
    (first_is_set (incoming_slot map chip image)) e

-- A complete request is pending with its kind, or no request is pending.
pub requested_stands : (kind : Kind) (front : Bool) → (standing_kind (trailer_of (requested_fields kind)) front ≡ None)
    ⊎ (standing_kind (trailer_of (requested_fields kind)) front ≡ Some kind)
requested_stands Test true = inr refl
requested_stands Test false = inl refl
requested_stands Permanent true = inr refl
requested_stands Permanent false = inl refl

-- If the request is complete or the magic isn't good, the requested kind is pending or none is.
pub stands_or_none : (map : SectorMap) (chip : Chip) (image : ℕ) (kind : Kind)
    → (fields_at map chip image Secondary ≡ requested_fields kind)
    ⊎ (is_good (fields_at map chip image Secondary).magic ≡ false)
    → (standing_of map chip image ≡ None) ⊎ (standing_of map chip image ≡ Some kind)
stands_or_none map chip image kind = ⊎_elim
    (λ (whole : fields_at map chip image Secondary ≡ requested_fields kind).
    let front = first_is_set (incoming_slot map chip image) in
    subst (λ f. (standing_kind (trailer_of f) front ≡ None) ⊎ (standing_kind (trailer_of f) front ≡ Some kind))
    (sym whole) (requested_stands kind front))
    (λ (bad : is_good (fields_at map chip image Secondary).magic ≡ false). inl (gone_without_magic map chip image bad))
