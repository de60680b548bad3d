-- Lemmas by which a write of a unit of a trailer changes only its own field.
use Rattle.std.proofs.Common.{◌≡◌, ◌⊎◌, ℕ, ◌+◌, ◌*◌, ◌<◌, ◌≤◌, Bool, false, Option, arith, ◌∙◌, ap, refl, inl, inr, ⊎_elim, slice_range}
use Rattle.flash_model.specs.Chip.{Chip, SameOutside}
use Rattle.sector_map.specs.declared.layout.SectorMap.{SectorMap}
use Rattle.sector_map.specs.declared.layout.Side.{Side}
use Rattle.sector_map.specs.Part.{Part, TrailerOf}
use Rattle.sector_map.specs.Map.{slot_sectors, IsMap, Keeps}
use Rattle.trailer.specs.declared.kinds.Magic.{Magic}
use Rattle.flash_model.specs.Units.{are_erased}
use Rattle.trailer.specs.Fields.{is_set, magic_in, size_in, bytes_in, fields_in, fields_at, trailer_bytes, Fields, place_of}
use Rattle.trailer.proofs.Places.{range_besides, trailer_size}

fields : Magic → Bool → Bool → Bool → Option ℕ → Bool → Fields
fields m c o w s f = record { magic = m; copy_done = c; image_ok = o; withdrawn = w; size = s; is_fresh = f }

-- Fields that are the same one by one are the same.
pub same_fields : (a b : Fields) → a.magic ≡ b.magic → a.copy_done ≡ b.copy_done → a.image_ok ≡ b.image_ok
    → a.withdrawn ≡ b.withdrawn → a.size ≡ b.size → a.is_fresh ≡ b.is_fresh → a ≡ b
unfolding fields
same_fields a b m c o w s f =
    ap (λ x. fields x a.copy_done a.image_ok a.withdrawn a.size a.is_fresh) m
    ∙ ap (λ x. fields b.magic x a.image_ok a.withdrawn a.size a.is_fresh) c
    ∙ ap (λ x. fields b.magic b.copy_done x a.withdrawn a.size a.is_fresh) o
    ∙ ap (λ x. fields b.magic b.copy_done b.image_ok x a.size a.is_fresh) w
    ∙ ap (λ x. fields b.magic b.copy_done b.image_ok b.withdrawn x a.is_fresh) s
    ∙ ap (λ x. fields b.magic b.copy_done b.image_ok b.withdrawn b.size x) f

-- A unit beside the written one is unchanged.
pub unit_kept : (map : SectorMap) (old new : Chip) (image at own size from_end n : ℕ) (side : Side)
    → SameOutside at size old new → IsMap map → image < map.images
    → at ≡ place_of map image side own → size ≤ own → own ≤ 56 → n ≤ from_end → from_end ≤ 56 → (from_end + size ≤ own)
    ⊎ (own + n ≤ from_end)
    → bytes_in map.sector_size (trailer_bytes map new image side) from_end n ≡ bytes_in map.sector_size
    (trailer_bytes map old image side) from_end n
unit_kept map old new image at own size from_end n side same fits lt is small own_le n_le le apart =
    range_besides map old new (TrailerOf image side) at size _ _ same
    (omega (arith, trailer_size map image side fits lt, fits.trailers image))
    (⊎_elim (λ (l : from_end + size ≤ own). inr (omega (arith, fits.trailers image)))
    (λ (r : own + n ≤ from_end). inl (omega (arith, fits.trailers image))) apart)

-- The status units are unchanged, because they lie before all other units.
pub status_kept : (map : SectorMap) (old new : Chip) (image at own size : ℕ) (side : Side)
    → SameOutside at size old new → IsMap map → image < map.images
    → at ≡ place_of map image side own → own ≤ 56
    → slice_range (trailer_bytes map new image side) 0 (24 * slot_sectors map image) ≡ slice_range
    (trailer_bytes map old image side) 0 (24 * slot_sectors map image)
status_kept map old new image at own size side same fits lt is own_le =
    range_besides map old new (TrailerOf image side) at size 0 _ same
    (omega (arith, trailer_size map image side fits lt, fits.trailers image))
    (inl (omega (arith, fits.trailers image)))

-- The fields whose units don't overlap the `width` bytes that begin `own` bytes before the end are
-- unchanged.
record BesideKept (own width : ℕ) (old new : Fields) : Type 0 where
  pub magic : (16 + width ≤ own) ⊎ (own + 16 ≤ 16) → new.magic ≡ old.magic
  pub copy_done : (32 + width ≤ own) ⊎ (own + 8 ≤ 32) → new.copy_done ≡ old.copy_done
  pub image_ok : (24 + width ≤ own) ⊎ (own + 8 ≤ 24) → new.image_ok ≡ old.image_ok
  pub withdrawn : (56 + width ≤ own) ⊎ (own + 8 ≤ 56) → new.withdrawn ≡ old.withdrawn
  pub size : (48 + width ≤ own) ⊎ (own + 8 ≤ 48) → new.size ≡ old.size
  pub is_fresh : new.is_fresh ≡ old.is_fresh

module _ (map : SectorMap) (old new : Chip) (image at : ℕ) (side : Side) (fits : IsMap map) (lt : image < map.images)
  where
    beside_kept : (own width : ℕ) → SameOutside at width old new → at ≡ place_of map image side own → width ≤ own
        → own ≤ 56 → BesideKept own width (fields_at map old image side) (fields_at map new image side)
    unfolding fields_at fields_in
    beside_kept own width same is small own_le =
        let kept = λ (from_end n : ℕ) (n_le : n ≤ from_end) (le : from_end ≤ 56)
        (apart : (from_end + width ≤ own) ⊎ (own + n ≤ from_end)). unit_kept map old new image at own width from_end n side
        same fits lt is small own_le n_le le apart in
        record {
          magic = λ apart. ap magic_in (kept 16 16 (omega arith) (omega arith) apart);
          copy_done = λ apart. ap is_set (kept 32 8 (omega arith) (omega arith) apart);
          image_ok = λ apart. ap is_set (kept 24 8 (omega arith) (omega arith) apart);
          withdrawn = λ apart. ap is_set (kept 56 8 (omega arith) (omega arith) apart);
          size = λ apart. ap (size_in (slot_sectors map image * map.sector_size))
              (kept 48 8 (omega arith) (omega arith) apart);
          is_fresh = ap are_erased (status_kept map old new image at own width side same fits lt is own_le);
        }

    pub own_withdrawn : SameOutside at 8 old new → at ≡ place_of map image side 56
        → fields_at map new image side ≡ record (fields_at map old image side)
        { withdrawn = (fields_at map new image side).withdrawn }
    own_withdrawn same is =
        let kept = beside_kept 56 8 same is (omega arith) (omega arith) in
        same_fields _ _ (kept.magic (inl (omega arith))) (kept.copy_done (inl (omega arith)))
        (kept.image_ok (inl (omega arith))) refl (kept.size (inl (omega arith))) kept.is_fresh

    pub own_size : SameOutside at 8 old new → at ≡ place_of map image side 48
        → fields_at map new image side ≡ record (fields_at map old image side)
        { size = (fields_at map new image side).size }
    own_size same is =
        let kept = beside_kept 48 8 same is (omega arith) (omega arith) in
        same_fields _ _ (kept.magic (inl (omega arith))) (kept.copy_done (inl (omega arith)))
        (kept.image_ok (inl (omega arith))) (kept.withdrawn (inr (omega arith))) refl kept.is_fresh

    pub own_image_ok : SameOutside at 8 old new → at ≡ place_of map image side 24
        → fields_at map new image side ≡ record (fields_at map old image side)
        { image_ok = (fields_at map new image side).image_ok }
    own_image_ok same is =
        let kept = beside_kept 24 8 same is (omega arith) (omega arith) in
        same_fields _ _ (kept.magic (inl (omega arith))) (kept.copy_done (inr (omega arith))) refl
        (kept.withdrawn (inr (omega arith))) (kept.size (inr (omega arith))) kept.is_fresh

    pub own_magic : SameOutside at 16 old new → at ≡ place_of map image side 16
        → fields_at map new image side ≡ record (fields_at map old image side)
        { magic = (fields_at map new image side).magic }
    own_magic same is =
        let kept = beside_kept 16 16 same is (omega arith) (omega arith) in
        same_fields _ _ refl (kept.copy_done (inr (omega arith))) (kept.image_ok (inr (omega arith)))
        (kept.withdrawn (inr (omega arith))) (kept.size (inr (omega arith))) kept.is_fresh

-- An untouched trailer keeps its fields.
pub fields_kept : (map : SectorMap) (touched : Part → Bool) (old new : Chip) (image : ℕ) (side : Side)
    → Keeps map touched old new → touched (TrailerOf image side) ≡ false
    → fields_at map new image side ≡ fields_at map old image side
unfolding fields_at
fields_kept map touched old new image side keeps e = ap (fields_in (slot_sectors map image) map.sector_size)
    (keeps.parts (TrailerOf image side) e)
