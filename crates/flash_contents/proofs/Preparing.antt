-- Preparing a set for its swap.
use Rattle.std.proofs.Common.{◌≡◌, ℕ, ◌==◌, ◌&&◌, Bool, true, false, Some, refl, sym, ◌∙◌, ap, subst}
use Rattle.std.proofs.lemmas.Bool.{eqb-true}
use Rattle.flash_model.specs.Chip.{Chip}
use Rattle.sector_map.specs.declared.layout.SectorMap.{SectorMap}
use Rattle.sector_map.specs.declared.layout.Side.{Side}
use Rattle.sector_map.specs.Part.{TrailerOf, only, same_side}
use Rattle.sector_map.specs.Map.{Keeps}
use Rattle.trailer.specs.Fields.{Fields, erased_fields}
use Rattle.upload.specs.View.{view}
use Rattle.upload.proofs.Views.{view_kept}
use Rattle.flash_contents.specs.Prepared.{IsRoomFor, IsRoomForBoth, IsPrepared}

pub prepared : (map : SectorMap) (i size : ℕ) (side : Side) (erased mid new : Chip)
    → (view map erased).trailer i side ≡ erased_fields → IsRoomForBoth (view map erased) i size → mid ≡ erased
    → (view map new).trailer i side ≡ record ((view map mid).trailer i side) { size = Some size }
    → Keeps map (only (TrailerOf i side)) mid new → IsPrepared (view map new) side i
prepared map i size side erased mid new clean room same written keeps = record {
  fresh = ap (λ (t : Fields). t.is_fresh) written ∙ ap
      (λ (v : Chip). ((view map v).trailer i side).is_fresh) same ∙ ap (λ (t : Fields). t.is_fresh) clean;
  room = (
    size,
    record {
      size = ap (λ (t : Fields). t.size) written;
      both = record {
        each = λ on. subst (λ l. IsRoomFor l size)
            (sym ((view_kept map _ _ _ keeps).slots i on refl ∙ ap
            (λ (v : Chip). (view map v).slot i on) same)) (room.each on);
      };
    },
  );
}

pub eqb_no : (i j : ℕ) (b : Bool) → (i == j) ≡ b → (i ≡ j → ⊥) → b ≡ false
eqb_no i j true e ne = absurd (ne (eqb-true i j e))
eqb_no i j false e ne = refl

and_no : (a b : Bool) → a ≡ false → (a && b) ≡ false
and_no true b e = cc
and_no false b e = refl

-- A prepared image stays so while another image's trailer is prepared.
pub prepared_kept : (map : SectorMap) (i j : ℕ) (side on : Side) (old new : Chip) → (i ≡ j → ⊥)
    → Keeps map (only (TrailerOf j on)) old new → IsPrepared (view map old) side i → IsPrepared (view map new) side i
prepared_kept map i j side on old new ne keeps was =
    let same = (view_kept map _ _ _ keeps).trailers i side
    (and_no (i == j) (same_side side on) (eqb_no i j (i == j) refl ne)) in
    record {
      fresh = ap (λ (t : Fields). t.is_fresh) same ∙ was.fresh;
      room = (
        was.room.0,
        record {
          size = ap (λ (t : Fields). t.size) same ∙ was.room.1.size;
          both = record {
            each = λ at. subst (λ l. IsRoomFor l was.room.0)
                (sym ((view_kept map _ _ _ keeps).slots i at refl)) (was.room.1.both.each at);
          };
        },
      );
    }
