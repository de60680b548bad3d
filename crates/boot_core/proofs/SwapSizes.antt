-- Lemmas for trailers that are prepared one after the other.
use Rattle.std.proofs.Common.{◌≡◌, ◌≢◌, ℕ, Bool, ◌+◌, ◌<◌, ◌≤◌, ◌==◌, List, length, ◌&&◌, true, false, Some, arith, refl, sym, ◌∙◌, ap, subst}
use Rattle.std.proofs.lemmas.Bool.Decides.{nat_tests}
use Rattle.flash_model.specs.Chip.{Chip}
use Rattle.sector_map.specs.declared.layout.SectorMap.{SectorMap}
use Rattle.sector_map.specs.declared.layout.Side.{Side}
use Rattle.sector_map.specs.declared.layout.Side.TheVariants.{Primary, Secondary}
use Rattle.sector_map.specs.Part.{Part, Slot, TrailerOf, only, same_side, trailers_on}
use Rattle.common.specs.Masks.{is_member}
use Rattle.sector_map.proofs.Parts.{keeps_wider}
use Rattle.sector_map.proofs.Touched.{trailer_on_side}
use Rattle.sector_map.specs.Map.{Keeps}
use Rattle.trailer.specs.Fields.{Fields, erased_fields}
use Rattle.image_reading.specs.Image.{BeginsIntact}
use Rattle.upload.specs.View.{View, view}
use Rattle.upload.proofs.Views.{view_kept}
use Rattle.flash_contents.specs.Prepared.{IsRoomFor, IsRoomForBoth}
use Rattle.flash_contents.proofs.Preparing.{prepared, prepared_kept}
use Rattle.flash_contents.specs.Starting.{IsHeld}
use Rattle.boot_core.specs.Preparing.{IsImageHeld}
use Rattle.boot_core.specs.SwapSize.{IsReady, IsSwapSize, IsUsed}
use Rattle.decision.proofs.Described.{intact_long}
use Rattle.boot_core.proofs.Masks.{members_more}

-- What a swap moves depends on the slots alone.
pub moves_kept : (old new : View) (i n : ℕ) → ((on : Side) → new.slot i on ≡ old.slot i on) → IsSwapSize old i n
    → IsSwapSize new i n
moves_kept old new i n same was = record {
  primary = was.primary;
  secondary = was.secondary;
  of_primary = subst (λ slot. IsUsed slot was.primary) (sym (same Primary)) was.of_primary;
  of_secondary = subst (λ slot. IsUsed slot was.secondary) (sym (same Secondary)) was.of_secondary;
  larger = was.larger;
}

-- The used length of a slot is enough for the image that it begins with.
used_room : (slot : List ℕ) (n most : ℕ) → IsUsed slot n → n ≤ most → IsRoomFor slot most
used_room slot n most used le = record {
  each = λ bytes d starts intact.
      let begins : BeginsIntact slot d = (bytes, starts.0, starts.1, intact) in
      let is : n ≡ d.length = used.intact d begins in
      let long : length bytes ≡ d.length = intact_long bytes d intact in
      omega (arith, is, long, le);
}

-- What a swap moves is enough for both images.
moves_room : (w : View) (i n : ℕ) → IsSwapSize w i n → IsRoomForBoth w i n
moves_room w i n moves = record {
  each = λ on. elim on as (λ side. IsRoomFor (w.slot i side) n) [
    | Primary ↦ used_room (w.slot i Primary) moves.primary n moves.of_primary (omega (arith, moves.larger))
    | Secondary ↦ used_room (w.slot i Secondary) moves.secondary n moves.of_secondary (omega (arith, moves.larger))
  ];
}

-- Only the size of a trailer is written.
pub sized : (old new : Fields) (n : ℕ) → new ≡ record old { size = new.size } → new.size ≡ Some n
    → new ≡ record old { size = Some n }
sized old new n own is = own ∙ ap (λ size. record old { size = size }) is

-- A trailer is cleared, and gets its size.
pub made_ready : (map : SectorMap) (i size : ℕ) (side : Side) (erased mid new : Chip)
    → (view map erased).trailer i side ≡ erased_fields → IsSwapSize (view map erased) i size → mid ≡ erased
    → (view map new).trailer i side ≡ record ((view map mid).trailer i side) { size = Some size }
    → Keeps map (only (TrailerOf i side)) mid new → IsReady (view map new) side i
made_ready map i size side erased mid new clean moves same written keeps = record {
  prepared = prepared map i size side erased mid new clean (moves_room (view map erased) i size moves) same written
      keeps;
  size = size;
  written = ap (λ (t : Fields). t.size) written;
  moves = moves_kept (view map erased) (view map new) i size
      (λ on. (view_kept map _ _ _ keeps).slots i on refl ∙ ap (λ (v : Chip). (view map v).slot i on) same) moves;
}

-- The trailer of a member is one of its mask.
pub member_kept : (map : SectorMap) (mask i : ℕ) (side : Side) (old new : Chip) → is_member mask i ≡ true
    → Keeps map (only (TrailerOf i side)) old new → Keeps map (trailers_on mask side) old new
member_kept map mask i side old new member =
    keeps_wider map (only (TrailerOf i side)) (trailers_on mask side) old new (trailer_on_side mask i side member)

-- An image that is ready stays so while another trailer is prepared.
pub ready_kept : (map : SectorMap) (i j : ℕ) (side on : Side) (old new : Chip) → i ≢ j
    → Keeps map (only (TrailerOf j on)) old new → IsReady (view map old) side i → IsReady (view map new) side i
ready_kept map i j side on old new other keeps was =
    let apart : ((i == j) && same_side side on) ≡ false = grind (arith, nat_tests, other) in
    let same = (view_kept map _ _ _ keeps).trailers i side apart in
    record {
      prepared = prepared_kept map i j side on old new other keeps was.prepared;
      size = was.size;
      written = ap (λ (t : Fields). t.size) same ∙ was.written;
      moves = moves_kept (view map old) (view map new) i was.size
          (λ at. (view_kept map _ _ _ keeps).slots i at refl) was.moves;
    }

-- If the members below n are ready, and the trailer of n is prepared, the members below n + 1 are
-- ready.
pub ready_more : (map : SectorMap) (mask n : ℕ) (side : Side) (old new : Chip)
    → ((i : ℕ) → i < n → is_member mask i ≡ true → IsReady (view map old) side i)
    → ((i : ℕ) → i ≢ n → IsReady (view map old) side i → IsReady (view map new) side i)
    → (is_member mask n ≡ true → IsReady (view map new) side n)
    → (i : ℕ) → i < n + 1 → is_member mask i ≡ true → IsReady (view map new) side i
ready_more map mask n side old new before kept here =
    members_more (λ i. IsReady (view map new) side i) mask n
    (λ i lt member. let other : i ≢ n = λ is. omega (arith, is, lt) in kept i other (before i lt member)) here

-- What the slots of an image begin with stays while trailers are written.
pub held_kept : (map : SectorMap) (touched : Part → Bool) (i : ℕ) (old new : Chip) → Keeps map touched old new
    → ((on : Side) → touched (Slot i on) ≡ false) → IsImageHeld map i old → IsImageHeld map i new
held_kept map touched i old new keeps aside held = λ on.
    subst (λ slot. IsHeld slot) (sym ((view_kept map touched old new keeps).slots i on (aside on))) (held on)
