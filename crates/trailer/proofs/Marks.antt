-- Lemmas about the units that settling writes, one after the other.
use Rattle.std.proofs.Common.{◌≡◌, ◌⊎◌, ℕ, ◌+◌, ◌-◌, ◌<◌, ◌≤◌, Bool, true, false, not, arith, sym, ◌∙◌, ap, subst, refl, inl, inr, ⊎_elim, List, IsTrue, ◌↔◌, ◌||◌}
use Rattle.std.specs.Str.{bytes_eq}
use Rattle.std.proofs.lemmas.Slice.Eq.{bytes_eq-Decides}
use Rattle.flash_model.specs.Chip.{Chip, SameOutside}
use Rattle.flash_model.proofs.Frame.{same_outside_trans, same_outside_wider}
use Rattle.sector_map.specs.declared.layout.SectorMap.{SectorMap}
use Rattle.sector_map.specs.declared.layout.Side.{Side}
use Rattle.sector_map.specs.declared.layout.Side.TheVariants.{Primary, Secondary}
use Rattle.sector_map.specs.Part.{TrailerOf, only, trailers_of}
use Rattle.sector_map.specs.Map.{IsMap, IsLaidOut, Keeps}
use Rattle.sector_map.proofs.Parts.{keeps_trans, keeps_wider, laid_out_kept}
use Rattle.sector_map.proofs.Touched.{trailer_of_both}
use Rattle.flash_model.specs.Units.{are_erased}
use Rattle.trailer.specs.Fields.{flag, good_magic, bytes_at, bytes_in, trailer_bytes, fields_at, erased_fields, place_of}
use Rattle.trailer.specs.declared.kinds.Settling.{Settling}
use Rattle.trailer.specs.Settled.{before_marks, is_confirmed, IsSpared, IsFree, IsOkFree, IsWhole, HasMarks, IsSettled}
use Rattle.trailer.proofs.Places.{units_alone, range_besides, trailer_size}
use Rattle.trailer.proofs.Erased.{erased_range}
use Rattle.trailer.proofs.OwnFields.{unit_kept, fields_kept}
use Rattle.trailer.proofs.FieldUnits.{good_of_bytes, copy_done_of_flag, image_ok_of_flag, image_ok_is}

-- A unit that isn't torn and isn't erased holds its value.
pub holds_value : (units bytes : List ℕ) → IsFree units bytes → are_erased units ≡ false → units ≡ bytes
holds_value units bytes free not_all = ⊎_elim (λ (all : are_erased units ≡ true). let wrong : true ≡ false = sym all ∙
    not_all in absurd (cc wrong)) (λ (is : units ≡ bytes). is) free

-- The test by which units aren't torn.
pub tells_free : (units bytes : List ℕ) (told : Bool) → told ≡ (bytes_eq units bytes || are_erased units)
    → IsTrue told ↔ IsFree units bytes
tells_free units bytes told tells = by (bytes_eq units bytes) (are_erased units) refl refl
  where
    by : (held erased : Bool) → bytes_eq units bytes ≡ held → are_erased units ≡ erased
        → IsTrue told ↔ IsFree units bytes
    by true erased e all =
        (λ _. inr ((bytes_eq-Decides units bytes).0 e), λ _. tells ∙ ap (λ t. t || are_erased units) e)
    by false true e all = (λ _. inl all, λ _. tells ∙ ap (λ t. t || are_erased units) e ∙ all)
    by false false e not_all =
        let untold : told ≡ false = tells ∙ ap (λ t. t || are_erased units) e ∙ not_all in (
          λ yes. let wrong : true ≡ false = sym yes ∙ untold in absurd (cc wrong),
          λ free. ⊎_elim
              (λ (all : are_erased units ≡ true).
              let wrong : true ≡ false = sym all ∙ not_all in absurd (cc wrong))
              (λ (same : units ≡ bytes).
              let wrong : true ≡ false = sym ((bytes_eq-Decides units bytes).1 same) ∙ e in absurd (cc wrong))
              free,
        )

-- An erased trailer has no torn unit.
pub erased_whole : (map : SectorMap) (chip : Chip) (image : ℕ) (side : Side) (confirmed : Bool)
    → are_erased (trailer_bytes map chip image side) ≡ true → IsWhole map chip image side confirmed
erased_whole map chip image side confirmed all =
    let unit = λ (a b : ℕ). erased_range (trailer_bytes map chip image side) a b all in
    record {
      copy_done = inl (unit _ _);
      image_ok = record { kept = λ e. inl (unit _ _); tried = λ e. unit _ _ };
      magic = inl (unit _ _);
    }

module _ (map : SectorMap) (image : ℕ) (side : Side) (fits : IsMap map) (lt : image < map.images) where
  -- Units stay unchanged by a write of the `width` bytes that begin `own` bytes before the end.
  abbrev Stays : ℕ → ℕ → ℕ → ℕ → Type 0
  Stays own width from_end n = (old new : Chip) → SameOutside (place_of map image side own) width old new
      → bytes_at map new image side from_end n ≡ bytes_at map old image side from_end n

  stays : (own width from_end n : ℕ) → width ≤ own → own ≤ 56 → n ≤ from_end → from_end ≤ 56
      → (from_end + width ≤ own) ⊎ (own + n ≤ from_end) → Stays own width from_end n
  stays own width from_end n small own_le n_le le apart old new same =
      unit_kept map old new image _ own width from_end n side same fits lt refl small own_le n_le le apart

  ok_beside_copy_done : Stays 32 8 24 8
  ok_beside_copy_done = stays _ _ _ _ (omega arith) (omega arith) (omega arith) (omega arith) (inl (omega arith))

  magic_beside_copy_done : Stays 32 8 16 16
  magic_beside_copy_done = stays _ _ _ _ (omega arith) (omega arith) (omega arith) (omega arith) (inl (omega arith))

  copy_done_beside_ok : Stays 24 8 32 8
  copy_done_beside_ok = stays _ _ _ _ (omega arith) (omega arith) (omega arith) (omega arith) (inr (omega arith))

  magic_beside_ok : Stays 24 8 16 16
  magic_beside_ok = stays _ _ _ _ (omega arith) (omega arith) (omega arith) (omega arith) (inl (omega arith))

  copy_done_beside_magic : Stays 16 16 32 8
  copy_done_beside_magic = stays _ _ _ _ (omega arith) (omega arith) (omega arith) (omega arith) (inr (omega arith))

  pub ok_beside_magic : (old new : Chip) → SameOutside (place_of map image side 16) 16 old new
      → bytes_at map new image side 24 8 ≡ bytes_at map old image side 24 8
  ok_beside_magic = stays 16 16 24 8 (omega arith) (omega arith) (omega arith) (omega arith) (inr (omega arith))

  -- The units that still aren't torn after the first write, and after the second one.
  pub ok_still_free : (old new : Chip) (confirmed : Bool) → IsWhole map old image side confirmed → SameOutside
      (place_of map image side 32) 8 old new
      → IsOkFree confirmed (bytes_at map new image side 24 8)
  ok_still_free old new confirmed whole same = subst (λ (unit : List ℕ). IsOkFree confirmed unit)
      (sym (ok_beside_copy_done old new same)) whole.image_ok

  pub magic_still_free : (old mid new : Chip) (confirmed : Bool) → IsWhole map old image side confirmed → SameOutside
      (place_of map image side 32) 8 old mid → SameOutside (place_of map image side 24) 8 mid new
      → IsFree (bytes_at map new image side 16 16) good_magic
  magic_still_free old mid new confirmed whole a b =
      subst (λ (units : List ℕ). IsFree units good_magic) (sym
      (magic_beside_ok mid new b ∙ magic_beside_copy_done old mid a)) whole.magic

  -- After the three writes the units hold their values.
  pub marked : (old first second new : Chip) (confirmed : Bool) → IsWhole map old image side confirmed
      → SameOutside (place_of map image side 32) 8 old first → bytes_at map first image side 32 8 ≡ flag
      → SameOutside (place_of map image side 24) 8 first second →
      (confirmed ≡ true → bytes_at map second image side 24 8 ≡ flag) → (confirmed ≡ false → second ≡ first)
      → SameOutside (place_of map image side 16) 16 second new → bytes_at map new image side 16 16 ≡ good_magic →
      HasMarks map new image side confirmed
  marked old first second new confirmed whole a done b ok tried c good = record {
    copy_done = copy_done_beside_magic second new c ∙ copy_done_beside_ok first second b ∙ done;
    image_ok = λ e. ok_beside_magic second new c ∙ ok e;
    tried = λ e. ap (λ (unit : List ℕ). are_erased unit) (ok_beside_magic second new c ∙ ap
        (λ chip. bytes_at map chip image side 24 8) (tried e) ∙ ok_beside_copy_done old first a) ∙ whole.image_ok.tried
        e;
    magic = good;
  }

-- The writes of the three units leave all other parts unchanged.
pub two_alone : (map : SectorMap) (old mid new : Chip) (image : ℕ) (side : Side)
    → SameOutside (place_of map image side 32) 8 old mid → SameOutside (place_of map image side 24) 8 mid new
    → IsLaidOut map old → image < map.images
    → Keeps map (only (TrailerOf image side)) old new
two_alone map old mid new image side a b laid lt =
    let first = units_alone map old mid image _ 32 8 side a laid lt refl (omega arith) (omega arith) in
    keeps_trans map _ old mid new first (units_alone map mid new image _ 24 8 side b
    (laid_out_kept map _ old mid laid first) lt refl (omega arith) (omega arith))

pub three_alone : (map : SectorMap) (old first second new : Chip) (image : ℕ) (side : Side)
    → SameOutside (place_of map image side 32) 8 old first → SameOutside (place_of map image side 24) 8 first second
    → SameOutside (place_of map image side 16) 16 second new → IsLaidOut map old → image < map.images → Keeps map
    (only (TrailerOf image side)) old new
three_alone map old first second new image side a b c laid lt =
    let two = two_alone map old first second image side a b laid lt in
    keeps_trans map _ old second new two (units_alone map second new image _ 16 16 side c
    (laid_out_kept map _ old second laid two) lt refl (omega arith) (omega arith))

-- The writes of the three units leave all bytes outside these units unchanged.
pub two_of_units : (map : SectorMap) (old mid new : Chip) (image : ℕ) (side : Side)
    → SameOutside (place_of map image side 32) 8 old mid → SameOutside (place_of map image side 24) 8 mid new
    → IsMap map → SameOutside (place_of map image side 32) 32 old new
two_of_units map old mid new image side a b fits =
    let room = fits.trailers image in
    same_outside_trans _ 32 old mid new
    (same_outside_wider _ 8 (place_of map image side 32) 32 old mid a (omega arith) (omega arith))
    (same_outside_wider _ 8 (place_of map image side 32) 32 mid new b (omega (arith, room)) (omega (arith, room)))

pub three_of_units : (map : SectorMap) (old first second new : Chip) (image : ℕ) (side : Side)
    → SameOutside (place_of map image side 32) 8 old first → SameOutside (place_of map image side 24) 8 first second
    → SameOutside (place_of map image side 16) 16 second new → IsMap map
    → SameOutside (place_of map image side 32) 32 old new
three_of_units map old first second new image side a b c fits =
    let room = fits.trailers image in
    same_outside_trans _ 32 old second new (two_of_units map old first second image side a b fits)
    (same_outside_wider _ 16 (place_of map image side 32) 32 second new c (omega (arith, room)) (omega (arith, room)))

-- Erased bytes before these units stay erased.
pub still_erased : (map : SectorMap) (old new : Chip) (image : ℕ) (side : Side)
    → SameOutside (place_of map image side 32) 32 old new → IsMap map → image < map.images
    → are_erased (trailer_bytes map old image side) ≡ true
    → are_erased (before_marks map (trailer_bytes map new image side)) ≡ true
still_erased map old new image side same fits lt all =
    ap (λ (xs : List ℕ). are_erased xs) (range_besides map old new (TrailerOf image side) _ 32 0
    (map.sector_size - 32) same (omega (arith, trailer_size map image side fits lt)) (inl (omega arith)))
    ∙ erased_range (trailer_bytes map old image side) 0 (map.sector_size - 32) all

-- If a trailer has no torn unit, neither has a trailer with the same bytes.
whole_alike : (map : SectorMap) (old new : Chip) (image : ℕ) (side : Side) (confirmed : Bool)
    → trailer_bytes map old image side ≡ trailer_bytes map new image side
    → IsWhole map old image side confirmed → IsWhole map new image side confirmed
whole_alike map old new image side confirmed here whole =
    let unit = λ (from_end n : ℕ). ap (λ (bytes : List ℕ). bytes_in map.sector_size bytes from_end n) here in
    record {
      copy_done = subst (λ (u : List ℕ). IsFree u flag) (unit 32 8) whole.copy_done;
      image_ok = subst (λ (u : List ℕ). IsOkFree confirmed u) (unit 24 8) whole.image_ok;
      magic = subst (λ (u : List ℕ). IsFree u good_magic) (unit 16 16) whole.magic;
    }

-- If a trailer doesn't have to be erased, neither has a trailer with the same bytes.
pub spared_alike : (map : SectorMap) (old new : Chip) (image : ℕ) (side : Side) (settling : Settling)
    → trailer_bytes map old image side ≡ trailer_bytes map new image side
    → IsSpared map old image side settling → IsSpared map new image side settling
spared_alike map old new image side settling here spared = record {
  forth = spared.forth;
  whole = whole_alike map old new image side (is_confirmed settling) here spared.whole;
}

-- The fields that the units say.
ok_field : (map : SectorMap) (chip : Chip) (image : ℕ) (side : Side) (confirmed : Bool)
    → HasMarks map chip image side confirmed → (fields_at map chip image side).image_ok ≡ confirmed
ok_field map chip image side true marks = image_ok_of_flag map chip image side (marks.image_ok refl)
ok_field map chip image side false marks = image_ok_is map chip image side ∙ ap not (marks.tried refl)

pub settled : (map : SectorMap) (chip : Chip) (image : ℕ) (confirmed : Bool)
    → HasMarks map chip image Primary confirmed → fields_at map chip image Secondary ≡ erased_fields
    → IsSettled confirmed (fields_at map chip image Primary) (fields_at map chip image Secondary)
settled map chip image confirmed marks erased = record {
  magic = good_of_bytes map chip image Primary marks.magic;
  copy_done = copy_done_of_flag map chip image Primary marks.copy_done;
  image_ok = ok_field map chip image Primary confirmed marks;
  erased = erased;
}

-- The two trailers of an image are different parts.
pub beside : (i : ℕ) → only (TrailerOf i Primary) (TrailerOf i Secondary) ≡ false
beside i = grind arith

pub across : (i : ℕ) → only (TrailerOf i Secondary) (TrailerOf i Primary) ≡ false
across i = grind arith

-- The secondary trailer stays erased while the primary one is written.
pub secondary_kept : (map : SectorMap) (old mid new : Chip) (image : ℕ)
    → fields_at map old image Secondary ≡ erased_fields → Keeps map (only (TrailerOf image Primary)) old mid
    → Keeps map (only (TrailerOf image Primary)) mid new
    → fields_at map new image Secondary ≡ erased_fields
secondary_kept map old mid new image erased a b = fields_kept map _ mid new image Secondary b (beside image) ∙
    fields_kept map _ old mid image Secondary a (beside image) ∙ erased

-- A write to one trailer of an image touches only the trailers of that image.
pub one_of_trailers : (map : SectorMap) (old new : Chip) (image : ℕ) (side : Side)
    → Keeps map (only (TrailerOf image side)) old new → Keeps map (trailers_of image) old new
one_of_trailers map old new image side a = keeps_wider map _ (trailers_of image) old new (trailer_of_both image side) a

pub both_trailers : (map : SectorMap) (old mid new : Chip) (image : ℕ) (side : Side)
    → Keeps map (trailers_of image) old mid → Keeps map (only (TrailerOf image side)) mid new
    → Keeps map (trailers_of image) old new
both_trailers map old mid new image side a b = keeps_trans map (trailers_of image) old mid new a
    (one_of_trailers map mid new image side b)
