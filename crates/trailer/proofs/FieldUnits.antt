-- Lemmas about the units that fields are read from.
use Rattle.std.proofs.Common.{◌≡◌, ◌⊎◌, ℕ, Bool, true, false, not, sym, ◌∙◌, ap, refl, inl, inr, List, if◌then◌else◌}
use Rattle.std.specs.Str.{bytes_eq}
use Rattle.flash_model.specs.Chip.{Chip}
use Rattle.sector_map.specs.declared.layout.SectorMap.{SectorMap}
use Rattle.sector_map.specs.declared.layout.Side.{Side}
use Rattle.trailer.specs.declared.kinds.Magic.{Magic}
use Rattle.trailer.specs.declared.kinds.Magic.TheVariants.{Good, Unset, Bad}
use Rattle.trailer.specs.declared.kinds.Trailer.{Trailer}
use Rattle.flash_model.specs.Units.{are_erased}
use Rattle.trailer.specs.Fields.{Fields, is_set, flag, good_magic, magic_in, bytes_at, fields_in, fields_at, trailer_of}
use Rattle.trailer.specs.Standing.{is_good}

-- A unit that isn't set is erased.
pub not_set : (unit : List ℕ) → is_set unit ≡ false → are_erased unit ≡ true
not_set unit e = by (are_erased unit) refl
  where
    by : (erased : Bool) → are_erased unit ≡ erased → are_erased unit ≡ true
    by true all = all
    by false not_all = let wrong : true ≡ false = sym (ap not not_all) ∙ e in cc

-- An unset magic is erased.
pub unset_magic : (bytes : List ℕ) → magic_in bytes ≡ Unset → are_erased bytes ≡ true
unset_magic bytes e = by (bytes_eq bytes good_magic) (are_erased bytes) refl refl
  where
    by : (good erased : Bool) → bytes_eq bytes good_magic ≡ good → are_erased bytes ≡ erased → are_erased bytes ≡ true
    by true erased good all = let wrong = ap (λ t. if t then Good else if are_erased bytes then Unset else Bad) good in
        absurd (cc (wrong, e))
    by false true not_good all = all
    by false false not_good not_all =
        let wrong : magic_in bytes ≡ Bad = ap (λ t. if t then Good else if are_erased bytes then Unset else Bad)
        not_good ∙ ap (λ t. if t then Unset else Bad) not_all in absurd (cc (wrong, e))

-- The units of a trailer's fields.
module _ (map : SectorMap) (chip : Chip) (image : ℕ) (side : Side) where
  -- Each field except the size and the status units.
  fields_are : trailer_of (fields_at map chip image side) ≡ record {
    magic = magic_in (bytes_at map chip image side 16 16);
    copy_done = is_set (bytes_at map chip image side 32 8);
    image_ok = is_set (bytes_at map chip image side 24 8);
    withdrawn = is_set (bytes_at map chip image side 56 8);
  }
  unfolding fields_at fields_in
  fields_are = refl

  pub magic_is : (fields_at map chip image side).magic ≡ magic_in (bytes_at map chip image side 16 16)
  magic_is = ap (λ (t : Trailer). t.magic) fields_are

  pub image_ok_is : (fields_at map chip image side).image_ok ≡ is_set (bytes_at map chip image side 24 8)
  image_ok_is = ap (λ (t : Trailer). t.image_ok) fields_are

  copy_done_is : (fields_at map chip image side).copy_done ≡ is_set (bytes_at map chip image side 32 8)
  copy_done_is = ap (λ (t : Trailer). t.copy_done) fields_are

  withdrawn_is : (fields_at map chip image side).withdrawn ≡ is_set (bytes_at map chip image side 56 8)
  withdrawn_is = ap (λ (t : Trailer). t.withdrawn) fields_are

  pub erased_magic : (fields_at map chip image side).magic ≡ Unset → are_erased (bytes_at map chip image side 16 16) ≡
      true
  erased_magic e = unset_magic (bytes_at map chip image side 16 16) (sym magic_is ∙ e)

  pub erased_image_ok : (fields_at map chip image side).image_ok ≡ false → are_erased
      (bytes_at map chip image side 24 8) ≡ true
  erased_image_ok e = not_set (bytes_at map chip image side 24 8) (sym image_ok_is ∙ e)

  pub erased_withdrawn : (fields_at map chip image side).withdrawn ≡ false → are_erased
      (bytes_at map chip image side 56 8) ≡ true
  erased_withdrawn e = not_set (bytes_at map chip image side 56 8) (sym withdrawn_is ∙ e)

  pub good_of_bytes : bytes_at map chip image side 16 16 ≡ good_magic → (fields_at map chip image side).magic ≡ Good
  good_of_bytes e = magic_is ∙ ap magic_in e

  pub image_ok_of_flag : bytes_at map chip image side 24 8 ≡ flag → (fields_at map chip image side).image_ok ≡ true
  image_ok_of_flag e = image_ok_is ∙ ap (λ (unit : List ℕ). is_set unit) e

  pub copy_done_of_flag : bytes_at map chip image side 32 8 ≡ flag → (fields_at map chip image side).copy_done ≡ true
  copy_done_of_flag e = copy_done_is ∙ ap (λ (unit : List ℕ). is_set unit) e

  pub withdrawn_of_flag : bytes_at map chip image side 56 8 ≡ flag → (fields_at map chip image side).withdrawn ≡ true
  withdrawn_of_flag e = withdrawn_is ∙ ap (λ (unit : List ℕ). is_set unit) e

-- A field that is written is as it was or as asked.
pub either_image_ok : (f g : Fields) → g ≡ record f { image_ok = g.image_ok } → f.image_ok ≡ false
    → (g ≡ f) ⊎ (g ≡ record f { image_ok = true })
either_image_ok f g own was = by g.image_ok refl
  where
    by : (now : Bool) → g.image_ok ≡ now → (g ≡ f) ⊎ (g ≡ record f { image_ok = true })
    by true e = inr (own ∙ ap (λ b. record f { image_ok = b }) e)
    by false e = inl (own ∙ ap (λ b. record f { image_ok = b }) (e ∙ sym was))

pub either_withdrawn : (f g : Fields) → g ≡ record f { withdrawn = g.withdrawn } → f.withdrawn ≡ false
    → (g ≡ f) ⊎ (g.withdrawn ≡ true)
either_withdrawn f g own was = by g.withdrawn refl
  where
    by : (now : Bool) → g.withdrawn ≡ now → (g ≡ f) ⊎ (g.withdrawn ≡ true)
    by true e = inr e
    by false e = inl (own ∙ ap (λ b. record f { withdrawn = b }) (e ∙ sym was))

-- The magic that was written is good or it isn't.
pub either_magic : (f g : Fields) → g ≡ record f { magic = g.magic }
    → (g ≡ record f { magic = Good }) ⊎ (is_good g.magic ≡ false)
either_magic f g own = by g.magic refl
  where
    by : (now : Magic) → g.magic ≡ now → (g ≡ record f { magic = Good }) ⊎ (is_good g.magic ≡ false)
    by Good e = inl (own ∙ ap (λ m. record f { magic = m }) e)
    by Unset e = inr (ap is_good e)
    by Bad e = inr (ap is_good e)

-- A field that is set already.
pub kept_image_ok : (f g : Fields) → g ≡ f → f.image_ok ≡ true → g ≡ record f { image_ok = true }
kept_image_ok f g same was = same ∙ ap (λ b. record f { image_ok = b }) was
