-- The rows of a table are those of the images on the flash, row by row.
use Rattle.std.proofs.Common.{◌≡◌, ℕ, ◌+◌, Bool, List, [], ◌∷◌, ◌++◌, length, Option, Some, None, arith, sym, subst}
use Rattle.std.proofs.lemmas.List.{length-append}
use Rattle.flash_model.specs.Chip.{Chip}
use Rattle.sector_map.specs.declared.layout.SectorMap.{SectorMap}
use Rattle.common.specs.Masks.{is_member}
use Rattle.reports.specs.declared.table.Image.{Image}
use Rattle.upload.specs.View.{View, view}
use Rattle.flash_contents.proofs.Rows.{each_pushed}
use Rattle.decision.specs.Found.{AreRowsHeld, IsRowAsked, IsRowHeld, IsRowWanted}

nothing : {A : Type 0} {x : A} → {B : Type 0} → None ≡ Some x → B
nothing e = cc

pub held_none : (w : View) (mask : ℕ) → AreRowsHeld w mask []
held_none w mask = record {
  held = λ i row e. nothing e;
  asked = λ i row e. nothing e;
  wanted = λ i row e. nothing e;
}

module _ (map : SectorMap) (old mid : Chip) (mask n : ℕ) (b : Bool) (read : Option Image) (rows : List Image)
    (row : Image) (same : mid ≡ old) (count : length rows ≡ n) (is : b ≡ is_member mask n) where
  -- What a row says of its image.
  here : (P : View → Bool → ℕ → Option Image → Type 0) → P (view map mid) b n read → read ≡ Some row
      → P (view map old) (is_member mask (length rows)) (length rows) (Some row)
  here P at some = subst (λ k. P (view map old) (is_member mask k) k (Some row)) (sym count)
      (subst (λ m. P (view map old) m n (Some row)) is
      (subst (λ chip. P (view map chip) b n (Some row)) same (subst (λ r. P (view map mid) b n r) some at)))

  pub held_more : IsRowHeld (view map mid) b n read → IsRowAsked (view map mid) b n read
      → IsRowWanted (view map mid) b n read → read ≡ Some row
      → AreRowsHeld (view map old) mask rows → AreRowsHeld (view map old) mask (rows ++ row ∷ [])
  held_more held asked wanted some before = record {
    held = each_pushed (λ k found. IsRowHeld (view map old) (is_member mask k) k (Some found)) rows row before.held
        (here (λ w m k r. IsRowHeld w m k r) held some);
    asked = each_pushed (λ k found. IsRowAsked (view map old) (is_member mask k) k (Some found)) rows row
        before.asked (here (λ w m k r. IsRowAsked w m k r) asked some);
    wanted = each_pushed (λ k found. IsRowWanted (view map old) (is_member mask k) k (Some found)) rows row
        before.wanted (here (λ w m k r. IsRowWanted w m k r) wanted some);
  }

-- One more row.
pub one_more : (rows : List Image) (row : Image) (n : ℕ) → length rows ≡ n → length (rows ++ row ∷ []) ≡ n + 1
one_more rows row n count = omega (arith, count, length-append rows (row ∷ []))
