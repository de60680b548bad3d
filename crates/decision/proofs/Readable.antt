-- Which images can be read, row by row.
use Rattle.std.proofs.Common.{◌≡◌, ℕ, ◌+◌, ◌<◌, ◌≤◌, Bool, true, false, nat_le, Option, Some, None, arith, subst, ⊎_elim}
use Rattle.std.proofs.lemmas.Bool.Decides.{leb_tells}
use Rattle.flash_model.specs.Chip.{Chip}
use Rattle.sector_map.specs.declared.layout.SectorMap.{SectorMap}
use Rattle.common.specs.Masks.{is_member}
use Rattle.reports.specs.declared.table.Image.{Image}
use Rattle.upload.specs.View.{view}
use Rattle.reports.specs.declared.table.Table.{Table}
use Rattle.flash_contents.specs.declared.finding.Reading.{Reading}
use Rattle.flash_contents.specs.declared.finding.Reading.TheVariants.{Read}
use Rattle.decision.specs.Found.{AreReadable, IsDamagedAt, IsLowestAt, IsReadingAt, IsRowAt}

pub readable_none : (map : SectorMap) (w : Chip) (mask : ℕ) → AreReadable (view map w) mask 0
readable_none map w mask k lt damaged = absurd (omega (arith, lt))

-- What a row says of its image.
row_says : (map : SectorMap) (old mid : Chip) (mask i : ℕ) (b : Bool) (read : Option Image) → mid ≡ old
    → b ≡ is_member mask i → IsRowAt (view map mid) b i read → IsRowAt (view map old) (is_member mask i) i read
row_says map old mid mask i b read same is at = subst (λ m. IsRowAt (view map old) m i read) is
    (subst (λ chip. IsRowAt (view map chip) b i read) same at)

pub readable_more : (map : SectorMap) (old mid : Chip) (mask i : ℕ) (b : Bool) (read : Option Image) (row : Image)
    → mid ≡ old → b ≡ is_member mask i → IsRowAt (view map mid) b i read → read ≡ Some row
    → AreReadable (view map old) mask i → AreReadable (view map old) mask (i + 1)
readable_more map old mid mask i b read row same is at some below k lt damaged =
    let here : IsDamagedAt (view map old) (is_member mask i) i → ⊥ =
    subst (λ r. IsRowAt (view map old) (is_member mask i) i r) some (row_says map old mid mask i b read same is at) in
    ⊎_elim
    (λ (last : (nat_le i k ≡ true) × (i ≤ k)). let le : i ≤ k = last.1 in let e : k ≡ i = omega (arith, le, lt) in
    here (subst (λ m. IsDamagedAt (view map old) (is_member mask m) m) e damaged))
    (λ (less : (nat_le i k ≡ false) × (k < i)). below k less.1 damaged)
    (leb_tells i k)

pub lowest_at : (map : SectorMap) (old mid : Chip) (mask i : ℕ) (b : Bool) (read : Option Image) → mid ≡ old
    → b ≡ is_member mask i → i < map.images → IsRowAt (view map mid) b i read → read ≡ None
    → AreReadable (view map old) mask i → IsLowestAt (view map old) mask i
lowest_at map old mid mask i b read same is lt at none below = record {
  there = lt;
  damaged = subst (λ r. IsRowAt (view map old) (is_member mask i) i r) none
      (row_says map old mid mask i b read same is at);
  lowest = below;
}

-- If a table was read, each image can be read.
pub read_here : (map : SectorMap) (w : Chip) (mask : ℕ) (read : Reading) (table : Table)
    → IsReadingAt (view map w) mask read → read ≡ Read table → AreReadable (view map w) mask (view map w).images
read_here map w mask read table at is = subst (λ r. IsReadingAt (view map w) mask r) is at
