-- What a boot finds on a flash that may have damaged images.
use Rattle.std.specs.Prelude.{◌≡◌, ◌⊎◌, ℕ, ◌<◌, Bool, true, false, List, length, Option, Some, None, slice_get}
use Rattle.flash_model.specs.Chip.{Chip}
use Rattle.sector_map.specs.declared.layout.SectorMap.{SectorMap}
use Rattle.sector_map.specs.declared.layout.Side.TheVariants.{Primary, Secondary}
use Rattle.common.specs.Masks.{is_member}
use Rattle.reports.specs.declared.table.Entry.{Entry}
use Rattle.reports.specs.declared.table.Image.{Image}
use Rattle.reports.specs.declared.table.Request.{Request}
use Rattle.reports.specs.declared.table.Request.TheVariants as request
use Rattle.reports.specs.Combination.{IsGreatest, entry_in}
use Rattle.reports.specs.Rightness.{taken_in}
use Rattle.machine.specs.Device.{DeviceState}
use Rattle.upload.specs.View.{View, view}
use Rattle.upload.specs.Steady.{IsFront, request_in}
use Rattle.flash_contents.specs.Reading.{CanRead}
use Rattle.flash_contents.specs.Starting.{HoldsEntry}
use Rattle.flash_contents.specs.declared.finding.Finding.{Finding}
use Rattle.flash_contents.specs.declared.finding.Finding.TheVariants.{Decided, Damaged, Invalid}
use Rattle.flash_contents.specs.declared.finding.Reading.{Reading}
use Rattle.flash_contents.specs.declared.finding.Reading.TheVariants.{Read, DamagedAt}

-- The table of a decision has `n` rows.
abbrev pub HasTable : ℕ → Finding → Type 0
HasTable n (Decided table report) = length table.images.items ≡ n
HasTable n (Damaged i) = Unit {0}
HasTable n Invalid = Unit {0}

-- What is found on a flash is this of the state that the flash holds. The slots of the mask's images
-- are swapped.
abbrev pub IsReadBy : {A : Type 0} → (DeviceState → A → Type 0) → SectorMap → Chip → ℕ → List ℕ
    → A → Type 0
IsReadBy Is map chip mask floors found =
    (s : DeviceState) → CanRead (view map chip) s mask floors → Is s found

-- ---- what is held on a flash

-- If an entry is read, the slot begins with an intact image, and the entry is that image's.
abbrev pub IsEntryRead : List ℕ → Option Entry → Type 0
IsEntryRead slot (Some entry) = HoldsEntry slot entry
IsEntryRead slot None = Unit {0}

-- If a row is read, the primary slot begins with an intact image of it: the running one, or the
-- requested one if the slots are swapped.
abbrev pub IsRowHeld : View → Bool → ℕ → Option Image → Type 0
IsRowHeld w is_swapped i (Some row) = HoldsEntry (w.slot i Primary) (entry_in row is_swapped)
IsRowHeld w is_swapped i None = Unit {0}

-- Unless the slots are swapped, a row has a request only if one is pending.
abbrev pub IsRowAsked : View → Bool → ℕ → Option Image → Type 0
IsRowAsked w false i (Some row) = request_in w i ≡ None → row.request ≡ request.None
IsRowAsked w true i (Some row) = Unit {0}
IsRowAsked w is_swapped i None = Unit {0}

-- A requested entry is that of the intact image at the start of a slot.
abbrev pub IsRequestHeld : List ℕ → Request → Type 0
IsRequestHeld slot (request.Entry entry) = HoldsEntry slot entry
IsRequestHeld slot other = Unit {0}

-- Unless the slots are swapped, the requested entry of a row is that of the image in the secondary
-- slot.
abbrev pub IsRowWanted : View → Bool → ℕ → Option Image → Type 0
IsRowWanted w false i (Some row) = IsRequestHeld (w.slot i Secondary) row.request
IsRowWanted w true i (Some row) = Unit {0}
IsRowWanted w is_swapped i None = Unit {0}

-- The rows of a table are those of the images on the flash. The slots of the mask's images are
-- swapped.
pub record AreRowsHeld (w : View) (mask : ℕ) (rows : List Image) : Type 0 where
  pub held : (i : ℕ) (row : Image) → slice_get rows i ≡ Some row
      → IsRowHeld w (is_member mask i) i (Some row)
  pub asked : (i : ℕ) (row : Image) → slice_get rows i ≡ Some row
      → IsRowAsked w (is_member mask i) i (Some row)
  pub wanted : (i : ℕ) (row : Image) → slice_get rows i ≡ Some row
      → IsRowWanted w (is_member mask i) i (Some row)

-- If a table is read, its rows are those of the images on the flash.
abbrev pub IsTableHeld : View → ℕ → Reading → Type 0
IsTableHeld w mask (Read table) = AreRowsHeld w mask table.images.items
IsTableHeld w mask (DamagedAt i) = Unit {0}

-- A decision takes the greatest combination of a table whose rows are those of the images on the
-- flash.
abbrev pub IsFindingHeld : View → ℕ → Finding → Type 0
IsFindingHeld w mask (Decided table report) = AreRowsHeld w mask table.images.items
    × IsGreatest table (taken_in report)
IsFindingHeld w mask (Damaged i) = Unit {0}
IsFindingHeld w mask Invalid = Unit {0}

-- ---- what can't be read on a flash

-- An entry is read exactly if a slot begins with an intact image.
abbrev pub IsEntryAt : List ℕ → Option Entry → Type 0
IsEntryAt slot (Some entry) = IsFront slot None → ⊥
IsEntryAt slot None = IsFront slot None

-- The running image isn't intact. If its slots are swapped: the image that ran or the requested one
-- isn't intact.
abbrev pub IsDamagedAt : View → Bool → ℕ → Type 0
IsDamagedAt w false i = IsFront (w.slot i Primary) None
IsDamagedAt w true i = IsFront (w.slot i Secondary) None ⊎ IsFront (w.slot i Primary) None

-- A row is read exactly if the image isn't damaged.
abbrev pub IsRowAt : View → Bool → ℕ → Option Image → Type 0
IsRowAt w is_swapped i (Some row) = IsDamagedAt w is_swapped i → ⊥
IsRowAt w is_swapped i None = IsDamagedAt w is_swapped i

-- All images below `n` can be read. The slots of the mask's images are swapped.
abbrev pub AreReadable : View → ℕ → ℕ → Type 0
AreReadable w mask n = (k : ℕ) → k < n → IsDamagedAt w (is_member mask k) k → ⊥

-- Image `i` is the lowest one that can't be read.
pub record IsLowestAt (w : View) (mask i : ℕ) : Type 0 where
  pub there : i < w.images
  pub damaged : IsDamagedAt w (is_member mask i) i
  pub lowest : AreReadable w mask i

-- A table is read exactly if each image can be read. Otherwise the result is the lowest image that
-- can't be read.
abbrev pub IsReadingAt : View → ℕ → Reading → Type 0
IsReadingAt w mask (Read table) = AreReadable w mask w.images
IsReadingAt w mask (DamagedAt i) = IsLowestAt w mask i

-- A decision, or that the running set isn't valid, is found exactly if a table can be read.
abbrev pub IsFindingAt : View → ℕ → Finding → Type 0
IsFindingAt w mask (Decided table report) = AreReadable w mask w.images
IsFindingAt w mask (Damaged i) = IsLowestAt w mask i
IsFindingAt w mask Invalid = AreReadable w mask w.images
