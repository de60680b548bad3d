-- What a boot reads of a flash.
use Rattle.std.specs.Prelude.{◌≡◌, ℕ, ◌<◌, ◌≤◌, max, Bool, true, false, List, length, Option, Some, None, slice_get}
use Rattle.std.specs.Prelude.{slice_index}
use Rattle.sector_map.specs.declared.layout.Side.TheVariants.{Primary, Secondary}
use Rattle.common.specs.Masks.{is_member}
use Rattle.reports.specs.declared.table.Entry.{Entry}
use Rattle.reports.specs.declared.table.Image.{Image}
use Rattle.reports.specs.declared.table.Table.{Table}
use Rattle.reports.specs.Combination.{entry_in, IsValid, running_set}
use Rattle.reports.specs.Rightness.{taken_in}
use Rattle.image_reading.specs.declared.desc.Desc.{Desc}
use Rattle.image_reading.specs.Image.{IsIntact}
use Rattle.upload.specs.View.{View}
use Rattle.machine.specs.Device.{DeviceState, Trial, Wanted}
use Rattle.upload.specs.Steady.{IsFront, IsImageAt}
use Rattle.machine.specs.States.{IsConfirmed, wanted_bytes}
use Rattle.machine.specs.Boots.{GoesBack, GoesOn, IsEntryOf, IsLowestDamaged, IsReported, IsRowOf, IsTableOf}
use Rattle.flash_contents.specs.declared.finding.Finding.{Finding}
use Rattle.flash_contents.specs.declared.finding.Finding.TheVariants.{Decided, Damaged, Invalid}
use Rattle.flash_contents.specs.declared.finding.Reading.{Reading}
use Rattle.flash_contents.specs.declared.finding.Reading.TheVariants.{Read, DamagedAt}
use Rattle.flash_contents.specs.declared.finding.Passage.{Passage}
use Rattle.flash_contents.specs.declared.finding.Passage.TheVariants.{Over, Back, Again, Stays, Refused}

-- ---- rows

-- An entry was read of the held image, or none is held.
abbrev pub IsReadOf : Option (List ℕ) → Option Entry → Type 0
IsReadOf held (Some entry) = IsEntryOf held entry
IsReadOf held None = held ≡ None

-- An image whose slots are swapped during an upgrade.
pub record IsSwappedAt (w : View) (s : DeviceState) (i : ℕ) : Type 0 where
  pub ran : IsFront (w.slot i Secondary) (s.running i)
  pub asked : IsFront (w.slot i Primary) (wanted_bytes (s.request i))
  pub wanted : (v : Wanted) × (bytes : List ℕ) × (s.request i ≡ Some v)
      × (v.bytes ≡ Some bytes)

-- An image whose row a boot can read: at rest, or swapped.
abbrev pub CanReadAt : View → DeviceState → Bool → ℕ → Type 0
CanReadAt w s false i = IsImageAt w s i
CanReadAt w s true i = IsSwappedAt w s i

-- A flash whose table a boot can read. The slots of the mask's images are swapped.
pub record CanRead (w : View) (s : DeviceState) (mask : ℕ) (least : List ℕ) : Type 0 where
  pub images : w.images ≡ s.images
  pub floors : s.floors ≡ least
  pub each : (i : ℕ) → i < s.images → CanReadAt w s (is_member mask i) i

-- A row was read, or the running image is damaged.
abbrev pub IsRowRead : Option (List ℕ) → Option Wanted → ℕ → Option Image → Type 0
IsRowRead runs wanted least (Some row) = IsRowOf runs wanted least row
IsRowRead runs wanted least None = runs ≡ None

-- A table was read, or this is the lowest damaged image.
abbrev pub IsReading : DeviceState → Reading → Type 0
IsReading s (Read table) = IsTableOf s table
IsReading s (DamagedAt i) = IsLowestDamaged s i

-- The first `n` rows of the table of a state.
pub record AreRowsOf (s : DeviceState) (floors : List ℕ) (n : ℕ) (rows : List Image)
    : Type 0 where
  pub count : length rows ≡ n
  pub each : (k : ℕ) (row : Image) → slice_get rows k ≡ Some row
      → IsRowOf (s.running k) (s.request k) (slice_index floors k) row

-- ---- decisions

-- The decision of a state.
abbrev pub IsFinding : DeviceState → Finding → Type 0
IsFinding s (Decided table report) = IsReported s table report
IsFinding s (Damaged i) = IsLowestDamaged s i
IsFinding s Invalid = (table : Table) × IsTableOf s table × (IsValid table running_set → ⊥)

-- The decision that the log recorded, found again.
abbrev pub IsFoundAgain : DeviceState → ℕ → Finding → Type 0
IsFoundAgain s mask (Decided table report) =
    IsReported s table report × (is_member mask ≡ taken_in report)
IsFoundAgain s mask other = ⊥

-- The first `n` floors are raised to the security counters of a table's combination.
pub record AreRaisedBy (images : List Image) (mask n : ℕ) (old new : List ℕ) : Type 0 where
  pub size : length new ≡ length old
  pub each : (i : ℕ) (row : Image) → i < n → slice_get images i ≡ Some row
      → slice_index new i ≡ max (slice_index old i) (entry_in row (is_member mask i)).counter
  pub rest : (i : ℕ) → n ≤ i → slice_index new i ≡ slice_index old i

-- Each image of a set at rest is requested.
pub record IsAsking (w : View) (s : DeviceState) (mask : ℕ) : Type 0 where
  pub images : w.images ≡ s.images
  pub at : (i : ℕ) → is_member mask i ≡ true → i < s.images → IsImageAt w s i
  pub wanted : (i : ℕ) → is_member mask i ≡ true → (v : Wanted) × (s.request i ≡ Some v)

-- A table that was read has `n` rows.
abbrev pub HasRows : ℕ → Reading → Type 0
HasRows n (Read table) = length table.images.items ≡ n
HasRows n (DamagedAt i) = Unit {0}

-- A decision takes only images below `n`.
abbrev pub HasImages : ℕ → Finding → Type 0
HasImages n (Decided table report) = (i : ℕ) → taken_in report i ≡ true → i < n
HasImages n (Damaged i) = Unit {0}
HasImages n Invalid = Unit {0}

-- ---- trials

-- The primary slots begin with what runs.
pub record RunsAt (w : View) (s : DeviceState) : Type 0 where
  pub images : w.images ≡ s.images
  pub each : (i : ℕ) → i < s.images → IsFront (w.slot i Primary) (s.running i)

-- Whether each image of a set is confirmed on the flash.
abbrev pub AreSetOk : View → ℕ → Bool → Type 0
AreSetOk w mask true = (i : ℕ) → i < w.images → is_member mask i ≡ true
    → (w.trailer i Primary).image_ok ≡ true
AreSetOk w mask false = (i : ℕ) × (i < w.images) × (is_member mask i ≡ true)
    × ((w.trailer i Primary).image_ok ≡ false)

-- How a boot continues a trial. The old images of a state are intact, so on a flash that holds a
-- state a set never stays on trial or is refused because one isn't.
abbrev pub IsPassage : DeviceState → Trial → Passage → Type 0
IsPassage s trial Over = IsConfirmed s trial
IsPassage s trial Back = GoesBack s trial
IsPassage s trial Again = GoesOn s trial
IsPassage s trial Stays = ⊥
IsPassage s trial (Refused i) = ⊥

-- A set that is tried again has a boot left. One that only stays on trial has none.
abbrev pub HasLeft : ℕ → Passage → Type 0
HasLeft left Over = Unit {0}
HasLeft left Back = Unit {0}
HasLeft left Again = 0 < left
HasLeft left Stays = left ≡ 0
HasLeft left (Refused i) = Unit {0}

-- A floor is raised to the counter of the held image.
pub record IsFloorOf (held : Option (List ℕ)) (old new : ℕ) : Type 0 where
  pub raised : (bytes : List ℕ) (description : Desc) → held ≡ Some bytes
      → IsIntact bytes description → new ≡ max old description.counter
  pub damaged : held ≡ None → new ≡ old
