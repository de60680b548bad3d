-- What the slots of a flash begin with, whatever the flash holds, and what a boot's reply says of it.
use Rattle.std.specs.Prelude.{◌≡◌, ℕ, ◌<◌, Bool, true, List, length, Option, Some, None, slice_get}
use Rattle.sector_map.specs.declared.layout.Side.{Side}
use Rattle.sector_map.specs.declared.layout.Side.TheVariants.{Primary}
use Rattle.common.specs.Masks.{is_member}
use Rattle.reports.specs.declared.table.Entry.{Entry}
use Rattle.reports.specs.declared.table.Image.{Image}
use Rattle.reports.specs.declared.table.Table.{Table}
use Rattle.reports.specs.Combination.{IsValid, entry_in}
use Rattle.reports.specs.Rightness.{taken_in}
use Rattle.upload.specs.Steady.{IsFront}
use Rattle.upload.specs.View.{View}
use Rattle.machine.specs.Boots.{IsEntryOf}
use Rattle.machine.specs.declared.reply.Reply.{Reply}
use Rattle.machine.specs.declared.reply.Reply.TheVariants.{Booted, TrialAgain}

-- A slot begins with an intact image.
abbrev pub IsHeld : List ℕ → Type 0
IsHeld slot = (bytes : List ℕ) × IsFront slot (Some bytes)

-- A slot begins with an intact image, and this is what a decision knows of it.
abbrev pub HoldsEntry : List ℕ → Entry → Type 0
HoldsEntry slot entry = (bytes : List ℕ) × IsFront slot (Some bytes) × IsEntryOf (Some bytes) entry

-- Each primary slot begins with an intact image.
abbrev pub AreIntact : View → Type 0
AreIntact w = (i : ℕ) → i < w.images → IsHeld (w.slot i Primary)

-- ---- sets of images

-- The slots on one side of the set's images below `n` begin with intact images.
abbrev pub AreHeld : View → ℕ → Side → ℕ → Type 0
AreHeld w mask side n = (i : ℕ) → i < n → is_member mask i ≡ true → IsHeld (w.slot i side)

-- Image `i` is the lowest of the set whose slot on this side begins with no intact image.
pub record IsLost (w : View) (mask : ℕ) (side : Side) (i : ℕ) : Type 0 where
  pub there : i < w.images
  pub member : is_member mask i ≡ true
  pub lost : IsFront (w.slot i side) None
  pub lowest : AreHeld w mask side i

-- The lowest image of a set whose slot begins with no intact image, or none.
abbrev pub IsLowestLost : View → ℕ → Side → Option ℕ → Type 0
IsLowestLost w mask side (Some i) = IsLost w mask side i
IsLowestLost w mask side None = AreHeld w mask side w.images

-- ---- what a boot starts

-- The primary slots begin with intact images, one for each row of the table: the requested image if
-- it is taken, else the running one. Together they are a valid combination.
pub record StartsSet (w : View) (table : Table) (taken : ℕ → Bool) : Type 0 where
  pub count : length table.images.items ≡ w.images
  pub each : (i : ℕ) (row : Image) → slice_get table.images.items i ≡ Some row
      → HoldsEntry (w.slot i Primary) (entry_in row (taken i))
  pub valid : IsValid table taken

-- What the primary slots begin with after a boot with this reply. A report names what runs, and a
-- set that is tried again is intact.
abbrev pub StartsBy : View → Reply → Type 0
StartsBy w (Booted table report permanent) = StartsSet w table (taken_in report)
StartsBy w (TrialAgain set left) = AreIntact w
StartsBy w other = Unit {0}
