-- What is found if the decision of a record isn't found again, or its set isn't intact after it was
-- swapped back, and what is written then.
use Rattle.std.specs.Prelude.{◌≡◌, ℕ, List}
use Rattle.flash_model.specs.Chip.{Chip}
use Rattle.sector_map.specs.declared.layout.SectorMap.{SectorMap}
use Rattle.sector_map.specs.declared.layout.Side.TheVariants.{Primary, Secondary}
use Rattle.sector_map.specs.Map.{Keeps}
use Rattle.sector_map.specs.Part.{swap_of}
use Rattle.common.specs.Masks.{is_member}
use Rattle.reports.specs.declared.table.Table.{Table}
use Rattle.reports.specs.Combination.{IsGreatest, IsValid, running_set}
use Rattle.reports.specs.Rightness.{taken_in}
use Rattle.set_log.specs.declared.state.State.{State}
use Rattle.set_log.specs.declared.state.RecordKind.TheVariants as log
use Rattle.upload.specs.View.{View, view}
use Rattle.machine.specs.Device.{DeviceState}
use Rattle.machine.specs.Boots.{IsTableOf}
use Rattle.flash_contents.specs.Reading.{CanRead}
use Rattle.flash_contents.specs.Starting.{IsLost, StartsSet}
use Rattle.flash_contents.specs.declared.finding.Finding.{Finding}
use Rattle.flash_contents.specs.declared.finding.Finding.TheVariants.{Decided, Damaged, Invalid}
use Rattle.decision.specs.Found.{AreReadable, IsLowestAt}

-- The table of a state isn't valid, or the set isn't the greatest of the table.
abbrev pub IsMistaken : DeviceState → ℕ → Type 0
IsMistaken s mask = (table : Table) × IsTableOf s table
    × (IsValid table running_set → IsGreatest table (is_member mask) → ⊥)

-- `Damaged` names the lowest image that can't be read. `Invalid` says that each image can be read,
-- and that the table isn't one which the decision of the record follows from.
abbrev pub IsToldAgain : View → ℕ → List ℕ → Finding → Type 0
IsToldAgain w mask floors (Decided table report) = Unit {0}
IsToldAgain w mask floors (Damaged i) = IsLowestAt w mask i
IsToldAgain w mask floors Invalid = AreReadable w mask w.images
    × ((s : DeviceState) → CanRead w s mask floors → IsMistaken s mask)

-- If a decision is found, the primary slots begin with what its report says.
abbrev pub StartsFound : View → Finding → Type 0
StartsFound w (Decided table report) = StartsSet w table (taken_in report)
StartsFound w (Damaged i) = Unit {0}
StartsFound w Invalid = Unit {0}

-- If no decision is found, nothing is written.
abbrev pub IsKeptFor : Chip → Chip → Finding → Type 0
IsKeptFor old new (Decided table report) = Unit {0}
IsKeptFor old new (Damaged i) = new ≡ old
IsKeptFor old new Invalid = new ≡ old

-- If no decision is found, only the swap of the set is written.
abbrev pub IsSwapAloneFor : SectorMap → ℕ → Chip → Chip → Finding → Type 0
IsSwapAloneFor map mask old new (Decided table report) = Unit {0}
IsSwapAloneFor map mask old new (Damaged i) = Keeps map (swap_of mask Primary) old new
IsSwapAloneFor map mask old new Invalid = Keeps map (swap_of mask Primary) old new

-- After the set of a record was swapped back, only a damaged image of it is found: the lowest one
-- whose primary slot begins with no intact image.
abbrev pub IsLostFor : View → ℕ → Finding → Type 0
IsLostFor w mask (Decided table report) = ⊥
IsLostFor w mask (Damaged i) = IsLost w mask Primary i
IsLostFor w mask Invalid = ⊥

-- ---- how a boot stops that continues an upgrade or a revert

-- What a boot reports and writes if it continues an upgrade and finds no decision, or a revert and
-- finds a damaged image.
pub record IsStopped (map : SectorMap) (state : State) (old new : Chip) (finding : Finding)
    : Type 0 where
  pub swap : state.kind ≡ log.Swap → IsToldAgain (view map new) state.mask state.floors finding
      × IsSwapAloneFor map state.mask old new finding
  pub settle : state.kind ≡ log.Settle → IsToldAgain (view map new) state.mask state.floors finding
      × IsKeptFor old new finding
  -- A revert finishes its swap, and writes nothing more.
  pub back : state.kind ≡ log.Back → IsLostFor (view map new) state.mask finding
      × Keeps map (swap_of state.mask Secondary) old new
  pub back_settle : state.kind ≡ log.BackSettle → IsLostFor (view map new) state.mask finding
      × (new ≡ old)
