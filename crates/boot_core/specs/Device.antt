-- What contracts see of a device, and what is true of every device.
use Rattle.std.specs.Prelude.{◌≡◌, ℕ, ◌≤◌, Bool, List, Option}
use Rattle.common.specs.Limits.{MOST_BOOTS_LEFT}
use Rattle.flash_model.specs.Chip.{Chip}
use Rattle.sector_map.specs.Map.{IsLaidOut}
use Rattle.sector_map.specs.declared.layout.SectorMap.{SectorMap}
use Rattle.manifest.specs.declared.identity.Identity.{Identity}
use Rattle.upload.specs.View.{view}
use Rattle.upload.specs.Sessions.{AllOpenAt}
use Rattle.upload.specs.declared.sessions.Upload.{Upload}
use Rattle.machine.specs.Intake.{Setup}
use Rattle.machine.specs.Device.{Machine}
use Rattle.flash_contents.specs.Holding.{DeviceView, Holds}

-- A device as contracts see it: what it was made with, and its state now.
pub record Whole : Type 0 where
  pub setup : Setup
  pub here : DeviceView

-- What a device is made with.
abbrev pub made : SectorMap → Identity → ℕ → Setup
made map identity boots = record { map = map; identity = identity; boots = boots }

-- The state of a device now.
abbrev pub seen : Chip → List (Option Upload) → Bool → DeviceView
seen chip sessions up = record { flash = chip; sessions = sessions; up = up }

-- A device that held a state of the machine still holds one after a call.
abbrev pub StaysHeld : SectorMap → DeviceView → DeviceView → Type 0
StaysHeld map old new = (m : Machine) → Holds map old m → (next : Machine) × Holds map new next

-- What is true of every device.
pub record IsDevice (map : SectorMap) (identity : Identity) (chip : Chip)
    (sessions : List (Option Upload)) (left : ℕ) : Type 0 where
  pub laid_out : IsLaidOut map chip
  pub images : identity.images ≡ map.images
  -- A trial has at most 7 boots, including the one that begins it.
  pub few : left ≤ MOST_BOOTS_LEFT
  pub opens : AllOpenAt (view map chip) sessions
