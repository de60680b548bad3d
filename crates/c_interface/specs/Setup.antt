-- The check of a setup.
use Rattle.std.specs.Prelude.{◌≡◌, ℕ, ◌*◌, ◌%◌, ◌^◌, ◌<◌, ◌≤◌, List, length, take}
use Rattle.sector_map.specs.declared.layout.SectorMap.{SectorMap}
use Rattle.sector_map.specs.Making.{HasSizes}
use Rattle.sector_map.specs.Map.{sectors_of}
use Rattle.sector_map.specs.Sizes.{MakeMap}
use Rattle.manifest.specs.declared.identity.Identity.{Identity}
use Rattle.c_interface.specs.Numbers.{NO_FLASH, NO_MAP, NO_TRIAL}
use Rattle.c_interface.specs.declared.setup.Setup.{Setup}
use Rattle.c_interface.specs.declared.setup.CheckedSetup.{CheckedSetup}

-- The numbers of sectors of each slot of a setup's images.
abbrev pub counts_of : Setup → List ℕ
counts_of setup = take setup.images setup.sectors

-- The map of a setup's sizes.
pub record IsMapOf (setup : Setup) (map : SectorMap) : Type 0 where
  pub images : map.images ≡ setup.images
  pub sizes : HasSizes setup.sector_size (counts_of setup) map

-- The sizes of a setup make no map.
abbrev pub MakesNoMap : Setup → Type 0
MakesNoMap setup = MakeMap setup.sector_size setup.images (counts_of setup) → ⊥

-- The identity of the device for manifests.
pub record IsIdentityOf (setup : Setup) (count : ℕ) (identity : Identity) : Type 0 where
  pub vendor : identity.vendor ≡ setup.vendor
  pub class : identity.class ≡ setup.class
  pub images : identity.images ≡ count

-- Bytes are a flash for a map: whole sectors, enough of them, and fewer than 2^32 bytes.
pub record HasRoom (map : SectorMap) (bytes : List ℕ) : Type 0 where
  pub whole : length bytes % map.sector_size ≡ 0
  pub addressed : length bytes < 2 ^ 32
  pub room : sectors_of map * map.sector_size ≤ length bytes

-- A trial has 1 to 7 boots.
pub record IsTrial (boots : ℕ) : Type 0 where
  pub some : 1 ≤ boots
  pub few : boots ≤ 7

-- A setup passed the check for a flash of these bytes.
pub record IsCheckedSetup (setup : Setup) (bytes : List ℕ) (checked : CheckedSetup) : Type 0 where
  pub map : IsMapOf setup checked.map
  pub identity : IsIdentityOf setup checked.map.images checked.identity
  pub boots : checked.boots ≡ setup.trial_boots
  pub trial : IsTrial setup.trial_boots
  pub room : HasRoom checked.map bytes

-- A setup failed the check. The sizes are checked first, then the trial, then the bytes.
pub data IsRefusedSetup (setup : Setup) (bytes : List ℕ) (number : ℕ) : Type 0 where
  NoMap : number ≡ NO_MAP → MakesNoMap setup → IsRefusedSetup setup bytes number
  NoTrial : number ≡ NO_TRIAL → (map : SectorMap) → IsMapOf setup map
      → (IsTrial setup.trial_boots → ⊥) → IsRefusedSetup setup bytes number
  NoFlash : number ≡ NO_FLASH → (map : SectorMap) → IsMapOf setup map
      → IsTrial setup.trial_boots → (HasRoom map bytes → ⊥) → IsRefusedSetup setup bytes number
