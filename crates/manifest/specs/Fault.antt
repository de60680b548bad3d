-- The lowest refusal that applies to bytes that are to be a manifest.
use Rattle.std.specs.Prelude.{◌≡◌, ℕ, List}
use Rattle.serde_json.specs.Data.{Data}
use Rattle.manifest.specs.declared.error.ManifestError.{ManifestError}
use Rattle.manifest.specs.declared.error.ManifestError.TheVariants.{NotJson, BadKey, BadValue, WrongVendor, WrongClass, NoComponent, RepeatedComponent}
use Rattle.manifest.specs.declared.identity.Identity.{Identity}
use Rattle.manifest.specs.declared.manifest.Manifest.{Manifest}
use Rattle.manifest.specs.Json.{IsJson}
use Rattle.manifest.specs.Manifest.{HasKeys, IsOfClass, IsOfVendor, Means, NamesEachOnce, NamesImages, Spells}

-- A value spells this manifest, and is of the device's vendor and class.
abbrev pub MeetsClass : Identity → Data → Manifest → Type 0
MeetsClass identity value manifest = ((HasKeys value × Spells value manifest)
    × IsOfVendor identity value) × IsOfClass identity value

-- The lowest refusal that applies to a value: its own demand isn't met, and all before it are. That
-- bytes are no JSON, or that memory runs out, is no property of a value.
abbrev pub IsLowestFault : Identity → Data → ManifestError → Type 0
IsLowestFault identity value BadKey = HasKeys value → ⊥
IsLowestFault identity value BadValue =
    HasKeys value × ((manifest : Manifest) → Spells value manifest → ⊥)
IsLowestFault identity value WrongVendor = (manifest : Manifest)
    × (HasKeys value × Spells value manifest) × (IsOfVendor identity value → ⊥)
IsLowestFault identity value WrongClass = (manifest : Manifest)
    × ((HasKeys value × Spells value manifest) × IsOfVendor identity value)
    × (IsOfClass identity value → ⊥)
IsLowestFault identity value NoComponent = (manifest : Manifest)
    × MeetsClass identity value manifest × (NamesImages identity manifest → ⊥)
IsLowestFault identity value RepeatedComponent = (manifest : Manifest)
    × (MeetsClass identity value manifest × NamesImages identity manifest)
    × (NamesEachOnce manifest → ⊥)
IsLowestFault identity value other = ⊥

-- Bytes are the JSON text of a value that means this manifest.
pub record IsManifest (identity : Identity) (bytes : List ℕ) (manifest : Manifest) : Type 0 where
  pub value : Data
  pub json : IsJson bytes value
  pub meaning : Means identity value manifest

-- The lowest refusal that applies to bytes: they aren't JSON, or it applies to what they spell.
pub data IsRefusal (identity : Identity) (bytes : List ℕ) (fault : ManifestError) : Type 0 where
  no_json : ((value : Data) → IsJson bytes value → ⊥)
      → fault ≡ NotJson → IsRefusal identity bytes fault
  of_value : (value : Data) → IsJson bytes value
      → IsLowestFault identity value fault → IsRefusal identity bytes fault
