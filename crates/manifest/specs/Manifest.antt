-- What a JSON value has to be to mean a manifest to a device (RFC 9124 names the elements; the
-- spelling is this project's own).
use Rattle.std.specs.Prelude.{◌≡◌, ◌≢◌, ℕ, ◌^◌, ◌<◌, ◌≤◌, All, AllPairs, IfSome, IsSome, IsSomeAnd, List, [], ◌∷◌, Some, codes, length}
use Rattle.std.specs.List.{AllByRecursion, AllZip}
use Rattle.serde_json.specs.Data.{Data}
use Rattle.common.specs.Limits.{MOST_COMPONENTS}
use Rattle.manifest.specs.declared.identity.Identity.{Identity}
use Rattle.manifest.specs.declared.manifest.Manifest.{Manifest}
use Rattle.manifest.specs.Component.{HasComponentKeys, IsComponent}
use Rattle.manifest.specs.Json.{HasNames, array_at, number_at, uuid_at}

-- The keys of a manifest, in the order of their bytes.
abbrev pub manifest_keys : List (List ℕ)
manifest_keys =
    codes "class-id" ∷ codes "components" ∷ codes "manifest-version" ∷ codes "sequence-number"
    ∷ codes "vendor-id" ∷ []

-- The value is an object with the keys of a manifest and, if its components are an array, each
-- object there has the keys of a component.
pub record HasKeys (value : Data) : Type 0 where
  pub manifest : HasNames manifest_keys value
  pub components : IfSome (array_at (codes "components") value) (AllByRecursion HasComponentKeys)

-- The value spells the manifest, key by key, for some vendor and class.
pub record Spells (value : Data) (manifest : Manifest) : Type 0 where
  pub version : number_at (codes "manifest-version") value ≡ Some 1
  pub sequence : number_at (codes "sequence-number") value ≡ Some manifest.sequence
  pub sequence_fits : manifest.sequence < 2 ^ 32
  pub vendor : IsSome (uuid_at (codes "vendor-id") value)
  pub class : IsSome (uuid_at (codes "class-id") value)
  pub components : IsSomeAnd (array_at (codes "components") value)
      (λ values. AllZip IsComponent values manifest.components.items)
  pub some : 0 < length manifest.components.items
  pub most : length manifest.components.items ≤ MOST_COMPONENTS

-- The value names this vendor.
abbrev pub IsOfVendor : Identity → Data → Type 0
IsOfVendor identity value = uuid_at (codes "vendor-id") value ≡ Some identity.vendor

-- The value names this class of devices.
abbrev pub IsOfClass : Identity → Data → Type 0
IsOfClass identity value = uuid_at (codes "class-id") value ≡ Some identity.class

-- Each component is for an image that the device has.
abbrev pub NamesImages : Identity → Manifest → Type 0
NamesImages identity manifest =
    All (λ component. component.image < identity.images) manifest.components.items

-- No two components are for the same image.
abbrev pub NamesEachOnce : Manifest → Type 0
NamesEachOnce manifest =
    AllPairs (λ one other. one.image ≢ other.image) manifest.components.items

-- The value means the manifest to a device of this identity.
pub record Means (identity : Identity) (value : Data) (manifest : Manifest) : Type 0 where
  pub keys : HasKeys value
  pub spelled : Spells value manifest
  pub vendor : IsOfVendor identity value
  pub class : IsOfClass identity value
  pub images : NamesImages identity manifest
  pub once : NamesEachOnce manifest
