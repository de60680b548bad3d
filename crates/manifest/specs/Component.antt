-- A component of a manifest as a JSON object (RFC 9124 names its elements; the spelling is this
-- project's own).
use Rattle.std.specs.Prelude.{◌≡◌, ◌⊎◌, ℕ, ◌^◌, ◌<◌, Bool, true, false, IfSome, List, [], ◌∷◌, Option, None, Some, codes}
use Rattle.serde_json.specs.Data.{Data}
use Rattle.serde_json.specs.Find.{as_object, get}
use Rattle.manifest.specs.declared.manifest.Component.{Component}
use Rattle.manifest.specs.Json.{HasNames, digest_at, number_at, text_at}

-- The keys of a component without a precursor, in the order of their bytes.
abbrev pub component_keys : List (List ℕ)
component_keys =
    codes "component-id" ∷ codes "kind" ∷ codes "payload-digest" ∷ codes "size" ∷ []

-- The keys of a component with a precursor, in the order of their bytes.
abbrev pub component_keys_with_precursor : List (List ℕ)
component_keys_with_precursor =
    codes "component-id" ∷ codes "kind" ∷ codes "payload-digest" ∷ codes "precursor-digest"
    ∷ codes "size" ∷ []

-- A value that is an object has the keys of a component.
abbrev pub HasComponentKeys : Data → Type 0
HasComponentKeys value = IfSome (as_object value)
    (λ members. HasNames component_keys value ⊎ HasNames component_keys_with_precursor value)

-- The word for the kind of a request.
abbrev pub kind_text : Bool → List ℕ
kind_text true = codes "permanent"
kind_text false = codes "test"

-- The digest of the image that has to run, if the value names one.
abbrev pub IsPrecursor : Data → Option (List ℕ) → Type 0
IsPrecursor value None = get (codes "precursor-digest") value ≡ None
IsPrecursor value (Some digest) = digest_at (codes "precursor-digest") value ≡ Some digest

-- The value spells the component, key by key.
pub record IsComponent (value : Data) (component : Component) : Type 0 where
  pub image : number_at (codes "component-id") value ≡ Some component.image
  pub image_fits : component.image < 2 ^ 8
  pub kind : text_at (codes "kind") value ≡ Some (kind_text component.permanent)
  pub size : number_at (codes "size") value ≡ Some component.size
  pub size_fits : component.size < 2 ^ 32
  pub digest : digest_at (codes "payload-digest") value ≡ Some component.digest
  pub precursor : IsPrecursor value component.precursor
