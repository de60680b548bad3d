-- Manifests that are given by their fields.
use Rattle.std.specs.Prelude.{◌≡◌, ◌==◌, ◌<◌, ◌≤◌, ℕ, List, length, map, replicate, slice_get, take, not, Option, Some, None, if◌then◌else◌}
use Rattle.common.specs.Limits.{MOST_COMPONENTS}
use Rattle.manifest.specs.declared.manifest.Component.{Component}
use Rattle.manifest.specs.declared.manifest.Manifest.{Manifest}
use Rattle.manifest.specs.declared.rows.ComponentRow.{ComponentRow}
use Rattle.manifest.specs.declared.rows.ManifestRow.{ManifestRow}

-- The component of a row.
abbrev pub component_in : ComponentRow → Component
component_in row = record {
  image = row.image;
  permanent = not (row.is_permanent == 0);
  size = row.size;
  digest = row.digest;
  precursor = if row.has_precursor == 0 then None else Some row.precursor;
}

-- The manifest of a row.
pub record IsManifestOf (row : ManifestRow) (manifest : Manifest) : Type 0 where
  pub few : row.count ≤ MOST_COMPONENTS
  pub sequence : manifest.sequence ≡ row.sequence
  pub components : manifest.components.items ≡ map component_in (take row.count row.components)

-- Whether a file is for one image only.
abbrev pub has_precursor : Option (List ℕ) → ℕ
has_precursor None = 0
has_precursor (Some digest) = 1

-- The digest of the image that has to run, or zeros.
abbrev pub precursor_bytes : Option (List ℕ) → List ℕ
precursor_bytes None = replicate 32 0
precursor_bytes (Some digest) = digest

-- The row of a component.
abbrev pub component_row : Component → ComponentRow
component_row component = record {
  size = component.size;
  image = component.image;
  is_permanent = if component.permanent then 1 else 0;
  has_precursor = has_precursor component.precursor;
  unused = 0;
  digest = component.digest;
  precursor = precursor_bytes component.precursor;
}

-- No component: all zero.
abbrev pub no_component : ComponentRow
no_component = record {
  size = 0;
  image = 0;
  is_permanent = 0;
  has_precursor = 0;
  unused = 0;
  digest = replicate 32 0;
  precursor = replicate 32 0;
}

-- The row of a manifest. Entries after the last component are all zero.
pub record IsRowOf (manifest : Manifest) (row : ManifestRow) : Type 0 where
  pub sequence : row.sequence ≡ manifest.sequence
  pub count : row.count ≡ length manifest.components.items
  pub each : (k : ℕ) (component : Component)
      → slice_get manifest.components.items k ≡ Some component
      → slice_get row.components k ≡ Some (component_row component)
  pub rest : (k : ℕ) → row.count ≤ k → k < MOST_COMPONENTS
      → slice_get row.components k ≡ Some no_component
