-- What `manifest` finds in bytes.
use Rattle.std.specs.Prelude.{◌≡◌, ℕ, List}
use Rattle.manifest.specs.declared.identity.Identity.{Identity}
use Rattle.manifest.specs.Fault.{IsManifest, IsRefusal}
use Rattle.inspecting.specs.declared.manifest_file.RefusedManifest.{RefusedManifest}
use Rattle.inspecting.specs.declared.inspection.Inspection.{Inspection}
use Rattle.inspecting.specs.declared.inspection.Inspection.TheVariants as found

-- The text isn't a manifest for the device, by the lowest refusal that applies.
pub record IsRefusedManifest (identity : Identity) (bytes : List ℕ) (refused : RefusedManifest)
    : Type 0 where
  pub same : refused.text.items ≡ bytes
  pub of_device : refused.identity ≡ identity
  pub fault : IsRefusal identity bytes refused.fault

-- The contents of the manifest for the device, or this text and the lowest refusal that applies.
abbrev pub IsManifestRead : Identity → List ℕ → Inspection → Type 0
IsManifestRead identity bytes (found.Manifest manifest) = IsManifest identity bytes manifest
IsManifestRead identity bytes (found.RefusedManifest refused) =
    IsRefusedManifest identity bytes refused
IsManifestRead identity bytes it = ⊥
