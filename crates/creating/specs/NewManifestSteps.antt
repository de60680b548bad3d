-- The results of the steps of `make-manifest`: reading the running images, and the files.
use Rattle.std.specs.Prelude.{◌≡◌, ◌==◌, ℕ, Any, Bool, List, [], ◌∷◌, ◌++◌, length, map, Option, Some, None}
use Rattle.std.specs.Io.KnownBytes.{Appends}
use Rattle.std.specs.List.{AllZip}
use Rattle.flash_model.specs.Chip.{Chip}
use Rattle.sector_map.specs.declared.layout.SectorMap.{SectorMap}
use Rattle.sector_map.specs.declared.layout.Side.TheVariants.{Primary}
use Rattle.manifest.specs.Fault.{IsManifest}
use Rattle.manifest.specs.declared.identity.Identity.{Identity}
use Rattle.manifest.specs.declared.manifest.Component.{Component}
use Rattle.manifest.specs.declared.manifest.Manifest.{Manifest}
use Rattle.image_reading.specs.Image.{BeginsIntact}
use Rattle.image_reading.specs.Slot.{slot_bytes}
use Rattle.image_reading.specs.declared.desc.Desc.{Desc}
use Rattle.device_texts.specs.FlashOf.{IsFlashOf, flash_of}
use Rattle.device_texts.specs.declared.device.DeviceFile.{DeviceFile}
use Rattle.command_line.specs.declared.orders.NewComponent.{NewComponent}
use Rattle.command_line.specs.declared.orders.NewManifest.{NewManifest}
use Rattle.host.specs.declared.source.Source.{Source}
use Rattle.host.specs.Input.{FileBytes, Gives, IsNamed, KeepsOthers}
use Rattle.host.specs.Inputs.{GiveEach}
use Rattle.creating.specs.NewManifestEnd.{IsFlashIn, IsPrecursor, LetsCome, file_names, flash_names}
use Rattle.creating.specs.declared.precursors.Precursors.{Precursors}
use Rattle.creating.specs.declared.precursors.Precursors.TheVariants.{Are, DamagedAt}

-- No intact image of this number runs on a flash.
abbrev pub IsDamaged : SectorMap → Chip → ℕ → Type 0
IsDamaged map chip image =
    (description : Desc) → BeginsIntact (slot_bytes map chip image Primary) description → ⊥

-- What is found of a running image: the digest of the intact image, or none.
abbrev pub FindsPrecursor : SectorMap → Chip → ℕ → Option (List ℕ) → Type 0
FindsPrecursor map chip image None = IsDamaged map chip image
FindsPrecursor map chip image (Some digest) = IsPrecursor map (Some chip) image (Some digest)

-- These are the precursors of the files, one for each.
abbrev pub ArePrecursors : SectorMap → Option Chip → List NewComponent → List (Option (List ℕ))
    → Type 0
ArePrecursors map flash asked precursors =
    AllZip (λ component precursor. IsPrecursor map flash component.image precursor) asked precursors

-- What is found of the running images that files are for.
abbrev pub FindsPrecursors : SectorMap → Chip → List NewComponent → Precursors → Type 0
FindsPrecursors map chip asked (Are running) =
    ArePrecursors map (Some chip) asked running.digests.items
FindsPrecursors map chip asked (DamagedAt image) =
    Any (λ component. component.image ≡ image) asked × IsDamaged map chip image

-- The files have no precursors.
abbrev pub FindsNone : List NewComponent → Precursors → Type 0
FindsNone asked (Are running) =
    AllZip (λ component precursor. precursor ≡ None) asked running.digests.items
FindsNone asked (DamagedAt image) = ⊥

-- The flash was read if one is given, before all that is read after it. The files have these
-- precursors.
pub record ReadsFlash (map : SectorMap) (asked : NewManifest) (input : Option (List ℕ))
    (files : FileBytes) (new_input : Option (List ℕ)) (new_files : FileBytes)
    (precursors : List (Option (List ℕ))) : Type 0 where
  pub flash : Option Chip
  pub sources : List Source
  pub contents : List (List ℕ)
  pub named : AllZip IsNamed (flash_names asked) sources
  pub before : (rest : List Source) (more : List (List ℕ))
      → GiveEach rest new_input new_files more
      → GiveEach (sources ++ rest) input files (contents ++ more)
  pub is_flash : IsFlashIn map contents flash
  pub are : ArePrecursors map flash asked.components.items precursors

-- The flash was read, and the running image of this number isn't intact.
pub record ReadsDamaged (map : SectorMap) (asked : NewManifest) (input : Option (List ℕ))
    (files : FileBytes) (image : ℕ) : Type 0 where
  pub sources : List Source
  pub bytes : List ℕ
  pub named : AllZip IsNamed (flash_names asked) sources
  pub given : GiveEach sources input files (bytes ∷ [])
  pub is_flash : IsFlashOf map bytes
  pub asked_for : Any (λ component. component.image ≡ image) asked.components.items
  pub damaged : IsDamaged map (flash_of map bytes) image

abbrev pub ReadsPrecursors : SectorMap → NewManifest → Option (List ℕ) → FileBytes
    → Option (List ℕ) → FileBytes → Precursors → Type 0
ReadsPrecursors map asked input files new_input new_files (Are running) =
    ReadsFlash map asked input files new_input new_files running.digests.items
ReadsPrecursors map asked input files new_input new_files (DamagedAt image) =
    ReadsDamaged map asked input files image

-- A component has the image and the kind of the arguments.
abbrev pub IsOfKind : NewComponent → Component → Type 0
IsOfKind asked component =
    (component.image ≡ asked.image) × (component.permanent ≡ asked.permanent)

-- A file was read. The component admits it, and has this precursor.
pub record ReadsComponent (asked : NewComponent) (follows : Option (List ℕ))
    (input : Option (List ℕ)) (files : FileBytes) (new_input : Option (List ℕ))
    (new_files : FileBytes) (component : Component) : Type 0 where
  pub source : Source
  pub content : List ℕ
  pub named : IsNamed asked.file.now source
  pub given : Gives source input files content
  pub kept : KeepsOthers source input files new_input new_files
  pub kind : IsOfKind asked component
  pub precursor : component.precursor ≡ follows
  pub come : LetsCome content component

-- The precursors of components.
abbrev pub precursors_of : List Component → List (Option (List ℕ))
precursors_of components = map (λ component. component.precursor) components

-- Files were read. The components admit them, and have these precursors.
pub record ReadsComponents (asked : List NewComponent) (follow : List (Option (List ℕ)))
    (input : Option (List ℕ)) (files : FileBytes) (components : List Component) : Type 0 where
  pub sources : List Source
  pub contents : List (List ℕ)
  pub named : AllZip IsNamed (file_names asked) sources
  pub given : GiveEach sources input files contents
  pub kinds : AllZip IsOfKind asked components
  pub precursors : precursors_of components ≡ follow
  pub come : AllZip LetsCome contents components

-- A text reads back as a manifest for a device of this identity, with the same contents.
pub record IsReadBack (identity : Identity) (text : List ℕ) (manifest : Manifest) : Type 0 where
  pub read : Manifest
  pub is_manifest : IsManifest identity text read
  pub sequence : read.sequence ≡ manifest.sequence
  pub components : read.components.items ≡ manifest.components.items

-- Files were read, and a writer took the manifest that admits them, with these precursors.
pub record Writes (device : DeviceFile) (asked : NewManifest)
    (precursors : List (Option (List ℕ))) (input : Option (List ℕ)) (files : FileBytes)
    (old new : Option (List ℕ)) : Type 0 where
  pub manifest : Manifest
  pub text : List ℕ
  pub sequence : manifest.sequence ≡ asked.sequence
  pub reads : ReadsComponents asked.components.items precursors input files
      manifest.components.items
  pub is_manifest : IsManifest device.identity text manifest
  pub told : Appends old new text

-- A writer took the notes. `is_quiet` says whether there are none.
pub record WritesNotes (is_quiet : Bool) (old new : Option (List ℕ)) : Type 0 where
  pub notes : List ℕ
  pub quiet : is_quiet ≡ (length notes == 0)
  pub told : Appends old new notes
