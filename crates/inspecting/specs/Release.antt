-- The images of a release, as the files that are named for it have them.
use Rattle.std.specs.Prelude.{◌≡◌, ◌≢◌, ◌∷◌, [], ℕ, List, length, Option, Some, None, IfSome, slice_get}
use Rattle.std.specs.List.{AllByRecursion}
use Rattle.reports.specs.declared.table.Entry.{Entry}
use Rattle.command_line.specs.declared.orders.RequestedFile.{RequestedFile}
use Rattle.machine.specs.States.{entry_of}
use Rattle.host.specs.Input.{FileBytes, IsKnownAs}
use Rattle.image_reading.specs.declared.desc.Desc.{Desc}
use Rattle.image_reading.specs.Image.{IsIntact}

-- The file of this name is an intact image, of which a decision uses this entry.
pub record IsEntryOfFile (file : FileBytes) (name : List ℕ) (entry : Entry) : Type 0 where
  pub bytes : List ℕ
  pub known : IsKnownAs (file name) bytes
  pub description : Desc
  pub intact : IsIntact bytes description
  pub is : entry ≡ entry_of description

-- The entry of this file is requested as its image.
pub record IsRequestedIn (file : FileBytes) (entries : List (Option Entry)) (requested : RequestedFile) : Type 0 where
  pub entry : Entry
  pub of_file : IsEntryOfFile file requested.file.now entry
  pub there : slice_get entries requested.image ≡ Some (Some entry)

-- No file is requested as this image.
abbrev pub IsNotAsked : ℕ → List RequestedFile → Type 0
IsNotAsked image files = AllByRecursion (λ requested. requested.image ≢ image) files

-- These are the requests for these files: of eight images, those that a file is named for.
pub record IsRelease (file : FileBytes) (files : List RequestedFile) (entries : List (Option Entry)) : Type 0 where
  pub as_many : length entries ≡ 8
  pub each : AllByRecursion (IsRequestedIn file entries) files
  pub others : (image : ℕ) → IsNotAsked image files
      → IfSome (slice_get entries image) (λ entry. entry ≡ None)

-- A request is put where there was none.
pub record PutsRequest (image : ℕ) (entry : Entry) (old new : List (Option Entry)) : Type 0 where
  pub as_many : length new ≡ length old
  pub was : slice_get old image ≡ Some None
  pub there : slice_get new image ≡ Some (Some entry)
  pub others : (other : ℕ) → other ≢ image → slice_get new other ≡ slice_get old other

-- No request for any of eight images.
abbrev pub none_of_eight : List (Option Entry)
none_of_eight = None ∷ None ∷ None ∷ None ∷ None ∷ None ∷ None ∷ None ∷ []
