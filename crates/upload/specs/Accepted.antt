-- What accepting a manifest leaves on the flash.
use Rattle.std.specs.Prelude.{◌≡◌, ℕ, ◌<◌, ◌&&◌, Bool, true, false, List, [], length, Option, Some, None, All}
use Rattle.sector_map.specs.declared.layout.SectorMap.{SectorMap}
use Rattle.sector_map.specs.declared.layout.Side.TheVariants.{Primary, Secondary}
use Rattle.sector_map.specs.Part.{Part, Slot, TrailerOf, Scratch, Log, same_side}
use Rattle.flash_model.specs.Chip.{Chip, IsErased}
use Rattle.sector_map.specs.Map.{length_of, start_of}
use Rattle.flash_model.specs.Units.{are_erased}
use Rattle.trailer.specs.Fields.{erased_fields, trailer_bytes}
use Rattle.common.specs.Kind.{kind_of}
use Rattle.manifest.specs.declared.manifest.Component.{Component}
use Rattle.upload.specs.declared.sessions.Upload.{Upload}
use Rattle.upload.specs.View.{View}
use Rattle.common.specs.Bytes.{Starts}
use Rattle.upload.specs.Sessions.{IsWritten, upload_at}
use Rattle.upload.specs.Withdrawal.{IsKeptOrGone}
use Rattle.machine.specs.Accepted.{is_named, IsPrecursor}

-- ---- what a manifest names

-- The secondary slots of the named images and their trailers.
abbrev pub named_parts : List Component → Part → Bool
named_parts cs (Slot i side) = is_named cs i && same_side side Secondary
named_parts cs (TrailerOf i side) = is_named cs i && same_side side Secondary
named_parts cs Scratch = false
named_parts cs Log = false

-- The secondary slots of the named images and their trailers, and the log.
abbrev pub accepted_parts : List Component → Part → Bool
accepted_parts cs (Slot i side) = is_named cs i && same_side side Secondary
accepted_parts cs (TrailerOf i side) = is_named cs i && same_side side Secondary
accepted_parts cs Scratch = false
accepted_parts cs Log = true

-- ---- what is asked of a manifest

-- Each component names an image of the map.
abbrev pub AreThere : SectorMap → List Component → Type 0
AreThere map cs = All (λ c. c.image < map.images) cs

-- A slot begins with an image of this digest entry, if one is asked for.
abbrev pub FrontHasDigest : List ℕ → Option (List ℕ) → Type 0
FrontHasDigest slot None = Unit
FrontHasDigest slot (Some digest) =
    (bytes : List ℕ) × Starts slot bytes × IsPrecursor (Some digest) (Some bytes)

-- Each component follows the image that the primary slot of its image begins with.
abbrev pub AllFollowAt : View → List Component → Type 0
AllFollowAt w cs = All (λ c. FrontHasDigest (w.slot c.image Primary) c.precursor) cs

-- Nothing came in for an image: its secondary slot and the trailer of it are erased.
pub record IsBlank (map : SectorMap) (chip : Chip) (i : ℕ) : Type 0 where
  pub slot : IsErased chip (start_of map (Slot i Secondary)) (length_of map (Slot i Secondary))
  pub trailer : are_erased (trailer_bytes map chip i Secondary) ≡ true

-- Nothing came in for any image that is named.
abbrev pub AreBlank : SectorMap → Chip → List Component → Type 0
AreBlank map chip cs = All (λ c. IsBlank map chip c.image) cs

-- ---- what opening sessions leaves

-- A new upload for a component.
pub record IsFresh (c : Component) (upload : Upload) : Type 0 where
  pub size : upload.size ≡ c.size
  pub digest : upload.digest ≡ c.digest
  pub kind : upload.kind ≡ kind_of c.permanent
  pub received : upload.received ≡ 0
  pub held : upload.held.items ≡ []

-- The upload of an image after a manifest: a new one if a component names it.
abbrev pub OpenedAt : Option Upload → Option Upload → Option Component → Type 0
OpenedAt now before None = now ≡ before
OpenedAt now before (Some c) = (upload : Upload) × (now ≡ Some upload) × IsFresh c upload

-- Only images that are named are changed, and the request of each is as it was or gone.
pub record IsOpening (old new : View) (named : ℕ → Option Component) : Type 0 where
  pub images : new.images ≡ old.images
  pub log : new.log ≡ old.log
  pub primary : (j : ℕ) → new.slot j Primary ≡ old.slot j Primary
  pub slots : (j : ℕ) → named j ≡ None → new.slot j Secondary ≡ old.slot j Secondary
  pub trailers : (j : ℕ) → named j ≡ None → new.trailer j Secondary ≡ old.trailer j Secondary
  pub long : (j : ℕ) → length (new.slot j Secondary) ≡ length (old.slot j Secondary)
  pub either : (j : ℕ) → IsKeptOrGone old new j

-- Each named image has an erased secondary slot and trailer, and a new upload.
pub record IsOpened (old new : View) (told tnew : List (Option Upload))
    (named : ℕ → Option Component) : Type 0 where
  pub opening : IsOpening old new named
  pub empty : (j : ℕ) (c : Component) → named j ≡ Some c
      → (new.trailer j Secondary ≡ erased_fields) × IsWritten (new.slot j Secondary) []
  pub table : (j : ℕ) → OpenedAt (upload_at tnew j) (upload_at told j) (named j)
