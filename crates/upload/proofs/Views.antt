-- What the layers above see of a flash after a call that keeps some of its parts.
use Rattle.std.proofs.Common.{◌≡◌, ℕ, Bool, length, refl, sym, ◌∙◌, ap, subst}
use Rattle.flash_model.specs.Chip.{Chip}
use Rattle.sector_map.specs.declared.layout.SectorMap.{SectorMap}
use Rattle.sector_map.specs.declared.layout.Side.{Side}
use Rattle.sector_map.specs.declared.layout.Side.TheVariants.{Secondary}
use Rattle.sector_map.specs.Part.{Part, Slot, TrailerOf, Scratch, Log, incoming_of, only}
use Rattle.sector_map.specs.Map.{IsLaidOut, Keeps, part_of, slot_sectors}
use Rattle.sector_map.proofs.Parts.{keeps_trans, keeps_wider, laid_out_kept}
use Rattle.sector_map.proofs.Touched.{slot_of_incoming, trailer_of_incoming}
use Rattle.sector_map.proofs.PartBytes.{length_part}
use Rattle.trailer.specs.Fields.{fields_at, fields_in}
use Rattle.set_log.specs.Log.{state_of, state_said}
use Rattle.set_log.specs.Ring.{register}
use Rattle.upload.specs.View.{View, KeepsView, view}

-- Parts that are kept read as before.
pub view_kept : (map : SectorMap) (touched : Part → Bool) (old new : Chip) → Keeps map touched old new
    → KeepsView touched (view map old) (view map new)
unfolding fields_at state_of
view_kept map touched old new keeps = record {
  images = refl;
  sectors = refl;
  slots = λ image side e. keeps.parts (Slot image side) e;
  trailers = λ image side e.
      ap (λ bytes. fields_in (slot_sectors map image) map.sector_size bytes) (keeps.parts (TrailerOf image side) e);
  scratch = λ e. keeps.parts Scratch e;
  log = λ e. ap (λ bytes. state_said map.images (register map.sector_size bytes)) (keeps.parts Log e);
}

pub view_refl : (touched : Part → Bool) (w : View) → KeepsView touched w w
view_refl touched w = record {
  images = refl;
  sectors = refl;
  slots = λ image side e. refl;
  trailers = λ image side e. refl;
  scratch = λ e. refl;
  log = λ e. refl;
}

-- Each part keeps its length.
pub long_kept : (map : SectorMap) (touched : Part → Bool) (old new : Chip) (part : Part) → IsLaidOut map old
    → Keeps map touched old new → length (part_of map new part) ≡ length (part_of map old part)
long_kept map touched old new part laid keeps =
    length_part map new part (laid_out_kept map touched old new laid keeps) ∙ sym (length_part map old part laid)

-- Each slot keeps its length.
pub view_long : (map : SectorMap) (touched : Part → Bool) (old new : Chip) (image : ℕ) (side : Side)
    → IsLaidOut map old
    → Keeps map touched old new → length ((view map new).slot image side) ≡ length ((view map old).slot image side)
view_long map touched old new image side laid keeps = long_kept map touched old new (Slot image side) laid keeps

-- A write to the slot, then one to its trailer.
pub slot_then_trailer : (map : SectorMap) (image : ℕ) (old mid read new : Chip)
    → Keeps map (only (Slot image Secondary)) old mid → read ≡ mid
    → Keeps map (only (TrailerOf image Secondary)) read new → Keeps map (incoming_of image) old new
slot_then_trailer map image old mid read new first same second =
    keeps_trans map (incoming_of image) old mid new
    (keeps_wider map (only (Slot image Secondary)) (incoming_of image) old mid (slot_of_incoming image) first)
    (subst (λ chip. Keeps map (incoming_of image) chip new) same
    (keeps_wider map (only (TrailerOf image Secondary)) (incoming_of image) read new
    (trailer_of_incoming image) second))
