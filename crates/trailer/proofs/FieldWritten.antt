-- Lemmas about calls that write a field by writing its units.
use Rattle.std.proofs.Common.{◌≡◌, ℕ, ◌≤◌, arith, List, Result, length, refl}
use Rattle.std.proofs.lemmas.Result.{on_ok_weaker}
use Rattle.flash_model.specs.declared.error.FlashError.{FlashError}
use Rattle.flash_model.specs.Chip.{Chip}
use Rattle.sector_map.specs.declared.layout.SectorMap.{SectorMap}
use Rattle.sector_map.specs.declared.layout.Side.{Side}
use Rattle.sector_map.specs.Map.{HasImage}
use Rattle.trailer.specs.Fields.{Fields, bytes_at, fields_at, flag, good_magic}
use Rattle.trailer.specs.Places.{image_ok_place, magic_place, withdrawn_place}
use Rattle.trailer.specs.Writes.{SetsImageOk, SetsWithdrawn, WritesField, WritesMagic, WritesUnits}
use Rattle.trailer.proofs.FieldUnits.{good_of_bytes, image_ok_of_flag, withdrawn_of_flag}
use Rattle.trailer.proofs.OwnFields.{own_image_ok, own_magic, own_withdrawn}
use Rattle.trailer.proofs.Places.{units_alone}

module _ {T : Type 0} (map : SectorMap) (image : ℕ) (side : Side) (old new : Chip) (result : Result T FlashError)
    (has : HasImage map image old)
  where
    field_written : (from_end : ℕ) (units : List ℕ) (is_said : Fields → Type 0)
        (joined : Fields → Fields → Fields) → WritesUnits map image side from_end units old new result
        → length units ≤ from_end → from_end ≤ 56
        → fields_at map new image side ≡ joined (fields_at map old image side) (fields_at map new image side)
        → (bytes_at map new image side from_end (length units) ≡ units → is_said (fields_at map new image side))
        → WritesField map image side from_end units is_said joined old new result
    field_written from_end units is_said joined written room within own says = record {
      outside = units_alone map old new image _ from_end _ side written.outside has.laid_out has.there refl room within;
      unit = written.outside;
      own = own;
      ok = on_ok_weaker result says written.ok;
      bytes = written.ok;
      erases = written.erases;
      journal = written.journal;
      off = written.off;
      ends = written.ends;
    }

    pub sets_image_ok : WritesUnits map image side image_ok_place flag old new result
        → SetsImageOk map image side old new result
    sets_image_ok written = field_written _ _ _ _ written (omega arith) (omega arith)
        (own_image_ok map old new image _ side has.laid_out.is_map has.there written.outside refl)
        (image_ok_of_flag map new image side)

    pub sets_withdrawn : WritesUnits map image side withdrawn_place flag old new result
        → SetsWithdrawn map image side old new result
    sets_withdrawn written = field_written _ _ _ _ written (omega arith) (omega arith)
        (own_withdrawn map old new image _ side has.laid_out.is_map has.there written.outside refl)
        (withdrawn_of_flag map new image side)

    pub writes_magic : WritesUnits map image side magic_place good_magic old new result
        → WritesMagic map image side old new result
    writes_magic written = field_written _ _ _ _ written (omega arith) (omega arith)
        (own_magic map old new image _ side has.laid_out.is_map has.there written.outside refl)
        (good_of_bytes map new image side)
