-- A call that keeps the log keeps its state.
use Rattle.std.proofs.Common.{◌≡◌, Bool, false, ap}
use Rattle.flash_model.specs.Chip.{Chip}
use Rattle.sector_map.specs.declared.layout.SectorMap.{SectorMap}
use Rattle.sector_map.specs.Part.{Part, Log}
use Rattle.sector_map.specs.Map.{Keeps}
use Rattle.set_log.specs.Ring.{has_free_place, register}
use Rattle.set_log.specs.Log.{is_place_free, state_of, state_said}

pub state_kept : (map : SectorMap) (touched : Part → Bool) (old new : Chip) → Keeps map touched old new
    → touched Log ≡ false → state_of map new ≡ state_of map old
unfolding state_of
state_kept map touched old new keeps left =
    ap (λ log. state_said map.images (register map.sector_size log)) (keeps.parts Log left)

-- A call that keeps the log keeps whether a place is free.
pub place_kept : (map : SectorMap) (touched : Part → Bool) (old new : Chip) → Keeps map touched old new
    → touched Log ≡ false → is_place_free map new ≡ is_place_free map old
place_kept map touched old new keeps left = ap (has_free_place map.sector_size) (keeps.parts Log left)
