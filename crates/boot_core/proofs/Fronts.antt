-- If the flash was only read, its primary slots begin with the running images.
use Rattle.std.proofs.Common.{◌≡◌, ℕ, ◌<◌, sym, subst}
use Rattle.flash_model.specs.Chip.{Chip}
use Rattle.sector_map.specs.declared.layout.SectorMap.{SectorMap}
use Rattle.sector_map.specs.declared.layout.Side.TheVariants.{Primary}
use Rattle.upload.specs.View.{view}
use Rattle.machine.specs.Device.{DeviceState}
use Rattle.upload.specs.Steady.{IsFront}
use Rattle.flash_contents.specs.Reading.{RunsAt}

pub running_front : (map : SectorMap) (old new : Chip) (s : DeviceState) (i : ℕ) → new ≡ old
    → RunsAt (view map old) s → i < map.images → IsFront ((view map new).slot i Primary) (s.running i)
running_front map old new s i same runs lt =
    subst (λ chip. IsFront ((view map chip).slot i Primary) (s.running i)) (sym same)
    (runs.each i (subst (λ n. i < n) runs.images lt))
