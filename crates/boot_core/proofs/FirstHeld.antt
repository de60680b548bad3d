-- A device that is made over a provisioned flash holds its first state.
use Rattle.std.proofs.Common.{subst, sym}
use Rattle.flash_model.specs.Chip.{Chip}
use Rattle.sector_map.specs.declared.layout.SectorMap.{SectorMap}
use Rattle.flash_contents.specs.Holding.{Holds, Rests, Stands}
use Rattle.machine.specs.States.{asleep}
use Rattle.boot_core.specs.Device.{seen}
use Rattle.boot_core.specs.FirstState.{HoldsFirst}
use Rattle.boot_core.specs.Provisioned.{IsProvisioned}
use Rattle.boot_core.proofs.Stopping.{holds_down}

pub first_held : (map : SectorMap) (old new : Chip) → IsProvisioned map old new → HoldsFirst map old new
first_held map old new made = (
  made.0,
  made.1,
  made.4,
  λ device just.
      let here : Stands map device.flash made.0 = subst (λ chip. Stands map chip made.0) (sym just.flash) (Rests made.2) in
      subst (λ up. Holds map (seen device.flash device.sessions up) (asleep made.0)) (sym just.down)
      (holds_down map device.flash device.sessions made.0 just.closed here),
)
