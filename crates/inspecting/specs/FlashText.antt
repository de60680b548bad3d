-- What `show` and `slots` find on a flash.
use Rattle.std.specs.Prelude.{◌≡◌, Option, None, Some}
use Rattle.flash_model.specs.Chip.{Chip}
use Rattle.sector_map.specs.declared.layout.SectorMap.{SectorMap}
use Rattle.set_log.specs.declared.state.State.{State}
use Rattle.set_log.specs.Log.{state_of}
use Rattle.inspecting.specs.FlashState.{IsFlashState}
use Rattle.inspecting.specs.SlotsFound.{AreFound}
use Rattle.inspecting.specs.declared.flash_text.FlashText.{FlashText}
use Rattle.inspecting.specs.declared.flash_text.FlashText.TheVariants as what
use Rattle.inspecting.specs.declared.inspection.Inspection.{Inspection}
use Rattle.inspecting.specs.declared.inspection.Inspection.TheVariants as found

-- What is found on a flash whose log has this state, or none.
abbrev pub IsFoundFor : FlashText → SectorMap → Chip → Option State → Inspection → Type 0
IsFoundFor asked map chip None found.NoState = Unit {0}
IsFoundFor what.State map chip (Some held) (found.State state) = IsFlashState map chip held state
IsFoundFor what.Slots map chip (Some held) (found.Slots state slots) =
    IsFlashState map chip held state × AreFound map chip held slots
IsFoundFor asked map chip held it = ⊥

-- What is found on a flash.
abbrev pub IsFoundOn : FlashText → SectorMap → Chip → Inspection → Type 0
IsFoundOn asked map chip it = IsFoundFor asked map chip (state_of map chip) it
