-- What is found in a device file and a second source.
use Rattle.std.proofs.Common.{◌≡◌, List, None, Option, Some, refl, subst, ℕ}
use Rattle.device_texts.specs.declared.device.DeviceFile.{DeviceFile}
use Rattle.flash_model.specs.Chip.{Chip}
use Rattle.host.specs.Input.{FileBytes}
use Rattle.host.specs.declared.source.Source.{Source}
use Rattle.manifest.specs.declared.identity.Identity.{Identity}
use Rattle.sector_map.specs.declared.layout.SectorMap.{SectorMap}
use Rattle.set_log.specs.declared.state.State.{State}
use Rattle.set_log.specs.Log.{state_of}
use Rattle.inspecting.specs.Answers.{FindsForDevice, HoldsOfBoth}
use Rattle.inspecting.specs.FlashText.{IsFoundFor, IsFoundOn}
use Rattle.inspecting.specs.ManifestFile.{IsManifestRead}
use Rattle.inputs.specs.declared.device_input.BadMap.{BadMap}
use Rattle.inspecting.specs.declared.flash_text.FlashText.{FlashText}
use Rattle.inspecting.specs.declared.flash_text.FlashText.TheVariants as what
use Rattle.inspecting.specs.declared.inspection.Inspection.{Inspection}
use Rattle.inspecting.specs.declared.inspection.Inspection.TheVariants as found

-- What is found in both isn't that the device file makes no map.
pub FindsForDevice-both : (device second : Source) (input : Option (List ℕ)) (files : FileBytes)
    (holds : DeviceFile → List ℕ → Inspection → Type 0) (it : Inspection)
    → ((refused : BadMap) (of_device : DeviceFile) (bytes : List ℕ) → holds of_device bytes (found.RefusedMap refused) → ⊥)
    → HoldsOfBoth device second input files (λ of_device bytes. holds of_device bytes it)
    → FindsForDevice device second input files holds it
FindsForDevice-both device second input files holds (found.RefusedMap refused) never both =
    absurd (never refused both.2 both.1 both.5)
FindsForDevice-both device second input files holds it never both = both

pub IsManifestRead-no_map : (identity : Identity) (bytes : List ℕ) (refused : BadMap)
    → IsManifestRead identity bytes (found.RefusedMap refused) → ⊥
IsManifestRead-no_map identity bytes refused none = none

none-for : (asked : FlashText) (map : SectorMap) (chip : Chip) (held : Option State) (refused : BadMap)
    → IsFoundFor asked map chip held (found.RefusedMap refused) → ⊥
none-for what.State map chip None refused none = none
none-for what.State map chip (Some held) refused none = none
none-for what.Slots map chip None refused none = none
none-for what.Slots map chip (Some held) refused none = none

pub IsFoundOn-no_map : (asked : FlashText) (map : SectorMap) (chip : Chip) (refused : BadMap)
    → IsFoundOn asked map chip (found.RefusedMap refused) → ⊥
IsFoundOn-no_map asked map chip refused none = none-for asked map chip (state_of map chip) refused none
