use Rattle.device_texts.specs.FlashOf.{IsFlashOf, flash_of}
use Rattle.inspecting.specs.FlashText.{IsFoundOn}
use Rattle.inspecting.proofs.DeviceFileLaws.{FindsForDevice-both, IsFoundOn-no_map}
use Rattle.inspecting.proofs.flash_text.inspect_flash.Goals as goal

-- Both inputs are what their sources gave, and the first is a device file.
pub returns-in-Ok-found_on-clause-found : goal.returns-in-Ok-found_on-clause-found
returns-in-Ok-found_on-clause-found g c =
    let what = c.args.what in
    let both = rw c.in-Ok.is at c.in_ok-read.ensures.read in
    let read = c.in-Ok.read in
    FindsForDevice-both _ _ _ _
    (λ device bytes it. IsFlashOf device.map bytes × IsFoundOn what device.map (flash_of device.map bytes) it)
    c.in-Ok-found_on.found
    (λ refused device bytes held. IsFoundOn-no_map what device.map (flash_of device.map bytes) refused held.1)
    (both.0, read.bytes.items, read.device, both.1, both.2, (both.3, c.in-Ok-found_on.ensures))
