use Rattle.host.proofs.InputLaws.{GiveBoth-read, KeepsFiles-twice}
use Rattle.inspecting.proofs.device_flash.read_device_flash.Goals as goal

-- Both inputs are what their sources gave, and the first is a device file.
pub returns-clause-read : goal.returns-clause-read
returns-clause-read g c =
    let read = rw c.in-Ok.is at c.in_ok-device.ensures.read in (
      read.0,
      GiveBoth-read _ _ _ _ _ _ _ _ read.1 c.in_ok-device.ensures.others c.in_ok-bytes.ensures.bytes,
      read.2,
      c.in_ok-bytes.ensures.whole,
    )

-- No file changed.
pub returns-clause-files : goal.returns-clause-files
returns-clause-files g c = KeepsFiles-twice _ _ _ c.in_ok-device.ensures.files c.in_ok-bytes.ensures.files

pub returns-in_err-bytes-clause-files : goal.returns-in_err-bytes-clause-files
returns-in_err-bytes-clause-files g c =
    KeepsFiles-twice _ _ _ c.in_ok-device.ensures.files c.in_err-bytes.ensures.files
