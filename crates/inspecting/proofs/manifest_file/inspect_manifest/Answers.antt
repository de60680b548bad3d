use Rattle.std.proofs.lemmas.Result.{IfOk-weaker}
use Rattle.host.proofs.InputLaws.{GiveBoth-read}
use Rattle.inspecting.specs.Answers.{FindsManifest}
use Rattle.inspecting.specs.ManifestFile.{IsManifestRead}
use Rattle.inspecting.proofs.DeviceFileLaws.{FindsForDevice-both, IsManifestRead-no_map}
use Rattle.inspecting.proofs.manifest_file.inspect_manifest.Goals as goal

-- Both inputs are what their sources gave, and the first is a device file.
pub returns-in_ok-text-in-Ok : goal.returns-in_ok-text-in-Ok
returns-in_ok-text-in-Ok g c =
    let read = rw c.in-Ok.is at c.in_ok-of_device.ensures.read in
    let bytes = c.in_ok-text-in-Ok.text.items in
    let device = c.in-Ok.of_device in
    IfOk-weaker c.manifest_in.result (λ found. IsManifestRead device.identity bytes found)
    (λ found. FindsManifest c.args.device c.args.file (g.H.Host.input c.args.host.now) (g.H.Host.file c.args.host.now) found)
    (λ found is. FindsForDevice-both _ _ _ _ (λ of_device all it. IsManifestRead of_device.identity all it) found
    (λ refused of_device all. IsManifestRead-no_map of_device.identity all refused) (
      read.0,
      bytes,
      device,
      GiveBoth-read _ _ _ _ _ _ _ _ read.1 c.in_ok-of_device.ensures.others c.in_ok-text-in-Ok.ensures.bytes,
      read.2,
      is,
    ))
    c.manifest_in.ensures.read
