use Rattle.std.proofs.lemmas.Result.{IfOk-weaker}
use Rattle.device_commands.proofs.EndLaws.{AnswersProvision-read, KeepsFiles-told}
use Rattle.device_commands.proofs.OtherFiles.{KeepsWords-apart, KeepsWords-kept}
use Rattle.host.proofs.InputLaws.{KeepsFiles-twice, KeepsSource-apart, KeepsSource-kept}
use Rattle.device_commands.proofs.provision.run_provision.Goals as goal

-- The device file and the images were read in turn, and the result for their flash was written.
pub returns-clause-answers : goal.returns-clause-answers
returns-clause-answers g c =
    let read = rw c.in-Some.is at c.in_ok-device.ensures.read in
    IfOk-weaker c.write_outcome.result _ _
    (λ answer answered. AnswersProvision-read answer c.args.flash c.args.device _ _ _ _ _ _ _ _ _ _ c.in-Some.device
    c.in_ok-bytes.bytes.items c.in_ok-made.field-0 read.0 c.in_ok-device.ensures.others
    c.in_ok-bytes.ensures.read (KeepsFiles-twice _ _ _ (KeepsFiles-twice _ _ _ c.in_ok-device.ensures.files c.in_ok-bytes.ensures.kept)
    c.hold_output-held.ensures.files)
    c.in_ok-made.ensures.made read.1 answered)
    c.write_outcome.ensures.written

-- If the file of the flash wasn't replaced, all files were kept.
pub returns-in_err-bytes-clause-kept : goal.returns-in_err-bytes-clause-kept
returns-in_err-bytes-clause-kept g c = λ ends. (KeepsFiles-twice _ _ _ c.in_ok-device.ensures.files c.in_err-bytes.ensures.kept)

pub returns-in_err-refuse_inputs-clause-kept : goal.returns-in_err-refuse_inputs-clause-kept
returns-in_err-refuse_inputs-clause-kept g c = λ ends. (KeepsFiles-twice _ _ _ (KeepsFiles-twice _ _ _ c.in_ok-device.ensures.files c.in_ok-bytes.ensures.kept)
    c.hold_output-held.ensures.files)

pub returns-in_err-made-clause-kept : goal.returns-in_err-made-clause-kept
returns-in_err-made-clause-kept g c = λ ends.
    KeepsFiles-twice _ _ _ (KeepsFiles-twice _ _ _ (KeepsFiles-twice _ _ _ c.in_ok-device.ensures.files c.in_ok-bytes.ensures.kept)
    c.hold_output-held.ensures.files) c.in_err-made.ensures.failed

pub returns-clause-kept : goal.returns-clause-kept
returns-clause-kept g c = λ ends.
    KeepsFiles-twice _ _ _ (KeepsFiles-twice _ _ _ (KeepsFiles-twice _ _ _ c.in_ok-device.ensures.files c.in_ok-bytes.ensures.kept)
    c.hold_output-held.ensures.files)
    (KeepsFiles-told c.write_outcome.result c.in_ok-made.field-0 _ _ _ _ c.write_outcome.ensures.written
    c.write_outcome.ensures.late c.in_ok-made.ensures.refused ends)

-- If nothing was written, the inputs are kept.
pub returns-in_err-device-clause-device : goal.returns-in_err-device-clause-device
returns-in_err-device-clause-device g c = KeepsSource-kept c.args.device _ _ c.in_err-device.ensures.files

pub returns-in_err-device-clause-images : goal.returns-in_err-device-clause-images
returns-in_err-device-clause-images g c = KeepsWords-kept c.args.images.now _ _ c.in_err-device.ensures.files

pub returns-in_default-clause-device : goal.returns-in_default-clause-device
returns-in_default-clause-device g c = KeepsSource-kept c.args.device _ _ c.in_ok-device.ensures.files

pub returns-in_default-clause-images : goal.returns-in_default-clause-images
returns-in_default-clause-images g c = KeepsWords-kept c.args.images.now _ _ c.in_ok-device.ensures.files

pub returns-in_err-bytes-clause-device : goal.returns-in_err-bytes-clause-device
returns-in_err-bytes-clause-device g c = KeepsSource-kept c.args.device _ _ (KeepsFiles-twice _ _ _ c.in_ok-device.ensures.files c.in_err-bytes.ensures.kept)

pub returns-in_err-bytes-clause-images : goal.returns-in_err-bytes-clause-images
returns-in_err-bytes-clause-images g c = KeepsWords-kept c.args.images.now _ _ (KeepsFiles-twice _ _ _ c.in_ok-device.ensures.files c.in_err-bytes.ensures.kept)

pub returns-in_err-refuse_inputs-clause-device : goal.returns-in_err-refuse_inputs-clause-device
returns-in_err-refuse_inputs-clause-device g c = KeepsSource-kept c.args.device _ _ (KeepsFiles-twice _ _ _ (KeepsFiles-twice _ _ _ c.in_ok-device.ensures.files c.in_ok-bytes.ensures.kept)
    c.hold_output-held.ensures.files)

pub returns-in_err-refuse_inputs-clause-images : goal.returns-in_err-refuse_inputs-clause-images
returns-in_err-refuse_inputs-clause-images g c = KeepsWords-kept c.args.images.now _ _ (KeepsFiles-twice _ _ _ (KeepsFiles-twice _ _ _ c.in_ok-device.ensures.files c.in_ok-bytes.ensures.kept)
    c.hold_output-held.ensures.files)

-- If a file apart from the inputs was replaced, the inputs are kept.
pub returns-in_err-made-clause-device : goal.returns-in_err-made-clause-device
returns-in_err-made-clause-device g c = KeepsSource-apart c.args.device c.args.flash.name.now (g.H.Host.apart c.hold_output-held.new.self) _ _ _
    (KeepsFiles-twice _ _ _ (KeepsFiles-twice _ _ _ c.in_ok-device.ensures.files c.in_ok-bytes.ensures.kept)
    c.hold_output-held.ensures.files)
    c.in_ok-refuse_inputs.ensures.device c.in_err-made.ensures.others

pub returns-in_err-made-clause-images : goal.returns-in_err-made-clause-images
returns-in_err-made-clause-images g c = KeepsWords-apart c.args.images.now _ _ _ _ (KeepsFiles-twice _ _ _ (KeepsFiles-twice _ _ _ c.in_ok-device.ensures.files c.in_ok-bytes.ensures.kept)
    c.hold_output-held.ensures.files)
    c.in_ok-refuse_inputs.ensures.images c.in_err-made.ensures.others

pub returns-clause-device : goal.returns-clause-device
returns-clause-device g c = KeepsSource-apart c.args.device c.args.flash.name.now (g.H.Host.apart c.hold_output-held.new.self) _ _ _
    (KeepsFiles-twice _ _ _ (KeepsFiles-twice _ _ _ c.in_ok-device.ensures.files c.in_ok-bytes.ensures.kept)
    c.hold_output-held.ensures.files)
    c.in_ok-refuse_inputs.ensures.device c.in_ok-made.ensures.others

pub returns-clause-images : goal.returns-clause-images
returns-clause-images g c = KeepsWords-apart c.args.images.now _ _ _ _ (KeepsFiles-twice _ _ _ (KeepsFiles-twice _ _ _ c.in_ok-device.ensures.files c.in_ok-bytes.ensures.kept)
    c.hold_output-held.ensures.files)
    c.in_ok-refuse_inputs.ensures.images c.in_ok-made.ensures.others
