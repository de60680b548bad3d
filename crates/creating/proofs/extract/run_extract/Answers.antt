use Rattle.std.proofs.Common.{arith}
use Rattle.std.proofs.lemmas.Result.{IfOk-weaker}
use Rattle.host.proofs.InputLaws.{KeepsFiles-twice}
use Rattle.creating.proofs.CopyLaws.{both_apart, both_kept, copied_image, copied_replaces, copied_told}
use Rattle.creating.proofs.extract.run_extract.Goals as goal

-- The device file and the flash were read, and the result of copying was written.
pub returns-clause-answers : goal.returns-clause-answers
returns-clause-answers g c =
    let read = rw c.in-Some.is at c.in_ok-of_device.ensures.read in
    IfOk-weaker c.tell_copied.result _ _
    (λ answer told. copied_image answer c.args.device c.args.flash c.args.copying.image c.args.copying.side _ _ _ _ _ _ _ _
    c.in-Some.of_device c.in_ok-bytes.bytes.items c.in_ok-copied.copied read.0 read.1 c.in_ok-of_device.ensures.others
    c.in_ok-bytes.ensures.bytes c.in_ok-bytes.ensures.whole (omega (arith, c.if-copying-map.false))
    c.in_ok-copied.ensures.copied told)
    c.tell_copied.ensures.told

-- The file could be replaced when it was, and it held the same before.
pub returns-clause-replaces : goal.returns-clause-replaces
returns-clause-replaces g c =
    IfOk-weaker c.tell_copied.result _ _
    (λ answer told. copied_replaces answer c.in_ok-copied.copied c.args.copying.out _ _ _ _
    (KeepsFiles-twice _ _ _ (KeepsFiles-twice _ _ _ c.in_ok-of_device.ensures.files c.in_ok-bytes.ensures.files)
    c.hold_output-held.ensures.files)
    c.in_ok-copied.ensures.replaces told)
    c.tell_copied.ensures.told

-- No image was copied, whether the flash was read or not.
pub returns-in_err-bytes-clause-kept : goal.returns-in_err-bytes-clause-kept
returns-in_err-bytes-clause-kept g c = λ ends.
    KeepsFiles-twice _ _ _ c.in_ok-of_device.ensures.files c.in_err-bytes.ensures.files

pub returns-in_err-refuse_input-clause-kept : goal.returns-in_err-refuse_input-clause-kept
returns-in_err-refuse_input-clause-kept g c = λ ends.
    KeepsFiles-twice _ _ _ (KeepsFiles-twice _ _ _ c.in_ok-of_device.ensures.files c.in_ok-bytes.ensures.files)
    c.hold_output-held.ensures.files

pub returns-in_err-refuse_input-2-clause-kept : goal.returns-in_err-refuse_input-2-clause-kept
returns-in_err-refuse_input-2-clause-kept g c = λ ends.
    KeepsFiles-twice _ _ _ (KeepsFiles-twice _ _ _ c.in_ok-of_device.ensures.files c.in_ok-bytes.ensures.files)
    c.hold_output-held.ensures.files

-- The image was refused, or its file could not be replaced.
pub returns-in_err-copied-clause-kept : goal.returns-in_err-copied-clause-kept
returns-in_err-copied-clause-kept g c = λ ends.
    KeepsFiles-twice _ _ _ c.in_ok-of_device.ensures.files
    (KeepsFiles-twice _ _ _ (KeepsFiles-twice _ _ _ c.in_ok-bytes.ensures.files c.hold_output-held.ensures.files) c.in_err-copied.ensures.failed)

pub returns-clause-kept : goal.returns-clause-kept
returns-clause-kept g c = λ ends.
    KeepsFiles-twice _ _ _ c.in_ok-of_device.ensures.files
    (KeepsFiles-twice _ _ _ (KeepsFiles-twice _ _ _ c.in_ok-bytes.ensures.files c.hold_output-held.ensures.files)
    (copied_told c.tell_copied.result c.in_ok-copied.copied _ _ _ _ c.tell_copied.ensures.told c.tell_copied.ensures.late
    c.in_ok-copied.ensures.refused ends))

-- Nothing was written yet, so the inputs are kept.
pub returns-in_err-of_device-clause-inputs : goal.returns-in_err-of_device-clause-inputs
returns-in_err-of_device-clause-inputs g c = both_kept c.args.device c.args.flash _ _ c.in_err-of_device.ensures.files

pub returns-in_default-clause-inputs : goal.returns-in_default-clause-inputs
returns-in_default-clause-inputs g c = both_kept c.args.device c.args.flash _ _ c.in_ok-of_device.ensures.files

pub returns-then-copying-map-clause-inputs : goal.returns-then-copying-map-clause-inputs
returns-then-copying-map-clause-inputs g c = both_kept c.args.device c.args.flash _ _ c.in_ok-of_device.ensures.files

pub returns-in_err-bytes-clause-inputs : goal.returns-in_err-bytes-clause-inputs
returns-in_err-bytes-clause-inputs g c = both_kept c.args.device c.args.flash _ _
    (KeepsFiles-twice _ _ _ c.in_ok-of_device.ensures.files c.in_err-bytes.ensures.files)

pub returns-in_err-refuse_input-clause-inputs : goal.returns-in_err-refuse_input-clause-inputs
returns-in_err-refuse_input-clause-inputs g c = both_kept c.args.device c.args.flash _ _
    (KeepsFiles-twice _ _ _ (KeepsFiles-twice _ _ _ c.in_ok-of_device.ensures.files c.in_ok-bytes.ensures.files)
    c.hold_output-held.ensures.files)

pub returns-in_err-refuse_input-2-clause-inputs : goal.returns-in_err-refuse_input-2-clause-inputs
returns-in_err-refuse_input-2-clause-inputs g c = both_kept c.args.device c.args.flash _ _
    (KeepsFiles-twice _ _ _ (KeepsFiles-twice _ _ _ c.in_ok-of_device.ensures.files c.in_ok-bytes.ensures.files)
    c.hold_output-held.ensures.files)

-- A file apart from the inputs was replaced, so the inputs are kept.
pub returns-in_err-copied-clause-inputs : goal.returns-in_err-copied-clause-inputs
returns-in_err-copied-clause-inputs g c = both_apart c.args.device c.args.flash c.args.copying.out.name.now
    (g.H.Host.apart c.hold_output-held.new.self) _ _ _
    (KeepsFiles-twice _ _ _ (KeepsFiles-twice _ _ _ c.in_ok-of_device.ensures.files c.in_ok-bytes.ensures.files)
    c.hold_output-held.ensures.files)
    c.in_ok-refuse_input.ensures c.in_ok-refuse_input-2.ensures c.in_err-copied.ensures.others

pub returns-clause-inputs : goal.returns-clause-inputs
returns-clause-inputs g c = both_apart c.args.device c.args.flash c.args.copying.out.name.now
    (g.H.Host.apart c.hold_output-held.new.self) _ _ _
    (KeepsFiles-twice _ _ _ (KeepsFiles-twice _ _ _ c.in_ok-of_device.ensures.files c.in_ok-bytes.ensures.files)
    c.hold_output-held.ensures.files)
    c.in_ok-refuse_input.ensures c.in_ok-refuse_input-2.ensures c.in_ok-copied.ensures.others
