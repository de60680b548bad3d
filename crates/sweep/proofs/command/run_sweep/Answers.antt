use Rattle.std.proofs.Common.{[], refl, subst}
use Rattle.std.proofs.lemmas.Result.{IfOk-weaker}
use Rattle.inputs.specs.Loading.{came_in}
use Rattle.inputs.specs.Script.{IsScript}
use Rattle.device_texts.proofs.DeviceLaws.{IsOfFile-read}
use Rattle.host.proofs.InputLaws.{KeepsFiles-twice}
use Rattle.sweep.specs.SweepEnd.{IsNamedBy, IsNamedIn, KeepsRead}
use Rattle.sweep.proofs.SweepEndLaws.{FindsSweep-read, inputs_kept, inputs_later}
use Rattle.sweep.proofs.command.run_sweep.Goals as goal

-- The device is one of a device file.
pub sweep_images-requires : goal.sweep_images-requires
sweep_images-requires g c =
    let read = rw c.in-Ok.is at c.in_ok-device.ensures.read in
    record { device = IsOfFile-read read.0 c.in-Ok.device read.2 }

-- The device file and the script were read in turn.
pub returns-clause-finds : goal.returns-clause-finds
returns-clause-finds g c =
    let read = rw c.in-Ok.is at c.in_ok-device.ensures.read in
    let came = came_in c.in-Ok-load.events.items in
    IfOk-weaker c.sweep_images.result _ _
    (λ it ran. FindsSweep-read it c.args.order.device c.args.order.script _ _ _ _ _ _
    c.in_ok-text.text.items came c.in-Ok.device read c.in_ok-device.ensures.others
    c.in_ok-text.ensures.bytes c.in_ok-text.ensures.others
    (λ known stays. subst (λ text. IsScript text known [] came) c.deref.ensures.value (c.in-Ok-load.ensures.script known stays))
    ran)
    c.sweep_images.ensures.ran

-- The sizes of the device file make no map.
pub returns-in-Err-clause-finds : goal.returns-in-Err-clause-finds
returns-in-Err-clause-finds g c = (c.in-Err.bad, rw c.in-Err.is at c.in_ok-device.ensures.read, refl)

-- Nothing was written yet, so the inputs are kept.
pub returns-in_err-device-clause-inputs : goal.returns-in_err-device-clause-inputs
returns-in_err-device-clause-inputs g c = inputs_kept c.args.order.device c.args.order.script c.args.order.images.now
    (IsNamedIn c.args.order.script (g.H.Host.file c.args.host.now)) c.args.order.choices.picture _ _ c.in_err-device.ensures.files

pub returns-in-Err-clause-inputs : goal.returns-in-Err-clause-inputs
returns-in-Err-clause-inputs g c = inputs_kept c.args.order.device c.args.order.script c.args.order.images.now
    (IsNamedIn c.args.order.script (g.H.Host.file c.args.host.now)) c.args.order.choices.picture _ _ c.in_ok-device.ensures.files

pub returns-in_err-text-clause-inputs : goal.returns-in_err-text-clause-inputs
returns-in_err-text-clause-inputs g c = inputs_kept c.args.order.device c.args.order.script c.args.order.images.now
    (IsNamedIn c.args.order.script (g.H.Host.file c.args.host.now)) c.args.order.choices.picture _ _ (KeepsFiles-twice _ _ _ c.in_ok-device.ensures.files c.in_err-text.ensures.files)

pub returns-in-Err-load-clause-inputs : goal.returns-in-Err-load-clause-inputs
returns-in-Err-load-clause-inputs g c = inputs_kept c.args.order.device c.args.order.script c.args.order.images.now
    (IsNamedIn c.args.order.script (g.H.Host.file c.args.host.now)) c.args.order.choices.picture _ _ (KeepsFiles-twice _ _ _ c.in_ok-device.ensures.files
    (KeepsFiles-twice _ _ _ c.in_ok-text.ensures.files c.in-Err-load.ensures.files))

-- The inputs are kept to the end.
pub returns-clause-inputs : goal.returns-clause-inputs
returns-clause-inputs g c = inputs_later c.args.order.device c.args.order.script c.args.order.images.now c.in_ok-text.text.items
    c.args.order.choices.picture _ _ _ _ _ c.in_ok-device.ensures.files c.in_ok-text.ensures.bytes
    (KeepsFiles-twice _ _ _ c.in_ok-device.ensures.files
    (KeepsFiles-twice _ _ _ c.in_ok-text.ensures.files c.in-Ok-load.ensures.files))
    (subst (λ text. KeepsRead c.args.order.device c.args.order.script c.args.order.images.now (IsNamedBy text)
    c.args.order.choices.picture (g.H.Host.file c.load.new.host) (g.H.Host.file c.sweep_images.new.host))
    c.deref-2.ensures.value c.sweep_images.ensures.inputs)
