use Rattle.std.proofs.Common.{inl, inr, refl, subst, sym}
use Rattle.std.proofs.lemmas.Option.{IfSome_then}
use Rattle.std.proofs.lemmas.Result.{IfOk-weaker}
use Rattle.common.proofs.Results.{IfErr-passed}
use Rattle.inputs.proofs.ScriptFaultLaws.{IfErr-unnamed, OnScriptLine-none}
use Rattle.device_texts.proofs.DeviceLaws.{IsOfFile-read}
use Rattle.host.specs.declared.source.Source.TheVariants as source
use Rattle.device_commands.specs.RunEnd.{AnswersRun}
use Rattle.device_commands.proofs.EndLaws.{AnswersRun-read, BlamesRun-read, BreaksRun-read}
use Rattle.device_commands.proofs.TellingLaws.{OnErr-any, OnErr-then}
use Rattle.device_commands.proofs.run.run_device.Goals as goal

-- The device is one of a device file.
pub run_script-requires-clause-device : goal.run_script-requires-clause-device
run_script-requires-clause-device g c =
    let read = rw c.in-Ok.is at c.in_ok-device.ensures.read in
    IsOfFile-read read.0 c.in-Ok.device read.2

-- The device file has no map, and the line was written that says so.
pub returns-in-Err-clause-answers : goal.returns-in-Err-clause-answers
returns-in-Err-clause-answers g c =
    let read = rw c.in-Err.is at c.in_ok-device.ensures.read in
    IfOk-weaker c.write_no_map.result _ _ (λ answer written. subst (λ one.
    AnswersRun c.args.options.form c.args.options.is_strict one c.args.files.device
    (source.File c.args.files.flash) c.args.files.script (g.H.Host.input c.args.host.now)
    (g.H.Host.file c.args.host.now) (g.O.Write.contents c.args.out.now)
    (g.O.Write.contents c.write_no_map.new.out)) (sym written.0) (inr (c.in-Err.bad, read, written.1)))
    c.write_no_map.ensures.told

-- All three inputs were read in turn, and the script was run.
pub returns-in-Ok-run_script-clause-answers : goal.returns-in-Ok-run_script-clause-answers
returns-in-Ok-run_script-clause-answers g c =
    let read = rw c.in-Ok.is at c.in_ok-device.ensures.read in
    let runs = rw c.deref.ensures.value at c.in-Ok-run_script.ensures.runs in
    AnswersRun-read c.args.options.form c.args.options.is_strict c.in-Ok-run_script.answer c.args.files.device
    c.args.files.flash c.args.files.script _ _ _ _ _ _ _ _ _ _ c.in_ok-bytes.bytes.items c.in_ok-text.text.items runs.cuts
    runs.came c.in-Ok.device read c.in_ok-device.ensures.others c.in_ok-bytes.ensures.bytes c.in_ok-bytes.ensures.others
    c.in_ok-text.ensures.bytes c.in_ok-text.ensures.others runs.says c.in_ok-bytes.ensures.whole runs.plays

-- Nothing was written before an input was read.
pub returns-in_err-device-clause-begun : goal.returns-in_err-device-clause-begun
returns-in_err-device-clause-begun g c = OnErr-any _ (inl refl)

pub returns-in_err-bytes-clause-begun : goal.returns-in_err-bytes-clause-begun
returns-in_err-bytes-clause-begun g c = OnErr-any _ (inl refl)

pub returns-in_err-text-clause-begun : goal.returns-in_err-text-clause-begun
returns-in_err-text-clause-begun g c = OnErr-any _ (inl refl)

-- The device file has no map, and the line that says so was written in part.
pub returns-in-Err-clause-begun : goal.returns-in-Err-clause-begun
returns-in-Err-clause-begun g c =
    let read = rw c.in-Err.is at c.in_ok-device.ensures.read in
    OnErr-then c.write_no_map.result (λ begun. inr (inr (c.in-Err.bad, read, begun.0, begun.1))) c.write_no_map.ensures.begun

-- All three inputs were read in turn, and the run of the script ended with an error.
pub returns-in-Err-run_script-clause-begun : goal.returns-in-Err-run_script-clause-begun
returns-in-Err-run_script-clause-begun g c =
    let read = rw c.in-Ok.is at c.in_ok-device.ensures.read in
    let begun = rw c.deref.ensures.value at c.in-Err-run_script.ensures.begun in
    BreaksRun-read c.args.options.form c.args.files.device c.args.files.flash c.args.files.script _ _ _ _ _ _ _ _ _ _
    c.in_ok-bytes.bytes.items c.in_ok-text.text.items c.in-Ok.device read c.in_ok-device.ensures.others
    c.in_ok-bytes.ensures.bytes c.in_ok-bytes.ensures.others c.in_ok-text.ensures.bytes c.in_ok-text.ensures.others
    c.in_ok-bytes.ensures.whole begun

-- The device file or the flash could not be read, which is no fault of a line.
pub returns-in_err-device-clause-wrong : goal.returns-in_err-device-clause-wrong
returns-in_err-device-clause-wrong g c =
    IfErr-passed _ _ _ c.from_residual.ensures.1 (OnScriptLine-none _ _ c.in_err-device.ensures.unnamed)

pub returns-in_err-bytes-clause-wrong : goal.returns-in_err-bytes-clause-wrong
returns-in_err-bytes-clause-wrong g c =
    IfErr-passed _ _ _ c.from_residual-in_err-bytes.ensures.1 (OnScriptLine-none _ _ c.in_err-bytes.ensures.unnamed)

-- The script is too long, or it could not be read.
pub returns-in_err-text-clause-wrong : goal.returns-in_err-text-clause-wrong
returns-in_err-text-clause-wrong g c =
    IfErr-passed _ _ _ c.from_residual-in_err-text.ensures.1
    (IfSome_then _ c.in_err-text.ensures.wrong (λ bad is. inl is))

-- The device file has no map, and the line that says so could not be written.
pub returns-in-Err-clause-wrong : goal.returns-in-Err-clause-wrong
returns-in-Err-clause-wrong g c = IfErr-unnamed c.write_no_map.result _ c.write_no_map.ensures.unnamed

-- The error of the script's run names a line, and was given the text.
pub returns-in-Err-run_script-clause-wrong : goal.returns-in-Err-run_script-clause-wrong
returns-in-Err-run_script-clause-wrong g c =
    let read = rw c.in-Ok.is at c.in_ok-device.ensures.read in
    let wrong = rw (c.deref.ensures.value, c.is_input_read-is_input_read.ensures) at c.in-Err-run_script.ensures.wrong in
    BlamesRun-read c.args.files.device c.args.files.flash c.args.files.script _ _ _ _ _ _ _ _
    c.in_ok-bytes.bytes.items c.in_ok-text.text.items c.in-Ok.device _ c.in_script.result _ read
    c.in_ok-device.ensures.others c.in_ok-bytes.ensures.bytes c.in_ok-bytes.ensures.others c.in_ok-text.ensures.bytes
    c.in_ok-text.ensures.others c.in_script.ensures.line (λ bad. refl) (λ bad. refl) (λ bad. refl) wrong
