use Rattle.std.proofs.Common.{None, inl, inr, refl, subst}
use Rattle.std.proofs.lemmas.Option.{IfSome_then}
use Rattle.std.proofs.lemmas.Result.{IfErr-weaker, IfOk-weaker}
use Rattle.common.proofs.Results.{IfErr-passed}
use Rattle.host.specs.ScriptLines.{script_line}
use Rattle.inputs.specs.Script.{known_at}
use Rattle.inputs.proofs.ScriptFaultLaws.{IsLostLine-kept}
use Rattle.device_texts.specs.FlashOf.{armed_in}
use Rattle.inputs.specs.Loading.{AreCutsOf, LoadsAll}
use Rattle.inputs.proofs.ScriptLaws.{IsScript-loaded}
use Rattle.device_commands.proofs.TellingLaws.{OnErr-any, RunsFirstLines-played}
use Rattle.device_commands.proofs.run.run_script.Goals as goal

-- The script was checked, its events were run, and the replies were written.
pub returns-in-Ok-clause-runs : goal.returns-in-Ok-clause-runs
returns-in-Ok-clause-runs g c =
    let input = g.H.Host.input c.args.host.now in
    let before = g.H.Host.file c.args.host.now in
    let files = g.H.Host.file c.check_script.new.host in
    let text = c.args.start.text.now in
    let buffered = c.in_ok-cuts.field-0.buffered.items in
    let cuts = armed_in c.in_ok-cuts.field-0.cuts.items in
    IfOk-weaker c.play-played.result _ _ (λ answer plays.
    let loads = subst (λ buffered. LoadsAll text buffered files plays.came) c.deref.ensures.value plays.comes in
    record {
      cuts = cuts;
      came = plays.came;
      says = IsScript-loaded text cuts plays.came buffered input before files c.in_ok-cuts.ensures.cuts loads
          c.in_ok-cuts.ensures.files c.in_ok-cuts.ensures.buffered;
      plays = plays.plays;
    }) c.play-played.ensures.plays.plays

-- A line or its file has a fault.
pub returns-in_err-cuts-clause-begun : goal.returns-in_err-cuts-clause-begun
returns-in_err-cuts-clause-begun g c = OnErr-any _ (inl refl)

-- The run ended without an answer.
pub returns-in-Ok-clause-begun : goal.returns-in-Ok-clause-begun
returns-in-Ok-clause-begun g c = OnErr-any c.play-played.result (inr (RunsFirstLines-played c.args.options.form
    c.args.options.is_strict c.play-played.result c.args.start.device.now c.args.start.bytes.items
    (armed_in c.in_ok-cuts.field-0.cuts.items) c.args.start.text.now _ (g.H.Host.input c.args.host.now)
    (g.H.Host.file c.args.host.now) _ _ _ c.in_ok-cuts.ensures.cuts c.in_ok-cuts.ensures.files
    (rw c.deref.ensures.value c.in_ok-cuts.ensures.buffered) c.play-played.ensures.plays))

-- The file of the flash could not be synced.
pub returns-clause-begun : goal.returns-clause-begun
returns-clause-begun g c = inr (RunsFirstLines-played c.args.options.form
    c.args.options.is_strict c.play-played.result c.args.start.device.now c.args.start.bytes.items
    (armed_in c.in_ok-cuts.field-0.cuts.items) c.args.start.text.now _ (g.H.Host.input c.args.host.now)
    (g.H.Host.file c.args.host.now) _ _ _ c.in_ok-cuts.ensures.cuts c.in_ok-cuts.ensures.files
    (rw c.deref.ensures.value c.in_ok-cuts.ensures.buffered) c.play-played.ensures.plays)

-- A line is wrong.
pub returns-in_err-cuts-clause-wrong : goal.returns-in_err-cuts-clause-wrong
returns-in_err-cuts-clause-wrong g c =
    IfErr-passed _ _ _ c.from_residual.ensures.1 (IfSome_then _ c.in_err-cuts.ensures.wrong (λ bad is. inl is))

-- The file of a line isn't as it was when the script was checked.
pub returns-in-Ok-clause-wrong : goal.returns-in-Ok-clause-wrong
returns-in-Ok-clause-wrong g c =
    IfErr-weaker c.play-played.result _ _
    (λ refusal lost. IfSome_then (script_line refusal) lost (λ bad is.
    inr (
      c.in_ok-cuts.ensures.right,
      IsLostLine-kept c.args.start.text.now (known_at None (g.H.Host.file c.args.host.now))
          (known_at None (g.H.Host.file c.check_script.new.host)) bad.line bad.fault tt c.in_ok-cuts.ensures.files is,
    )))
    c.play-played.ensures.wrong
