use Rattle.std.proofs.Common.{◌≡◌, [], IfSome, None, eqb-true, inl, inr, length, refl, subst, sym}
use Rattle.std.proofs.lemmas.Bool.{eqb-false}
use Rattle.std.proofs.lemmas.Option.{IfSome_then}
use Rattle.std.proofs.lemmas.Result.{IfErr-weaker, IfOk-weaker}
use Rattle.common.proofs.Results.{IfErr-passed}
use Rattle.host.specs.ScriptLines.{script_line}
use Rattle.inputs.specs.Script.{known_at}
use Rattle.inputs.specs.ScriptFault.{IsFaultOfUncut}
use Rattle.inputs.proofs.ScriptFaultLaws.{IsCutFirst-right, IsLostLine-kept}
use Rattle.inputs.specs.Loading.{AreCutsOf, LoadsAll, came_in}
use Rattle.inputs.proofs.ScriptLaws.{IsScript-loaded, no_cuts}
use Rattle.inputs.proofs.loading.load.Goals as goal

-- No line is a `cut`, and all events were loaded.
pub returns-clause-script : goal.returns-clause-script
returns-clause-script g c =
    let checked = c.in_ok-checked.checked in
    let files = g.H.Host.file c.check_script.new.host in
    let none = no_cuts checked.cuts.items
    (subst (λ cuts. length cuts ≡ 0) c.as_slice.ensures.value (eqb-true _ _ (sym c.if-not-is_empty.ensures))) in
    let cuts = subst (AreCutsOf c.args.text.now) none c.in_ok-checked.ensures.cuts in
    IfOk-weaker c.load_events.result _ _
    (λ events loads known stays.
    IsScript-loaded c.args.text.now [] (came_in events.items) checked.buffered.items
    (g.H.Host.input c.args.host.now) (g.H.Host.file c.args.host.now) files cuts
    (subst (λ buffered. LoadsAll c.args.text.now buffered files (came_in events.items)) c.deref.ensures.value loads)
    c.in_ok-checked.ensures.files c.in_ok-checked.ensures.buffered known stays)
    c.load_events.ensures.loaded

-- A line is wrong.
pub returns-in_err-checked-clause-wrong : goal.returns-in_err-checked-clause-wrong
returns-in_err-checked-clause-wrong g c =
    IfErr-passed _ _ _ c.from_residual.ensures.1
    (IfSome_then _ c.in_err-checked.ensures.wrong (λ bad is. inl (inl is)))

-- The script cuts a write.
pub returns-then-not-is_empty-clause-wrong : goal.returns-then-not-is_empty-clause-wrong
returns-then-not-is_empty-clause-wrong g c =
    let known = known_at (g.H.Host.input c.args.host.now) (g.H.Host.file c.args.host.now) in
    subst (λ named. IfSome named (λ bad.
    IsFaultOfUncut c.args.text.now c.args.is_input_read known bad.line bad.fault))
    (sym c.of_line.ensures.line)
    (inr (record {
      cut = refl;
      first = refl;
      right = c.in_ok-checked.ensures.right;
      says = IsCutFirst-right c.args.text.now c.args.is_input_read known c.in_ok-checked.checked.cuts.items
          c.in_ok-checked.ensures.cuts
          (λ none. eqb-false _ _ (sym c.if-not-is_empty.ensures)
          (subst (λ cuts. length cuts ≡ 0) (sym c.as_slice.ensures.value) none)) c.in_ok-checked.ensures.right;
    }))

-- The file of a line isn't as it was when the script was checked.
pub returns-clause-wrong : goal.returns-clause-wrong
returns-clause-wrong g c =
    IfErr-weaker c.load_events.result _ _
    (λ refusal lost. IfSome_then (script_line refusal) lost (λ bad is.
    inl (inr (
      c.in_ok-checked.ensures.right,
      IsLostLine-kept c.args.text.now (known_at None (g.H.Host.file c.args.host.now))
          (known_at None (g.H.Host.file c.check_script.new.host)) bad.line bad.fault tt c.in_ok-checked.ensures.files is,
    ))))
    c.load_events.ensures.wrong
