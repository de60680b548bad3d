use Rattle.std.proofs.Common.{◌∙◌, arith, eqb-true, refl, subst, sym}
use Rattle.host.proofs.InputLaws.{KeepsFiles-itself, KeepsFiles-twice, kept_itself}
use Rattle.device_texts.specs.FlashOf.{armed_in}
use Rattle.inputs.specs.Loading.{AreBuffered}
use Rattle.common.proofs.Results.{IfErr-passed}
use Rattle.device_texts.specs.Said.{said}
use Rattle.inputs.specs.Script.{known_at}
use Rattle.inputs.specs.ScriptFault.{IsWrongLine, file_of_line}
use Rattle.inputs.proofs.ScriptFaultLaws.{AreChecked-all, AreChecked-more, AreChecked-none, IsFileFault-kept, IsWrongLine-file, IsWrongLine-text, MayName-kept_if, NamesLine-weaker}
use Rattle.inputs.proofs.ScriptLaws.{AreCutsOf-all, CutSoFar, CutSoFar-more, CutSoFar-none}
use Rattle.inputs.proofs.checking.check_script.Goals as goal

-- No line was checked yet.
pub loop-lines-init : goal.loop-lines-init
loop-lines-init g c = record {
  checked = AreChecked-none c.args.text.now c.args.is_input_read
      (known_at (g.H.Host.input c.args.host.now) (g.H.Host.file c.args.host.now)) c.of-lines.result
      c.of-lines.ensures.all c.of-lines.ensures.none c.of-lines.ensures.order;
  cuts = subst (λ cuts. CutSoFar c.args.text.now c.of-lines.result.rest.now (armed_in cuts)) (sym c.new.ensures.items)
      (CutSoFar-none c.args.text.now c.of-lines.result.rest.now c.of-lines.ensures.all);
  buffered = subst (λ buffered. AreBuffered buffered (g.H.Host.input c.args.host.now) (g.H.Host.file c.args.host.now))
      (sym c.new-2.ensures.items) tt;
  files = KeepsFiles-itself (g.H.Host.file c.args.host.now);
  opened = refl;
  input = λ unread. kept_itself (g.H.Host.input c.args.host.now);
}

-- One more line was checked.
pub loop-lines-preserved : goal.loop-lines-preserved
loop-lines-preserved g c =
    let before = c.loop-lines.invariant in
    let held = c.in_ok-check_line.ensures.buffered _ _ before.files before.input before.buffered in
    let known = known_at (g.H.Host.input c.args.host.now) (g.H.Host.file c.args.host.now) in
    record {
      checked = AreChecked-more c.args.text.now c.args.is_input_read known c.loop-lines.lines c.next_line.new.self
          c.in_ok-line.line c.loop-lines.checked.is_input_read c.check_line.new.checked.is_input_read (omega arith)
          c.in_ok-line.ensures.shorter c.in_ok-line.ensures.number c.in_ok-line.ensures.next c.in_ok-check_line.ensures.read
          (MayName-kept_if c.loop-lines.checked.is_input_read known
          (known_at (g.H.Host.input c.loop-lines.host) (g.H.Host.file c.loop-lines.host))
          (file_of_line (said c.in_ok-line.line)) before.input before.files c.in_ok-check_line.ensures.right)
          before.checked;
      cuts = CutSoFar-more c.args.text.now c.loop-lines.lines c.next_line.new.self c.in_ok-line.line
          (armed_in c.loop-lines.checked.cuts.items) (armed_in c.check_line.new.checked.cuts.items)
          c.in_ok-line.ensures.next c.in_ok-check_line.ensures.cuts before.cuts;
      buffered = held.0;
      files = KeepsFiles-twice _ _ _ before.files c.check_line.ensures.files;
      opened = c.check_line.ensures.opened ∙ before.opened;
      input = held.1;
    }

-- All lines can be run.
pub returns-clause-right : goal.returns-clause-right
returns-clause-right g c =
    AreChecked-all c.args.text.now c.args.is_input_read
    (known_at (g.H.Host.input c.args.host.now) (g.H.Host.file c.args.host.now)) c.loop-lines.lines
    c.loop-lines.checked.is_input_read c.loop-lines.lines.rest.now refl
    (eqb-true _ _ (sym c.loop-lines-test.ensures)) c.loop-lines.invariant.checked

-- A line isn't spelled, or can't follow the lines before it.
pub returns-in_err-line-clause-wrong : goal.returns-in_err-line-clause-wrong
returns-in_err-line-clause-wrong g c =
    let known = known_at (g.H.Host.input c.args.host.now) (g.H.Host.file c.args.host.now) in
    IfErr-passed _ _ _ c.from_residual.ensures.1
    (NamesLine-weaker _ _ _ (IsWrongLine c.args.text.now c.args.is_input_read known)
    (λ why is. IsWrongLine-text c.args.text.now c.args.is_input_read known c.loop-lines.lines c.next_line.new.self
    c.loop-lines.checked.is_input_read why (omega arith) c.in_err-line.ensures.shorter c.in_err-line.ensures.number
    c.loop-lines.invariant.checked is)
    c.in_err-line.ensures.wrong)

-- The file of a line has a fault.
pub returns-in_err-check_line-clause-wrong : goal.returns-in_err-check_line-clause-wrong
returns-in_err-check_line-clause-wrong g c =
    let known = known_at (g.H.Host.input c.args.host.now) (g.H.Host.file c.args.host.now) in
    let before = c.loop-lines.invariant in
    IfErr-passed _ _ _ c.from_residual-in_err-check_line.ensures.1
    (NamesLine-weaker _ _ _ (IsWrongLine c.args.text.now c.args.is_input_read known)
    (λ why is. IsWrongLine-file c.args.text.now c.args.is_input_read known c.loop-lines.lines c.next_line.new.self
    c.in_ok-line.line c.loop-lines.checked.is_input_read is.0 why (omega arith) c.in_ok-line.ensures.shorter
    c.in_ok-line.ensures.number before.checked c.in_ok-line.ensures.next is.1
    (IsFileFault-kept c.loop-lines.checked.is_input_read known
    (known_at (g.H.Host.input c.loop-lines.host) (g.H.Host.file c.loop-lines.host)) is.0 why before.input before.files is.2))
    c.in_err-check_line.ensures.wrong)

-- A line was refused, and its file may have been read.
pub returns-in_err-check_line-clause-files : goal.returns-in_err-check_line-clause-files
returns-in_err-check_line-clause-files g c =
    KeepsFiles-twice _ _ _ c.loop-lines.invariant.files c.check_line.ensures.files

-- All lines were checked.
pub returns-clause-cuts : goal.returns-clause-cuts
returns-clause-cuts g c =
    AreCutsOf-all c.args.text.now c.loop-lines.lines.rest.now (armed_in c.loop-lines.checked.cuts.items)
    (eqb-true _ _ (sym c.loop-lines-test.ensures)) c.loop-lines.invariant.cuts
