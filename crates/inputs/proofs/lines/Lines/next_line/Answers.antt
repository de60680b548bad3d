use Rattle.device_texts.specs.Said.{said}
use Rattle.inputs.proofs.ScriptFaultLaws.{NamesLine-of}
use Rattle.inputs.proofs.lines.Lines.next_line.Goals as goal

-- The line can't follow the lines before it.
pub returns-then-not-takes-clause-wrong : goal.returns-then-not-takes-clause-wrong
returns-then-not-takes-clause-wrong c =
    let refused = rw c.if-not-takes.true at c.takes.ensures in
    NamesLine-of c.of_line-then-not-takes.result _ _ c.of_line-then-not-takes.ensures.line (record {
      text = c.first_line.result.0.now;
      parts = c.first_line.ensures.lines;
      wrong = (said c.in-Some.line, c.in-Some.ensures.says, refused.0 _);
    })
