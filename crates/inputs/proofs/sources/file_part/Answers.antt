use Rattle.inputs.proofs.ScriptLaws.{ReadsNow-part}
use Rattle.inputs.proofs.ScriptFaultLaws.{NamesLine-of}
use Rattle.inputs.proofs.sources.file_part.Goals as goal

-- The words are numbers, and the file has the part.
pub returns-clause-read : goal.returns-clause-read
returns-clause-read g c =
    let words = rw c.in-Some.is at c.numbers.ensures.numbers in
    let read = rw c.in-Some-2.is at c.in_ok-piece.ensures.part in
    ReadsNow-part c.args.name _ _ _ _ (g.H.Host.file c.args.host.now) c.requires words.from_word words.count_word read

-- The words aren't numbers.
pub returns-in_default-clause-wrong : goal.returns-in_default-clause-wrong
returns-in_default-clause-wrong g c =
    NamesLine-of c.of_line.result _ _ c.of_line.ensures.line (rw c.in_default.is at c.numbers.ensures.other)
