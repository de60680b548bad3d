use Rattle.std.proofs.Common.{rules}
use Rattle.std.proofs.lemmas.Result.{IfErr-weaker}
use Rattle.inputs.proofs.ScriptFaultLaws.{IsInputFault-part, NamesLine-faults}
use Rattle.inputs.proofs.checking.input_part.Goals as goal

-- Standard input was read, and doesn't have the part.
pub returns-clause-wrong : goal.returns-clause-wrong
returns-clause-wrong g c =
    IfErr-weaker c.part_of.result _ _
    (λ refusal names. NamesLine-faults refusal c.args.number _ _
    (λ why is. IsInputFault-part _ _ _ c.in_ok-bytes.bytes.items why (search rules) c.in_ok-bytes.ensures.bytes is) names)
    c.part_of.ensures.wrong
