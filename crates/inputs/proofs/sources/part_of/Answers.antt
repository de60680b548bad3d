use Rattle.std.proofs.Common.{Some, arith, subst, sym}
use Rattle.std.specs.Prelude.{option_map}
use Rattle.device_texts.specs.Said.{part_words}
use Rattle.inputs.specs.Loading.{IsPartReason}
use Rattle.inputs.specs.ScriptFault.{IsPartFault}
use Rattle.inputs.proofs.ScriptFaultLaws.{IsPartFault-read, NamesLine-of}
use Rattle.inputs.proofs.sources.part_of.Goals as goal

-- The bytes don't have the part, or the words aren't numbers.
pub returns-in_default-of-clause-wrong : goal.returns-in_default-of-clause-wrong
returns-in_default-of-clause-wrong c =
    let words = part_words c.in-Some.part in
    let none = rw c.in_default-of.is at c.of.ensures.other in
    NamesLine-of c.of_line.result _ _ c.of_line.ensures.line
    (subst (λ part. IsPartFault (option_map part_words part) (Some c.args.bytes.items) c.part_fault.result)
    (sym c.in-Some.is)
    (IsPartFault-read words c.args.bytes.items c.part_fault.result
    (subst (λ n. IsPartReason words n c.part_fault.result) (omega (arith, c.len.ensures)) c.part_fault.ensures)
    (rw c.deref.ensures.value at none)))
