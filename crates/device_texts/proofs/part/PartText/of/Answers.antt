use Rattle.std.proofs.Common.{arith}
use Rattle.device_texts.specs.Said.{part_words}
use Rattle.device_texts.proofs.Parts.{IsPart-within, no_part}
use Rattle.device_texts.proofs.part.PartText.of.Goals as goal

pub returns-in_err-end-clause-other : goal.returns-in_err-end-clause-other
returns-in_err-end-clause-other c =
    rw c.from_residual-in_err-end.ensures (λ part is.
    let within =
    IsPart-within (part_words c.args.self) c.args.bytes.now part c.in_ok-from.from c.in_ok-count.count
    c.in_ok-from.ensures.spelled c.in_ok-count.ensures.spelled (omega arith) (omega arith) (omega arith) is in
    absurd (omega (arith, c.in_err-end.ensures)))

pub returns-clause-other : goal.returns-clause-other
returns-clause-other c =
    no_part (part_words c.args.self) c.args.bytes.now c.get.result (λ part is.
    let within =
    IsPart-within (part_words c.args.self) c.args.bytes.now part c.in_ok-from.from c.in_ok-count.count
    c.in_ok-from.ensures.spelled c.in_ok-count.ensures.spelled (omega arith) (omega arith) (omega arith) is in
    c.get.ensures.lookup.1 (omega (arith, c.in_ok-end.ensures), omega (arith, c.in_ok-end.ensures)))
