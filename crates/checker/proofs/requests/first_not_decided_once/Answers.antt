use Rattle.std.proofs.Common.{arith}
use Rattle.checker.proofs.CheckingRequests.{all_decided}
use Rattle.checker.proofs.requests.first_not_decided_once.Goals as goal

pub returns : goal.returns
returns c =
    let numbers = c.numbers_in-number-end in
    all_decided c.args.table.now c.args.report.now numbers.result numbers.ensures.images numbers.ensures.reported
    numbers.ensures.refused (λ j below. c.loop-number.invariant j (omega arith))
