use Rattle.std.proofs.Common.{◌≡◌, false, true, arith, rules, sym}
use Rattle.flash_model.specs.Units.{are_erased}
use Rattle.trailer.specs.Status.{status_unit}
use Rattle.trailer.proofs.StatusUnits.{block_is_not_set, block_is_set}
use Rattle.trailer.proofs.statuses.are_all_set.Goals as goal

pub returns-then-are_erased : goal.returns-then-are_erased
returns-then-are_erased c =
    let free : are_erased (status_unit c.args.block.now c.loop-unit.unit) ≡ true = search rules in
    sym (block_is_not_set c.args.block.now c.loop-unit.unit (omega (arith, c.loop-unit-test.true))
    c.loop-unit.invariant.set free)

pub returns : goal.returns
returns c =
    sym (block_is_set c.args.block.now (λ j lt. c.loop-unit.invariant.set j (omega (arith, lt, c.loop-unit-test.false))))
