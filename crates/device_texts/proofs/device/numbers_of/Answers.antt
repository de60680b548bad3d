use Rattle.std.proofs.Common.{◌<◌, ◌^◌, arith}
use Rattle.std.proofs.lemmas.List.{take_all}
use Rattle.serde_json.specs.View.{view}
use Rattle.device_texts.specs.DeviceFile.{IsNumber}
use Rattle.common.proofs.Mapped.{AllZip-at, AllZip-more}
use Rattle.device_texts.proofs.device.numbers_of.Goals as goal

-- If all values were numbers, this one would be.
pub returns-in_default-clause-fault : goal.returns-in_default-clause-fault
returns-in_default-clause-fault c = λ found.
    let at = AllZip-at IsNumber view c.args.values.now found.0 c.loop-value.value-index
    c.value-item.result c.loop-value-test.true c.value-item.is found.1 in
    c.in_default.ensures.other at.0 at.1.1 at.1.0

-- The number of this value follows.
pub loop-value-preserved : goal.loop-value-preserved
loop-value-preserved c =
    let fits : c.in-Some.number < 2 ^ 32 = omega arith in
    let more = AllZip-more IsNumber view c.args.values.now c.loop-value.numbers.items
    c.loop-value.value-index c.value-item.result c.in-Some.number c.loop-value-test.true
    c.value-item.is c.loop-value.invariant (c.in-Some.ensures.found, fits) in
    rw c.in-Ok.ensures.items more

-- All values are numbers.
pub returns-clause-numbers : goal.returns-clause-numbers
returns-clause-numbers c =
    rw (take_all c.loop-value.value-index c.args.values.now c.loop-value-test.false) at c.loop-value.invariant
