use Rattle.std.proofs.Common.{take, refl, arith}
use Rattle.std.proofs.lemmas.List.{length-map, length-take}
use Rattle.std.proofs.lemmas.Bool.{false≢true}
use Rattle.std.proofs.lemmas.Slice.Zip.{AllZip-long}
use Rattle.serde_json.specs.View.{view}
use Rattle.manifest.specs.Component.{IsComponent}
use Rattle.common.proofs.Mapped.{AllZip-at, AllZip-more}
use Rattle.manifest.proofs.components.components.Goals as goal

pub returns-then-not-are_few-clause-other : goal.returns-then-not-are_few-clause-other
returns-then-not-are_few-clause-other c =
    λ components each most.
    let long = AllZip-long IsComponent _ components each in
    false≢true (c.if-not-are_few.ensures.1 (omega (arith, long, length-map c.args.values.now view, most)))

pub returns-in_err-component-clause-other : goal.returns-in_err-component-clause-other
returns-in_err-component-clause-other c =
    rw c.from_residual.ensures (λ components each most.
    let found = AllZip-at IsComponent view c.args.values.now components c.loop-value.value-index c.value-item.result c.loop-value-test.true c.value-item.is each in
    c.in_err-component.ensures.other found.0 found.1)

pub push-requires : goal.push-requires
push-requires c =
    let long = AllZip-long IsComponent _ c.loop-value.components.items c.loop-value.invariant in
    let few = c.if-not-are_few.ensures.0 refl in
    omega (arith, long, length-map (take c.loop-value.value-index c.args.values.now) view, length-take c.loop-value.value-index c.args.values.now, few, c.loop-value-test.true)

pub loop-value-preserved : goal.loop-value-preserved
loop-value-preserved c =
    let more = AllZip-more IsComponent view c.args.values.now c.loop-value.components.items c.loop-value.value-index c.value-item.result c.in_ok-component.field-0 c.loop-value-test.true c.value-item.is c.loop-value.invariant c.in_ok-component.ensures.found in
    rw c.push.ensures.items more
