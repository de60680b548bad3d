use Rattle.std.proofs.Common.{◌<◌, None, [], arith, subst, false}
use Rattle.std.proofs.lemmas.List.{take_all}
use Rattle.std.proofs.lemmas.List.Elements.{All-more}
use Rattle.manifest.specs.declared.manifest.Component.{Component}
use Rattle.upload.specs.Accepted.{AreThere}
use Rattle.layer_tests.proofs.intake.uploads.are_there.Goals as goal

abbrev blank : Component
blank = record { image = 0; permanent = false; size = 0; digest = []; precursor = None }

pub loop-component-preserved : goal.loop-component-preserved
loop-component-preserved c =
    All-more (λ (d : Component). d.image < c.args.map.now.images) c.args.components.now
    c.loop-component.component-index blank c.loop-component-test.true c.loop-component.invariant (omega arith)

pub returns : goal.returns
returns c = λ yes. subst (λ l. AreThere c.args.map.now l)
    (take_all c.loop-component.component-index c.args.components.now (omega (arith, c.loop-component-test.false)))
    c.loop-component.invariant
