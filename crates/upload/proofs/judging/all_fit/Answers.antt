use Rattle.std.proofs.Common.{◌≤◌, None, [], arith, refl, subst, false}
use Rattle.std.proofs.lemmas.List.{take_all}
use Rattle.std.proofs.lemmas.List.Elements.{All-more}
use Rattle.manifest.specs.declared.manifest.Component.{Component}
use Rattle.sector_map.specs.Map.{length_of}
use Rattle.sector_map.specs.Part.{Slot}
use Rattle.sector_map.specs.declared.layout.Side.TheVariants.{Secondary}
use Rattle.machine.specs.Accepted.{AllFit}
use Rattle.upload.proofs.judging.all_fit.Goals as goal

abbrev blank : Component
blank = record { image = 0; permanent = false; size = 0; digest = []; precursor = None }

pub loop-component-preserved : goal.loop-component-preserved
loop-component-preserved c =
    All-more (λ (d : Component). d.size ≤ length_of c.args.map.now (Slot d.image Secondary)) c.args.components.now
    c.loop-component.component-index blank c.loop-component-test.true c.loop-component.invariant
    (omega (arith, c.slot_length.ensures))

pub returns : goal.returns
returns c = (
  λ yes. subst (λ l. AllFit c.args.map.now l)
      (take_all c.loop-component.component-index c.args.components.now
      (omega (arith, c.loop-component-test.false))) c.loop-component.invariant,
  λ all. refl,
)
