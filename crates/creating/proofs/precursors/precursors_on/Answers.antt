use Rattle.std.proofs.Common.{Some, subst, ◌∙◌}
use Rattle.std.proofs.lemmas.List.{get_or_default, take_all}
use Rattle.command_line.specs.declared.orders.NewComponent.{NewComponent}
use Rattle.creating.specs.NewManifestEnd.{IsPrecursor}
use Rattle.creating.specs.NewManifestSteps.{ArePrecursors}
use Rattle.creating.proofs.NewManifestLaws.{any_at, nothing, zip_more}
use Rattle.creating.proofs.precursors.precursors_on.Goals as goal

-- The running image that a file is for isn't intact.
pub returns-in_default : goal.returns-in_default
returns-in_default g c = (
  any_at c.args.asked.now c.loop-component.component-index _ c.loop-component-test.true,
  rw c.loop-component.invariant.0 at rw c.in_default.is at c.running_digest.ensures.found,
)

-- One more file has its precursor.
pub loop-component-preserved : goal.loop-component-preserved
loop-component-preserved g c =
    let asked = c.args.asked.now in
    let place = c.loop-component.component-index in
    let within = c.loop-component-test.true in
    let chip = g.F.Flash.chip c.args.flash.now in
    let runs = rw c.loop-component.invariant.0 at rw c.in-Some.is at c.running_digest.ensures.found in (
      c.running_digest.ensures.same ∙ c.loop-component.invariant.0,
      rw c.push.ensures.items (zip_more (λ component precursor. IsPrecursor c.args.map.now (Some chip) component.image precursor)
          asked c.loop-component.digests.items place nothing (Some c.in-Some.digest) within c.loop-component.invariant.1
          (subst (λ (x : NewComponent). IsPrecursor c.args.map.now (Some chip) x.image (Some c.in-Some.digest))
          (get_or_default asked place _ nothing within) runs)),
    )

-- All files have their precursors.
pub returns : goal.returns
returns g c =
    let flash = Some (g.F.Flash.chip c.args.flash.now) in
    subst (λ asked. ArePrecursors c.args.map.now flash asked c.loop-component.digests.items)
    (take_all c.loop-component.component-index c.args.asked.now c.loop-component-test.false)
    c.loop-component.invariant.1
