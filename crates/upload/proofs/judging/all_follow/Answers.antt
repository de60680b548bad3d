use Rattle.std.proofs.Common.{◌∙◌, false, get_or, None, [], arith, refl, subst}
use Rattle.std.proofs.lemmas.List.{take_all}
use Rattle.std.proofs.lemmas.List.Elements.{All-more}
use Rattle.manifest.specs.declared.manifest.Component.{Component}
use Rattle.sector_map.specs.Map.{part_of}
use Rattle.sector_map.specs.Part.{Slot}
use Rattle.sector_map.specs.declared.layout.Side.TheVariants.{Primary}
use Rattle.upload.specs.View.{view}
use Rattle.upload.specs.Accepted.{AllFollowAt, FrontHasDigest}
use Rattle.upload.proofs.Ends.{reads_well}
use Rattle.upload.proofs.judging.all_follow.Goals as goal

abbrev blank : Component
blank = record { image = 0; permanent = false; size = 0; digest = []; precursor = None }

pub loop-component-preserved : goal.loop-component-preserved
loop-component-preserved g c =
    let cs = c.args.components.now in
    let index = c.loop-component.component-index in
    record {
      follow = All-more (λ (d : Component). FrontHasDigest
          (part_of c.args.map.now (g.F.Flash.chip c.args.flash.now)
          (Slot d.image Primary)) d.precursor) cs index blank
          c.loop-component-test.true c.loop-component.invariant.follow
          (subst (λ chip. FrontHasDigest (part_of c.args.map.now chip (Slot (get_or cs index blank).image Primary))
          (get_or cs index blank).precursor) c.loop-component.invariant.same (c.in_ok-follows.ensures.ok.0 c.if-not-branch.false));
      same = c.follows.ensures.same ∙ c.loop-component.invariant.same;
    }

pub returns : goal.returns
returns g c = record {
  same = c.loop-component.invariant.same;
  ok = (
    λ yes. subst (λ l. AllFollowAt (view c.args.map.now (g.F.Flash.chip c.args.flash.now)) l)
        (take_all c.loop-component.component-index c.args.components.now (omega (arith, c.loop-component-test.false)))
        c.loop-component.invariant.follow,
    λ all. refl,
  );
  ends = reads_well _ _ _ c.loop-component.invariant.same;
}
