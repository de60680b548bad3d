use Rattle.std.proofs.Common.{rules, arith, ◌≡◌, ◌∙◌, true, Some, sym, subst}
use Rattle.sector_map.specs.Map.{IsLaidOut}
use Rattle.common.specs.Masks.{is_member}
use Rattle.trailer.specs.Standing.{standing_of}
use Rattle.common.specs.declared.kind.Kind.TheVariants.{Permanent}
use Rattle.boot_core.proofs.Masks.{asked_for_good, members_more}
use Rattle.boot_core.proofs.Passed.{here_ends}
use Rattle.boot_core.proofs.deciding.asks_for_good.Goals as goal
use Rattle.boot_core.proofs.deciding.asks_for_good.Goals.{else-is_member-via-then-is_member+in_ok-is_for_good+else-not-branch, else-is_member-via-else-is_member}

pub loop-image-preserved : goal.loop-image-preserved
loop-image-preserved g c =
    let kept = c.loop-image.invariant in
    let same : g.F.Flash.chip c.else-is_member.flash ≡ g.F.Flash.chip c.args.flash.now =
    elim c.else-is_member.branch [
      | else-is_member-via-then-is_member+in_ok-is_for_good+else-not-branch w ↦ search rules
      | else-is_member-via-else-is_member w ↦ search rules
    ] in
    let here : is_member c.args.mask c.loop-image.image ≡ true
    → standing_of c.args.map.now (g.F.Flash.chip c.args.flash.now) c.loop-image.image ≡ Some Permanent =
    λ member. elim c.else-is_member.branch [
      | else-is_member-via-then-is_member+in_ok-is_for_good+else-not-branch w ↦ search rules
      | else-is_member-via-else-is_member w ↦ absurd (search rules)
    ] in
    record {
      laid_out = subst (λ chip. IsLaidOut c.args.map.now chip) (sym same) c.requires.laid_out;
      same = same;
      good = members_more
          (λ i. standing_of c.args.map.now (g.F.Flash.chip c.args.flash.now) i ≡ Some Permanent)
          c.args.mask c.loop-image.image kept.good here;
    }

pub returns-then-not-branch : goal.returns-then-not-branch
returns-then-not-branch g c =
    let map = c.args.map.now in
    let image = c.loop-image.image in
    let kept = c.loop-image.invariant in
    let same : g.F.Flash.chip c.is_for_good.new.flash ≡ g.F.Flash.chip c.args.flash.now =
    c.is_for_good.ensures.same ∙ kept.same in
    let other : standing_of map (g.F.Flash.chip c.args.flash.now) image ≡ Some Permanent → ⊥ =
    subst (λ chip. standing_of map chip image ≡ Some Permanent → ⊥) kept.same (λ good. search rules) in
    record {
      same = same;
      ok = λ s asking. (
        λ none. absurd (search rules),
        λ good. absurd (other (asked_for_good map (g.F.Flash.chip c.args.flash.now) s c.args.mask image
            (omega arith) (search rules) asking good)),
      );
      ends = rw same here_ends;
    }
