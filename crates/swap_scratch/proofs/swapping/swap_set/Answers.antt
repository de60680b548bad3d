use Rattle.std.proofs.Common.{arith, true, ℕ, refl, sym, ap, subst, ◌+◌, ◌∙◌, ◌≡◌}
use Rattle.sector_map.proofs.Parts.{keeps_refl, keeps_trans, laid_out_kept}
use Rattle.swap_scratch.specs.Used.{steps_of}
use Rattle.swap_scratch.specs.Swap.{IsAllCounted, sum_over}
use Rattle.swap_scratch.proofs.Taking.{rest_refl, rest_trans}
use Rattle.std.proofs.lemmas.Bool.{false≢true}
use Rattle.trailer.proofs.FailedCalls.{refuses_failed}
use Rattle.swap_scratch.proofs.Members.{begun, on_further}
use Rattle.swap_scratch.proofs.Sums.{sum_none, sum_more, share_same, counts_are}
use Rattle.swap_scratch.proofs.Asking.{asks_none, asks_trans, asks_wider}
use Rattle.swap_scratch.proofs.Contents.{swapped_one}
use Rattle.flash_model.specs.Chip.{Chip}
use Rattle.sector_map.specs.declared.layout.SectorMap.{SectorMap}
use Rattle.sector_map.specs.declared.layout.Side.{Side}
use Rattle.common.specs.Masks.{is_member}
use Rattle.flash_model.proofs.Ending.{uncut_refl, uncut_trans, ends_after}
use Rattle.flash_model.proofs.Ending.{at_error, ends_passed, ends_well, asleep_trans}
use Rattle.swap_scratch.proofs.swapping.swap_set.Goals as goal

-- A member that had no step left changed nothing, nor did those before it.
idle_still : (map : SectorMap) (side : Side) (mask i : ℕ) (old mid : Chip) {new : Chip}
    → ((is_member mask i ≡ true → IsAllCounted map mid side i) → new ≡ mid) → mid ≡ old
    → (is_member mask i ≡ true → IsAllCounted map old side i) → new ≡ old
idle_still map side mask i old mid idle same done =
    idle (λ member. subst (λ chip. IsAllCounted map chip side i) (sym same) (done member)) ∙ same

pub loop-image-init : goal.loop-image-init
loop-image-init g c = record {
  laid_out = c.requires.images.laid_out;
  outside = keeps_refl _ _ _;
  rest = rest_refl _ _ _;
  idle = λ done. refl;
  counted = λ i lt in_mask. absurd (omega arith);
  place = λ counts x y at. begun _ _ _ _ counts x y at;
  erases = λ counts x y at. omega (arith, sum_none);
  forward = omega arith;
  journal = asks_none _ _ _;
  uncut = uncut_refl _;
  asleep = λ off. refl;
  on = λ i lt in_mask. absurd (omega arith);
}

pub returns-in_err-swap_member : goal.returns-in_err-swap_member
returns-in_err-swap_member g c =
    let kept = c.loop-image.invariant in
    record {
      outside = keeps_trans _ _ _ _ _ kept.outside c.swap_member.ensures.outside;
      rest = rest_trans _ _ _ _ _ c.requires.images.laid_out kept.laid_out kept.rest c.swap_member.ensures.rest;
      idle = λ done. idle_still _ _ _ _ _ _ c.swap_member.ensures.idle (kept.idle done) (done c.loop-image.image);
      resumes = λ x y at. c.swap_member.ensures.resumes at.counts x y (kept.place at.counts x y at.place);
      swapped = at_error _ _ c.from_residual.ensures.0;
      counted = at_error _ _ c.from_residual.ensures.0;
      forward = omega (arith, kept.forward, c.swap_member.ensures.forward);
      erases = at_error _ _ c.from_residual.ensures.0;
      journal = asks_trans _ _ _ _ _ _ _ kept.journal c.swap_member.ensures.journal;
      journal_ok = at_error _ _ c.from_residual.ensures.0;
      off = λ i member. refuses_failed _ _ _ c.from_residual.ensures.0
          (ends_after _ _ _ _ kept.uncut kept.asleep
          (ends_passed _ _ _ _ c.from_residual.ensures.1 c.in_err-swap_member.ensures.ends));
      ends = ends_after _ _ _ _ kept.uncut kept.asleep
          (ends_passed _ _ _ _ c.from_residual.ensures.1 c.in_err-swap_member.ensures.ends);
    }

pub loop-image-preserved : goal.loop-image-preserved
loop-image-preserved g c =
    let kept = c.loop-image.invariant in
    record {
      laid_out = laid_out_kept _ _ _ _ kept.laid_out c.swap_member.ensures.outside;
      outside = keeps_trans _ _ _ _ _ kept.outside c.swap_member.ensures.outside;
      rest = rest_trans _ _ _ _ _ c.requires.images.laid_out kept.laid_out kept.rest c.swap_member.ensures.rest;
      idle = λ done. idle_still _ _ _ _ _ _ c.swap_member.ensures.idle (kept.idle done) (done c.loop-image.image);
      counted = c.in_ok-swap_member.ensures.counted kept.counted;
      place = λ counts x y at. c.in_ok-swap_member.ensures.done counts x y (kept.place counts x y at);
      erases = λ counts x y at. omega (
        arith,
        kept.erases counts x y at,
        c.in_ok-swap_member.ensures.erases counts x y (kept.place counts x y at),
        sum_more,
        share_same _ c.args.side c.args.mask c.loop-image.image _ _ c.requires.images.laid_out kept.laid_out kept.rest
            (omega arith),
      );
      forward = omega (arith, kept.forward, c.swap_member.ensures.forward);
      journal = asks_trans _ _ _ _ _ _ _ kept.journal c.in_ok-swap_member.ensures.journal_ok;
      uncut = uncut_trans _ _ _ kept.uncut c.in_ok-swap_member.ensures.ends.uncut;
      asleep = asleep_trans _ _ _ kept.uncut kept.asleep c.swap_member.ensures.ends.asleep;
      on = on_further _ _ _ _ _ kept.uncut.on c.in_ok-swap_member.ensures.off kept.on;
    }

pub returns : goal.returns
returns g c =
    let kept = c.loop-image.invariant in
    let all : c.loop-image.image ≡ c.args.map.now.images = omega arith in
    record {
      outside = kept.outside;
      rest = kept.rest;
      idle = kept.idle;
      resumes = λ x y at.
          let below = kept.place at.counts x y at.place in
          record { counts = below.now; place = below.place };
      swapped = λ x y at i member.
          let below = kept.place at.counts x y at.place in
          let lt = c.requires.images.within i member in
          swapped_one _ _ _ i (x i) (y i) (below.now i) kept.laid_out (below.done i (omega arith) member)
          (below.place.each i member);
      counted = λ i member. let lt = c.requires.images.within i member in kept.counted i (omega arith) member;
      erases = λ x y at.
          ap (λ n. (g.F.Flash.chip c.loop-image.flash).erases + n)
          (counts_are c.args.map.now (g.F.Flash.chip c.args.flash.now) c.args.side c.args.mask x y at)
          ∙ subst (λ n. (g.F.Flash.chip c.loop-image.flash).erases + sum_over c.args.mask at.counts n
          ≡ (g.F.Flash.chip c.args.flash.now).erases
          + sum_over c.args.mask (λ i. steps_of c.args.map.now (g.F.Flash.chip c.args.flash.now) c.args.side i) n)
          all (kept.erases at.counts x y at.place);
      forward = kept.forward;
      journal = asks_wider _ _ _ _ _ kept.journal;
      journal_ok = kept.journal;
      off = λ i member off.
          let lt = c.requires.images.within i member in
          absurd (false≢true (sym off ∙ kept.on i (omega arith) member));
      ends = ends_well _ _ _ kept.uncut kept.asleep;
    }
