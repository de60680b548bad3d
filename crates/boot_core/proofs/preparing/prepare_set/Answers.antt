use Rattle.std.proofs.Common.{rules, refl, arith}
use Rattle.flash_model.proofs.Ending.{asleep_trans, ends_after, ends_well, uncut_refl, uncut_trans}
use Rattle.sector_map.proofs.Parts.{keeps_refl, keeps_trans, laid_out_kept}
use Rattle.sector_map.specs.Part.{trailers_on}
use Rattle.swap_scratch.proofs.Sums.{sum_none, sum_more}
use Rattle.upload.proofs.Ends.{err_passed}
use Rattle.boot_core.proofs.Masks.{sum_before}
use Rattle.boot_core.proofs.SwapSizes.{held_kept, ready_more}
use Rattle.boot_core.proofs.preparing.prepare_set.Goals as goal

pub loop-image-init : goal.loop-image-init
loop-image-init g c = record {
  laid_out = c.requires.laid_out;
  outside = keeps_refl _ _ _;
  ready = λ i lt member. absurd (omega arith);
  erases = omega (arith, sum_none);
  journal = omega arith;
  uncut = uncut_refl _;
  asleep = λ off. refl;
}

pub prepare_member-requires-clause-held : goal.prepare_member-requires-clause-held
prepare_member-requires-clause-held g c = λ is member.
    held_kept c.args.map.now (trailers_on c.args.mask c.args.side) c.loop-image.image _ _ c.loop-image.invariant.outside
    (λ on. refl) (λ on. c.requires.held is on c.loop-image.image (omega arith) member)

pub loop-image-preserved : goal.loop-image-preserved
loop-image-preserved g c =
    let kept = c.loop-image.invariant in
    record {
      laid_out = laid_out_kept _ _ _ _ kept.laid_out c.prepare_member.ensures.outside;
      outside = keeps_trans _ _ _ _ _ kept.outside c.prepare_member.ensures.outside;
      ready = ready_more c.args.map.now c.args.mask c.loop-image.image c.args.side _ _ kept.ready
          c.prepare_member.ensures.kept c.in_ok-prepare_member.ensures.ok;
      erases = omega (arith, kept.erases, c.in_ok-prepare_member.ensures.erases, sum_more);
      journal = omega (arith, kept.journal, c.prepare_member.ensures.journal, sum_more);
      uncut = uncut_trans _ _ _ kept.uncut c.in_ok-prepare_member.ensures.ends.uncut;
      asleep = asleep_trans _ _ _ kept.uncut kept.asleep c.in_ok-prepare_member.ensures.ends.asleep;
    }

pub returns : goal.returns
returns g c = record {
  outside = c.loop-image.invariant.outside;
  ok = λ i lt member. (c.loop-image.invariant.ready i (omega arith) member).prepared;
  ready = λ i lt member. c.loop-image.invariant.ready i (omega arith) member;
  erases = search rules;
  journal = search rules;
  ends = ends_well _ _ _ c.loop-image.invariant.uncut c.loop-image.invariant.asleep;
}

pub returns-in_err-prepare_member : goal.returns-in_err-prepare_member
returns-in_err-prepare_member g c =
    let kept = c.loop-image.invariant in
    rw (err_passed _ _ c.from_residual.ensures.1) (record {
      outside = keeps_trans _ _ _ _ _ kept.outside c.prepare_member.ensures.outside;
      ok = tt;
      ready = tt;
      erases = tt;
      journal = omega (
        arith,
        kept.journal,
        c.prepare_member.ensures.journal,
        sum_before c.args.mask (λ i. 1) c.loop-image.image c.args.map.now.images (omega arith),
      );
      ends = ends_after _ _ (g.F.Flash.chip c.loop-image.flash) _ kept.uncut kept.asleep
          c.in_err-prepare_member.ensures.ends;
    })
