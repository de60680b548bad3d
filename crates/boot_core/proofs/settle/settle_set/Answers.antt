use Rattle.std.proofs.Common.{rules, arith, ◌≡◌, ◌<◌, ◌≤◌, true, sym, subst, ⊎_elim}
use Rattle.std.proofs.lemmas.Bool.{cases_lt}
use Rattle.sector_map.proofs.Parts.{keeps_trans, laid_out_kept}
use Rattle.common.specs.Masks.{is_member}
use Rattle.flash_model.proofs.Ending.{ends_after}
use Rattle.swap_scratch.proofs.Sums.{sum_more}
use Rattle.trailer.specs.Settled.{is_confirmed}
use Rattle.upload.specs.View.{view}
use Rattle.flash_contents.specs.Holding.{IsSettledAt}
use Rattle.upload.proofs.Ends.{err_passed}
use Rattle.boot_core.proofs.Masks.{sum_before}
use Rattle.boot_core.proofs.settle.settle_set.Goals as goal

pub loop-image-preserved : goal.loop-image-preserved
loop-image-preserved g c =
    let kept = c.loop-image.invariant in
    let image = c.loop-image.image in
    let mask = c.args.mask in
    let new = view c.args.map.now (g.F.Flash.chip c.settle_member.new.flash) in
    let confirmed = is_confirmed c.args.settling in
    record {
      laid_out = laid_out_kept _ _ _ _ kept.laid_out c.settle_member.ensures.outside;
      outside = keeps_trans _ _ _ _ _ kept.outside c.settle_member.ensures.outside;
      settled = λ i lt member. ⊎_elim
          (λ (below : i < image). c.settle_member.ensures.others i (λ e. omega (arith, below, e))
          (kept.settled i below member))
          (λ (above : image ≤ i).
          let here : image ≡ i = omega (arith, lt, above) in
          subst (λ k. IsSettledAt new k confirmed) here
          (c.in_ok-settle_member.ensures.ok (subst (λ k. is_member mask k ≡ true) (sym here) member)))
          (cases_lt i image);
      erases = omega (
        arith,
        kept.erases,
        c.in_ok-settle_member.ensures.erases,
        sum_more mask (λ k. 1) image,
      );
      journal = omega (
        arith,
        kept.journal,
        c.settle_member.ensures.journal,
        sum_more mask (λ k. 1) image,
      );
      uncut = search rules;
      asleep = search rules;
    }

pub returns-in_err-settle_member : goal.returns-in_err-settle_member
returns-in_err-settle_member g c =
    let kept = c.loop-image.invariant in
    rw (err_passed _ _ c.from_residual.ensures.1) (record {
      outside = keeps_trans _ _ _ _ _ kept.outside c.settle_member.ensures.outside;
      ok = tt;
      erases = tt;
      journal = omega (
        arith,
        kept.journal,
        c.settle_member.ensures.journal,
        sum_before c.args.mask (λ i. 1) c.loop-image.image c.args.map.now.images (omega arith),
      );
      ends = ends_after _ _ (g.F.Flash.chip c.loop-image.flash) _ kept.uncut kept.asleep
          c.in_err-settle_member.ensures.ends;
    })
