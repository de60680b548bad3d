use Rattle.std.proofs.Common.{◌∙◌, Err, ap, refl, subst, sym, true≢false}
use Rattle.flash_model.proofs.Ending.{ends_after, no_error}
use Rattle.upload.specs.View.{view}
use Rattle.machine.specs.Accepted.{AllFit}
use Rattle.upload.specs.Accepted.{AllFollowAt}
use Rattle.upload.specs.Taking.{Refuses}
use Rattle.machine.specs.declared.upload_error.UploadError.TheVariants as no
use Rattle.upload.proofs.Ends.{ends_flash, ends_read, err_passed, only_off}
use Rattle.upload.proofs.judging.judge_manifest.Goals as goal

pub returns-in_err-state : goal.returns-in_err-state
returns-in_err-state g c =
    let error = c.in_err-state.field-0.0 in
    let off = only_off error _ _ c.last_state.ensures.same c.in_err-state.ensures.ends in
    rw (err_passed _ (no.Flash error) c.from_residual.ensures.1) (record {
      same = c.last_state.ensures.same;
      ok = tt;
      fits = c.last_state.ensures.fits;
      refused = subst (λ error. Refuses c.args.map.now (view c.args.map.now (g.F.Flash.chip c.args.flash.now))
          c.args.manifest.now.sequence c.args.manifest.now.components.items (no.Flash error)) (sym off) tt;
      off = λ asleep. ap (λ error. Err (no.Flash error)) off;
      ends = ends_flash error _ _ c.in_err-state.ensures.ends;
    })

pub returns-then-manifest-state : goal.returns-then-manifest-state
returns-then-manifest-state g c = record {
  same = c.last_state.ensures.same;
  ok = tt;
  fits = c.last_state.ensures.fits;
  refused = (c.in_ok-state.state, c.in_ok-state.ensures.ok, c.if-manifest-state.true);
  off = λ off. absurd (no_error _ _ (c.in_ok-state.ensures.off off));
  ends = ends_read _ _ _ refl c.last_state.ensures.same;
}

pub returns-then-not-all_fit : goal.returns-then-not-all_fit
returns-then-not-all_fit g c = record {
  same = c.last_state.ensures.same;
  ok = tt;
  fits = c.last_state.ensures.fits;
  refused = (
    c.in_ok-state.state,
    record { read = c.in_ok-state.ensures.ok; newer = c.if-manifest-state.false },
    λ fit. true≢false (sym (c.all_fit.ensures.1 (subst (λ cs. AllFit c.args.map.now cs)
        (sym c.as_slice.ensures.value) fit)) ∙ c.if-not-all_fit.true),
  );
  off = λ off. absurd (no_error _ _ (c.in_ok-state.ensures.off off));
  ends = ends_read _ _ _ refl c.last_state.ensures.same;
}

pub returns-in_err-all_follow : goal.returns-in_err-all_follow
returns-in_err-all_follow g c =
    let error = c.in_err-all_follow.field-0.0 in
    let off = only_off error _ _ c.all_follow.ensures.same c.in_err-all_follow.ensures.ends in
    rw (err_passed _ (no.Flash error) c.from_residual-in_err-all_follow.ensures.1) (record {
      same = c.all_follow.ensures.same ∙ c.last_state.ensures.same;
      ok = tt;
      fits = c.last_state.ensures.fits;
      refused = subst (λ error. Refuses c.args.map.now (view c.args.map.now (g.F.Flash.chip c.args.flash.now))
          c.args.manifest.now.sequence c.args.manifest.now.components.items (no.Flash error)) (sym off) tt;
      off = λ off. absurd (no_error _ _ (c.in_ok-state.ensures.off off));
      ends = ends_flash error _ _ (ends_after _ _ (g.F.Flash.chip c.last_state.new.flash) _
          c.in_ok-state.ensures.ends.uncut c.in_ok-state.ensures.ends.asleep c.in_err-all_follow.ensures.ends);
    })

pub returns-then-not-branch : goal.returns-then-not-branch
returns-then-not-branch g c =
    let map = c.args.map.now in
    let was = c.last_state.ensures.same in
    record {
      same = c.all_follow.ensures.same ∙ was;
      ok = tt;
      fits = c.last_state.ensures.fits;
      refused = (
        c.in_ok-state.state,
        record { read = c.in_ok-state.ensures.ok; newer = c.if-manifest-state.false },
        subst (λ cs. AllFit map cs) c.as_slice.ensures.value (c.all_fit.ensures.0 c.if-not-all_fit.false),
        λ follow. true≢false (sym (c.in_ok-all_follow.ensures.ok.1
            (subst (λ cs. AllFollowAt (view map (g.F.Flash.chip c.last_state.new.flash)) cs)
            (sym c.as_slice-2.ensures.value) (subst (λ chip. AllFollowAt (view map chip)
            c.args.manifest.now.components.items) (sym was) follow))) ∙ c.if-not-branch.true),
      );
      off = λ off. absurd (no_error _ _ (c.in_ok-state.ensures.off off));
      ends = ends_read _ _ _ refl (c.all_follow.ensures.same ∙ was);
    }

pub returns : goal.returns
returns g c =
    let map = c.args.map.now in
    let was = c.last_state.ensures.same in
    record {
      same = c.all_follow.ensures.same ∙ was;
      ok = record {
        newer = record { read = c.in_ok-state.ensures.ok; newer = c.if-manifest-state.false };
        fit = subst (λ cs. AllFit map cs) c.as_slice.ensures.value (c.all_fit.ensures.0 c.if-not-all_fit.false);
        follow = subst (λ chip. AllFollowAt (view map chip) c.args.manifest.now.components.items) was
            (subst (λ cs. AllFollowAt (view map (g.F.Flash.chip c.last_state.new.flash)) cs)
            c.as_slice-2.ensures.value (c.in_ok-all_follow.ensures.ok.0 c.if-not-branch.false));
      };
      fits = c.last_state.ensures.fits;
      refused = tt;
      off = λ off. absurd (no_error _ _ (c.in_ok-state.ensures.off off));
      ends = ends_read _ _ _ refl (c.all_follow.ensures.same ∙ was);
    }
