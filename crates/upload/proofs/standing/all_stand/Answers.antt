use Rattle.std.proofs.Common.{◌≡◌, ◌≢◌, ◌<◌, ◌≤◌, ◌↔◌, true, false, IsTrue, None, length}
use Rattle.std.proofs.Common.{refl, sym, ◌∙◌, ap, subst, arith, ⊎_elim}
use Rattle.std.proofs.lemmas.Bool.{cases_eq, cases_lt, false≢true}
use Rattle.std.proofs.lemmas.List.{get_or_default, get_or_past}
use Rattle.std.proofs.lemmas.Option.{none-some}
use Rattle.flash_model.proofs.Ending.{no_error}
use Rattle.upload.specs.Sessions.{AllOpenAt, IsOpenAt, upload_at}
use Rattle.upload.specs.Standing.{HasCounts}
use Rattle.upload.specs.View.{view}
use Rattle.flash_model.specs.Chip.{Chip}
use Rattle.upload.proofs.StandingLaws.{table_told}
use Rattle.upload.proofs.standing.all_stand.Goals as goal

pub returns-then-not-is_standing : goal.returns-then-not-is_standing
returns-then-not-is_standing g c =
    let map = c.args.map.now in
    let chip = g.F.Flash.chip c.args.flash.now in
    let image = c.loop-image.image in
    let ok : IsTrue false ↔ AllOpenAt (view map chip) c.args.sessions.now = (
      λ e. absurd (false≢true e),
      λ all.
          let there : upload_at c.args.sessions.now image ≡ c.index-sessions-image.result =
          get_or_default c.args.sessions.now image None _ (omega (arith, c.loop-image-test.true)) ∙ sym c.index-sessions-image.is in
          let wrong : c.in_ok-is_standing.is_standing ≡ true = c.in_ok-is_standing.ensures.ok.1 (λ u e.
          subst (λ k. IsOpenAt (view map k) image u) (sym c.loop-image.invariant.same)
          (all image u (there ∙ e))) in
          absurd (false≢true (sym c.if-not-is_standing.true ∙ wrong)),
    ) in
    table_told map c.args.sessions.now _ _ _ (c.stands_if_open.ensures.same ∙ c.loop-image.invariant.same) ok
    (λ off i u first.
    let kept = c.loop-image.invariant in
    let sessions = c.args.sessions.now in
    let there : upload_at sessions image ≡ c.index-sessions-image.result =
    get_or_default sessions image None _ (omega (arith, c.loop-image-test.true)) ∙ sym c.index-sessions-image.is in
    ⊎_elim
    (λ (lt : i < image). kept.asked off i u lt first)
    (λ (ge : image ≤ i). ⊎_elim
    (λ (here : i ≡ image). no_error _ _ (c.in_ok-is_standing.ensures.off
    (ap (λ (k : Chip). k.is_on) kept.same ∙ off) u first.written
    (sym there ∙ ap (λ k. upload_at sessions k) (sym here) ∙ first.open_here)
    (subst (λ k. HasCounts map k first.written u) here first.counts)))
    (λ (away : i ≢ image).
    let closed = first.first image (omega (arith, ge, away)) in
    let yes : c.in_ok-is_standing.is_standing ≡ true = c.in_ok-is_standing.ensures.ok.1
    (λ v e. absurd (none-some v (sym closed ∙ there ∙ e))) in
    absurd (false≢true (sym c.if-not-is_standing.true ∙ yes)))
    (cases_eq i image))
    (cases_lt i image))

pub loop-image-preserved : goal.loop-image-preserved
loop-image-preserved g c =
    let map = c.args.map.now in
    let sessions = c.args.sessions.now in
    let image = c.loop-image.image in
    let kept = c.loop-image.invariant in
    let there : upload_at sessions image ≡ c.index-sessions-image.result =
    get_or_default sessions image None _ (omega (arith, c.loop-image-test.true)) ∙ sym c.index-sessions-image.is in
    let stands = c.in_ok-is_standing.ensures.ok.0 c.if-not-is_standing.false in
    record {
      same = c.stands_if_open.ensures.same ∙ kept.same;
      each = λ i u below is. ⊎_elim
          (λ (here : i ≡ image).
          subst (λ k. IsOpenAt (view map (g.F.Flash.chip c.args.flash.now)) k u) (sym here)
          (subst (λ k. IsOpenAt (view map k) image u) kept.same
          (stands u (sym there ∙ ap (λ k. upload_at sessions k) (sym here) ∙ is))))
          (λ (away : i ≢ image). kept.each i u (omega (arith, below, away)) is)
          (cases_eq i image);
      asked = λ off i u below first. ⊎_elim
          (λ (here : i ≡ image). no_error _ _ (c.in_ok-is_standing.ensures.off
          (ap (λ (k : Chip). k.is_on) kept.same ∙ off) u first.written
          (sym there ∙ ap (λ k. upload_at sessions k) (sym here) ∙ first.open_here)
          (subst (λ k. HasCounts map k first.written u) here first.counts)))
          (λ (away : i ≢ image). kept.asked off i u (omega (arith, below, away)) first)
          (cases_eq i image);
    }

pub returns : goal.returns
returns g c =
    let map = c.args.map.now in
    let chip = g.F.Flash.chip c.args.flash.now in
    let sessions = c.args.sessions.now in
    let ok : IsTrue true ↔ AllOpenAt (view map chip) sessions = (
      λ e i u is. ⊎_elim
          (λ (lt : i < length sessions). c.loop-image.invariant.each i u (omega (arith, c.loop-image-test.false)) is)
          (λ (ge : length sessions ≤ i). absurd (none-some u (sym (get_or_past sessions i None ge) ∙ is)))
          (cases_lt i (length sessions)),
      λ all. refl,
    ) in
    table_told map sessions _ _ _ c.loop-image.invariant.same ok
    (λ off i u first. ⊎_elim
    (λ (lt : i < length sessions). c.loop-image.invariant.asked off i u (omega (arith, c.loop-image-test.false)) first)
    (λ (ge : length sessions ≤ i). absurd (none-some u (sym (get_or_past sessions i None ge) ∙ first.open_here)))
    (cases_lt i (length sessions)))
