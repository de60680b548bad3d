use Rattle.std.proofs.Common.{◌↔◌, false, IsTrue, refl, ◌∙◌}
use Rattle.std.proofs.lemmas.Bool.{false≢true}
use Rattle.flash_model.proofs.Ending.{no_error}
use Rattle.upload.specs.Sessions.{IsOpenAt}
use Rattle.upload.specs.View.{view}
use Rattle.upload.proofs.StandingLaws.{counts_told, no_counts, open_told}
use Rattle.upload.proofs.standing.stands.Goals as goal

pub returns-in_default : goal.returns-in_default
returns-in_default g c =
    let map = c.args.map.now in
    let chip = g.F.Flash.chip c.args.flash.now in
    let ok : IsTrue false ↔ IsOpenAt (view map chip) c.args.image c.args.upload.now = (
      λ e. absurd (false≢true e),
      λ stands. absurd (no_counts map chip c.args.image c.args.upload.now c.requires
          (c.written_of.ensures.none c.in_default.is) stands),
    ) in
    open_told map c.args.image c.args.upload.now _ _ _ refl ok (λ off. c.written_of.ensures.none c.in_default.is)

pub returns : goal.returns
returns g c =
    counts_told c.args.map.now c.args.image c.in-Some.written c.args.upload.now _ _ _ _ _ c.requires
    c.in-Some.ensures.some c.in_ok-is_erased.ensures.ok
    (rw c.is_erased_behind.ensures.same at c.in_ok-is_blank.ensures.ok)
    (c.is_blank.ensures.same ∙ c.is_erased_behind.ensures.same)
    (λ off. no_error _ _ (c.in_ok-is_blank.ensures.off (c.in_ok-is_erased.ensures.ends.uncut.on ∙ off))) refl
