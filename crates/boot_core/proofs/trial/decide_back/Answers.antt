use Rattle.std.proofs.Common.{◌≡◌, ℕ, ◌<◌, ◌∙◌, false, None, ⊎_elim, refl, subst}
use Rattle.sector_map.specs.declared.layout.Side.TheVariants.{Primary, Secondary}
use Rattle.upload.specs.Steady.{IsFront}
use Rattle.upload.specs.View.{view}
use Rattle.flash_contents.specs.Starting.{AreIntact, IsLost, IsLowestLost}
use Rattle.flash_contents.proofs.Starting.{held_lost}
use Rattle.flash_contents.proofs.Trying.{passage_back, passage_never}
use Rattle.boot_core.proofs.Looked.{all_intact, lowest_running}
use Rattle.boot_core.proofs.Passed.{ok_ends, then_ok}
use Rattle.boot_core.proofs.trial.decide_back.Goals as goal

pub returns-in-None : goal.returns-in-None
returns-in-None g c =
    let map = c.args.map.now in
    let old = g.F.Flash.chip c.args.flash.now in
    let state = c.args.state.now in
    record {
      same = c.lowest_damaged.ensures.same;
      looks = (
        c.requires.unconfirmed,
        subst (λ lost. IsLowestLost (view map old) state.mask Secondary lost) c.in-None.is
            c.in_ok-lowest_damaged.ensures.ok,
      );
      left = tt;
      ok = passage_back map old state false c.requires.read c.requires.unconfirmed refl c.requires.done;
      ends = ok_ends c.in_ok-lowest_damaged.ensures.ends;
    }

pub returns-in-None-2 : goal.returns-in-None-2
returns-in-None-2 g c =
    let map = c.args.map.now in
    let old = g.F.Flash.chip c.args.flash.now in
    let state = c.args.state.now in
    let lost : IsLost (view map old) state.mask Secondary c.in-Some.field-0 =
    subst (λ lost. IsLowestLost (view map old) state.mask Secondary lost) c.in-Some.is
    c.in_ok-lowest_damaged.ensures.ok in
    let found = rw c.lowest_damaged.ensures.same at c.in_ok-lowest_damaged-in-Some.ensures.ok in
    let intact : AreIntact (view map old) = all_intact map old c.requires.laid_out
    (subst (λ lost. IsLowestLost (view map old) 255 Primary lost) c.in-None-2.is found) in
    record {
      same = c.lowest_damaged-in-Some.ensures.same ∙ c.lowest_damaged.ensures.same;
      looks = (c.requires.unconfirmed, intact, (c.in-Some.field-0, lost));
      left = ⊎_elim (λ (none : state.left ≡ 0). none)
          (λ (damaged : (i : ℕ) × (i < map.images) × IsFront ((view map old).slot i Primary) None).
          absurd (held_lost _ (intact damaged.0 damaged.1) damaged.2)) c.requires.done;
      ok = λ s trial was. absurd
          (passage_never map old state false c.requires.read c.requires.unconfirmed c.in-Some.field-0 lost s trial was);
      ends = then_ok c.in_ok-lowest_damaged.ensures.ends c.in_ok-lowest_damaged-in-Some.ensures.ends;
    }

pub returns-in-Some-2 : goal.returns-in-Some-2
returns-in-Some-2 g c =
    let map = c.args.map.now in
    let old = g.F.Flash.chip c.args.flash.now in
    let state = c.args.state.now in
    let lost : IsLost (view map old) state.mask Secondary c.in-Some.field-0 =
    subst (λ lost. IsLowestLost (view map old) state.mask Secondary lost) c.in-Some.is
    c.in_ok-lowest_damaged.ensures.ok in
    let found = rw c.lowest_damaged.ensures.same at c.in_ok-lowest_damaged-in-Some.ensures.ok in
    let running : IsLost (view map old) 255 Primary c.in-Some-2.image =
    subst (λ lost. IsLowestLost (view map old) 255 Primary lost) c.in-Some-2.is found in
    record {
      same = c.lowest_damaged-in-Some.ensures.same ∙ c.lowest_damaged.ensures.same;
      looks = (
        c.requires.unconfirmed,
        lowest_running map old c.requires.laid_out c.in-Some-2.image running,
        (c.in-Some.field-0, lost),
      );
      left = tt;
      ok = λ s trial was. absurd
          (passage_never map old state false c.requires.read c.requires.unconfirmed c.in-Some.field-0 lost s trial was);
      ends = then_ok c.in_ok-lowest_damaged.ensures.ends c.in_ok-lowest_damaged-in-Some.ensures.ends;
    }
