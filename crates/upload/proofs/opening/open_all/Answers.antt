use Rattle.std.proofs.Common.{arith, ◌+◌, ◌≤◌, false, length, take, take_all, get_or, None, [], refl, subst}
use Rattle.sector_map.specs.Map.{Keeps}
use Rattle.sector_map.proofs.Parts.{keeps_refl, keeps_wider, laid_out_kept}
use Rattle.flash_model.proofs.Ending.{asleep_trans, ends_after, ends_well, uncut_refl, uncut_trans}
use Rattle.manifest.specs.declared.manifest.Component.{Component}
use Rattle.upload.specs.View.{view}
use Rattle.upload.specs.Accepted.{IsOpened, named_parts}
use Rattle.machine.specs.Accepted.{latest}
use Rattle.upload.proofs.Views.{view_kept, view_long}
use Rattle.upload.proofs.Opened.{first_parts, keeps_more, latest_at, latest_less, opening_more, opening_wider, opened_more, opened_none}
use Rattle.upload.proofs.Ends.{err_passed}
use Rattle.upload.proofs.Worn.{idle_more, journal_more, worn_last, worn_next}
use Rattle.upload.proofs.opening.open_all.Goals as goal

abbrev blank : Component
blank = record { image = 0; permanent = false; size = 0; digest = []; precursor = None }

pub loop-component-init : goal.loop-component-init
loop-component-init g c = record {
  outside = keeps_refl _ _ _;
  opened = opened_none _ _ c.args.components.now;
  erases = omega arith;
  journal = omega arith;
  idle = λ still. refl;
  uncut = uncut_refl _;
  asleep = λ off. refl;
}

pub open_one-requires : goal.open_one-requires
open_one-requires g c = record {
  laid_out = laid_out_kept c.args.map.now _ _ (g.F.Flash.chip c.loop-component.flash) c.requires.laid_out
      c.loop-component.invariant.outside;
  there = c.requires.there c.loop-component.component-index blank c.loop-component-test.true;
}

pub returns-in_err-open_one : goal.returns-in_err-open_one
returns-in_err-open_one g c =
    let cs = c.args.components.now in
    let map = c.args.map.now in
    let next = latest_at cs c.loop-component.component-index blank c.loop-component-test.true in
    rw (err_passed _ _ c.from_residual.ensures.1) (record {
      outside = keeps_wider map _ (named_parts cs) _ _ (first_parts cs (c.loop-component.component-index + 1))
          (keeps_more (take c.loop-component.component-index cs) (take (c.loop-component.component-index + 1) cs)
          (get_or cs c.loop-component.component-index blank) next map _ _ _
          c.loop-component.invariant.outside c.open_one.ensures.opens.outside);
      opening = opening_wider _ _ (latest (take (c.loop-component.component-index + 1) cs)) (latest cs)
          (latest_less cs (c.loop-component.component-index + 1))
          (opening_more _ _ _ _ _ (get_or cs c.loop-component.component-index blank) next
          (view_kept map _ _ _ c.open_one.ensures.opens.outside)
          (view_long map _ _ _ _ _ (laid_out_kept map _ _ (g.F.Flash.chip c.loop-component.flash) c.requires.laid_out c.loop-component.invariant.outside) c.open_one.ensures.opens.outside)
          c.open_one.ensures.opens.either c.loop-component.invariant.opened.opening);
      opened = tt;
      erases = tt;
      journal = omega (
        arith,
        journal_more map _ _ _ cs c.loop-component.component-index blank c.loop-component-test.true
            c.open_one.ensures.opens.journal c.loop-component.invariant.journal,
      );
      idle = idle_more map _ _ _ cs c.loop-component.component-index blank c.loop-component-test.true
          c.open_one.ensures.opens.idle c.loop-component.invariant.idle;
      ends = ends_after _ _ (g.F.Flash.chip c.loop-component.flash) _ c.loop-component.invariant.uncut
          c.loop-component.invariant.asleep c.in_err-open_one.ensures.opens.ends;
    })

pub loop-component-preserved : goal.loop-component-preserved
loop-component-preserved g c =
    let cs = c.args.components.now in
    let map = c.args.map.now in
    let next = latest_at cs c.loop-component.component-index blank c.loop-component-test.true in
    record {
      outside = keeps_more (take c.loop-component.component-index cs) (take (c.loop-component.component-index + 1) cs)
          (get_or cs c.loop-component.component-index blank) next map _ _ _
          c.loop-component.invariant.outside c.open_one.ensures.opens.outside;
      opened = opened_more _ _ _ _ _ (get_or cs c.loop-component.component-index blank) next
          (view_kept map _ _ _ c.open_one.ensures.opens.outside) (view_long map _ _ _ _ _ (laid_out_kept map _ _ (g.F.Flash.chip c.loop-component.flash) c.requires.laid_out c.loop-component.invariant.outside) c.open_one.ensures.opens.outside)
          c.open_one.ensures.opens.either _ _ _
          c.in_ok-open_one.ensures.opens.trailer c.in_ok-open_one.ensures.opens.slot c.in_ok-open_one.ensures.table.0
          c.in_ok-open_one.ensures.table.1 c.in_ok-open_one.ensures.table.2 c.loop-component.invariant.opened;
      erases = worn_next map _ _ _ cs c.loop-component.component-index blank c.loop-component-test.true
          c.open_one.ensures.opens.outside c.in_ok-open_one.ensures.opens.erased c.in_ok-open_one.ensures.opens.erases
          c.loop-component.invariant.erases;
      journal = journal_more map _ _ _ cs c.loop-component.component-index blank c.loop-component-test.true
          c.open_one.ensures.opens.journal c.loop-component.invariant.journal;
      idle = idle_more map _ _ _ cs c.loop-component.component-index blank c.loop-component-test.true
          c.open_one.ensures.opens.idle c.loop-component.invariant.idle;
      uncut = uncut_trans _ (g.F.Flash.chip c.loop-component.flash) _ c.loop-component.invariant.uncut
          c.in_ok-open_one.ensures.opens.ends.uncut;
      asleep = asleep_trans _ (g.F.Flash.chip c.loop-component.flash) _ c.loop-component.invariant.uncut
          c.loop-component.invariant.asleep c.open_one.ensures.opens.ends.asleep;
    }

pub returns : goal.returns
returns g c =
    let map = c.args.map.now in
    let cs = c.args.components.now in
    let old = g.F.Flash.chip c.args.flash.now in
    let new = g.F.Flash.chip c.loop-component.flash in
    let all = c.loop-component.invariant in
    let past : length cs ≤ c.loop-component.component-index = omega (arith, c.loop-component-test.false) in
    let whole = take_all c.loop-component.component-index cs past in
    let opened = subst (λ l. IsOpened (view map old) (view map new) c.args.uploads.now.sessions
    c.loop-component.uploads.sessions (latest l)) whole all.opened in
    record {
      outside = subst (λ l. Keeps map (named_parts l) old new) whole all.outside;
      opening = opened.opening;
      opened = opened;
      erases = omega (arith, worn_last map new cs c.loop-component.component-index past, all.erases);
      journal = omega (arith, all.journal);
      idle = all.idle;
      ends = ends_well _ _ _ all.uncut all.asleep;
    }
