use Rattle.std.proofs.Common.{rules, ◌+◌, ◌∙◌, ap, arith, refl, subst, sym}
use Rattle.std.proofs.lemmas.Result.{IfOk-weaker}
use Rattle.upload.proofs.Ends.{err_passed}
use Rattle.machine.specs.Device.{DeviceState}
use Rattle.upload.specs.Steady.{IsSteadyAt}
use Rattle.upload.specs.View.{view}
use Rattle.flash_contents.proofs.Steadying.{chosen_here, ends_damaged, ends_invalid, ends_plain}
use Rattle.flash_contents.proofs.Upgrading.{steady_cut}
use Rattle.flash_contents.specs.Wear.{IsSetIn}
use Rattle.boot_core.specs.FromSteady.{HasChosen}
use Rattle.boot_core.proofs.Booted.{boot_after, boot_fails, boot_wider}
use Rattle.boot_core.proofs.Moves.{mask_asked, mask_moves, set_held, starts_set}
use Rattle.boot_core.specs.Preparing.{IsSetHeld}
use Rattle.boot_core.proofs.Asking.{begins_more}
use Rattle.boot_core.specs.Journal.{AsksAtMost, Begins}
use Rattle.flash_model.specs.Chip.{Chip}
use Rattle.decision.specs.Found.{HasTable, IsFindingHeld}
use Rattle.sector_map.specs.Map.{IsLaidOut}
use Rattle.common.specs.Masks.{is_member}
use Rattle.boot_core.proofs.Measured.{fresh_same}
use Rattle.boot_core.proofs.OnMap.{layout_same}
use Rattle.boot_core.proofs.Resting.{rests_somehow}
use Rattle.boot_core.proofs.Upgrades.{steady_gives}
use Rattle.boot_core.proofs.Undecided.{decided_in}
use Rattle.decision.specs.Places.{finding_in, read_as}
use Rattle.boot_core.specs.Places.{reply_in}
use Rattle.boot_core.proofs.steady.boot_from_steady.Goals as goal

pub returns-in_err-image : goal.returns-in_err-image
returns-in_err-image g c =
    rw (err_passed c.from_residual.result c.in_err-image.field-0.0 c.from_residual.ensures.1) (record {
      boot = boot_fails (layout_same c.requires.recorded.laid_out c.find_into.ensures.same)
          (λ s was. steady_cut c.args.map.now (c.args.left + 1) _ _ s c.find_into.ensures.same was) c.in_err-image.ensures.ends;
      idle = tt;
      fresh = tt;
      begins = AsksAtMost (omega (arith, ap (λ (chip : Chip). chip.journaled) c.find_into.ensures.same));
    })

pub returns-then-mask-eq0 : goal.returns-then-mask-eq0
returns-then-mask-eq0 g c =
    let is : IsSetIn c.taken_mask-mask.result c.find_into.new.report = record { each = c.taken_mask-mask.ensures.each } in
    let held = subst (λ f. IsFindingHeld (view c.args.map.now (g.F.Flash.chip c.args.flash.now)) 0 f)
    (decided_in c.find_into.new.table c.find_into.new.report _ c.in-Decided.is) c.in_ok-image.ensures.held in
    let rows = subst (λ f. HasTable c.args.map.now.images f)
    (decided_in c.find_into.new.table c.find_into.new.report _ c.in-Decided.is) c.in_ok-image.ensures.rows in
    steady_gives c.args.map.now c.args.left _ _ c.taken_mask-mask.result c.requires.recorded.laid_out c.find_into.ensures.same
    (ends_plain c.args.map.now (c.args.left + 1) _ _ _ _ c.requires.recorded.read c.find_into.ensures.same
    c.in_ok-image.ensures.ok _ _ _ (decided_in c.find_into.new.table c.find_into.new.report _ c.in-Decided.is) c.taken_mask-mask.ensures.each c.if-mask-eq0.true)
    is tt tt (starts_set _ c.find_into.new.table c.find_into.new.report 0 rows held.0 held.1
    (λ i. ap (λ m. is_member m i) (sym c.if-mask-eq0.true) ∙ c.taken_mask-mask.ensures.each i)) c.in_ok-image.ensures.ends

pub returns-in-Damaged : goal.returns-in-Damaged
returns-in-Damaged g c =
    steady_gives c.args.map.now c.args.left _ _ 0 c.requires.recorded.laid_out c.find_into.ensures.same
    (ends_damaged c.args.map.now (c.args.left + 1) _ _ _ _ c.requires.recorded.read c.find_into.ensures.same
    c.in_ok-image.ensures.ok _ (ap (λ v. finding_in c.find_into.new.table c.find_into.new.report v) c.in-Damaged.is)) refl tt tt tt c.in_ok-image.ensures.ends

pub returns-in-Invalid : goal.returns-in-Invalid
returns-in-Invalid g c =
    steady_gives c.args.map.now c.args.left _ _ 0 c.requires.recorded.laid_out c.find_into.ensures.same
    (ends_invalid c.args.map.now (c.args.left + 1) _ _ _ _ c.requires.recorded.read c.find_into.ensures.same
    c.in_ok-image.ensures.ok (ap (λ v. finding_in c.find_into.new.table c.find_into.new.report v) c.in-Invalid.is)) refl tt tt tt c.in_ok-image.ensures.ends

pub upgrade-requires-clause-chosen : goal.upgrade-requires-clause-chosen
upgrade-requires-clause-chosen g c =
    let old = g.F.Flash.chip c.args.flash.now in
    let held = subst (λ f. IsFindingHeld (view c.args.map.now old) 0 f)
    (decided_in c.find_into.new.table c.find_into.new.report _ c.in-Decided.is) c.in_ok-image.ensures.held in
    record {
      laid_out = search rules;
      read = search rules;
      some = search rules;
      within = search rules;
      held = subst (λ chip. IsSetHeld c.args.map.now c.taken_mask-mask.result chip) (sym c.find_into.ensures.same)
          (set_held c.args.map.now old c.find_into.new.table c.find_into.new.report c.taken_mask-mask.result held.0 held.1
          c.taken_mask-mask.ensures.each);
    }

pub returns-else-mask-eq0 : goal.returns-else-mask-eq0
returns-else-mask-eq0 g c =
    let old = g.F.Flash.chip c.args.flash.now in
    let mid = g.F.Flash.chip c.find_into.new.flash in
    let chosen : (s : DeviceState) → IsSteadyAt (view c.args.map.now old) s
    → HasChosen c.args.map.now c.taken_mask-mask.result mid s = λ s was.
    let here = chosen_here c.args.map.now (c.args.left + 1) _ _ _ _ c.requires.recorded.read c.find_into.ensures.same
    c.in_ok-image.ensures.ok _ _ _ (decided_in c.find_into.new.table c.find_into.new.report _ c.in-Decided.is) c.in_ok-image.ensures.whole
    c.taken_mask-mask.ensures.each c.if-mask-eq0.false s was in
    (c.find_into.new.table, here.0, here.1) in
    let held = subst (λ f. IsFindingHeld (view c.args.map.now old) 0 f)
    (decided_in c.find_into.new.table c.find_into.new.report _ c.in-Decided.is) c.in_ok-image.ensures.held in
    let laid : IsLaidOut c.args.map.now mid = subst (λ chip. IsLaidOut c.args.map.now chip) (sym c.find_into.ensures.same)
    c.requires.recorded.laid_out in
    let moves = mask_moves c.args.map.now old c.find_into.new.table c.find_into.new.report c.taken_mask-mask.result held.0
    held.1 c.taken_mask-mask.ensures.each in
    record {
      boot = boot_after (layout_same c.requires.recorded.laid_out c.find_into.ensures.same) c.in_ok-image.ensures.ends
          chosen
          (λ reply worn. λ s was. fresh_same c.args.map.now old mid (g.F.Flash.chip c.upgrade.new.flash) 3 reply c.find_into.ensures.same (worn s (chosen s was)))
          (boot_wider moves laid c.upgrade.ensures.boot);
      idle = IfOk-weaker (read_as (reply_in c.upgrade.new.table c.upgrade.new.report) c.upgrade.result) _ _ (λ reply takes. λ state stood kind nothing.
          absurd (rests_somehow c.args.map.now old state stood kind (λ s was. takes s (chosen s was) nothing)))
          c.upgrade.ensures.some;
      fresh = c.upgrade.ensures.fresh;
      begins = begins_more c.args.map.now _ _ 376 old _ (mask_asked c.args.map.now old c.find_into.new.table
          c.find_into.new.report c.taken_mask-mask.result held.0 held.1 c.taken_mask-mask.ensures.each)
          (subst (λ chip. Begins c.args.map.now (λ i. is_member c.taken_mask-mask.result i) 376 chip
          (g.F.Flash.chip c.upgrade.new.flash)) c.find_into.ensures.same c.upgrade.ensures.begins);
    }
