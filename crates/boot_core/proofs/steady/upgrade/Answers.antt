use Rattle.std.proofs.Common.{◌+◌, arith, ap, refl, subst, sym, ◌∙◌}
use Rattle.upload.proofs.Ends.{err_passed}
use Rattle.flash_contents.proofs.Upgrading.{steady_cut}
use Rattle.set_log.specs.Log.{state_of}
use Rattle.sector_map.specs.Map.{IsLaidOut}
use Rattle.sector_map.specs.declared.layout.Side.TheVariants.{Primary}
use Rattle.set_log.specs.declared.state.State.{State}
use Rattle.boot_core.proofs.Booted.{boot_fails, boot_replies}
use Rattle.boot_core.proofs.Measured.{fresh_of, fresh_wear}
use Rattle.boot_core.proofs.OnMap.{layout_same, layout_then}
use Rattle.boot_core.proofs.Passed.{then_ends}
use Rattle.boot_core.proofs.Upgrades.{begun_cuts, begun_here, finished_cuts, finished_ends, found_fresh}
use Rattle.boot_core.specs.Preparing.{IsSetHeld}
use Rattle.boot_core.specs.Wear.{TriesNone}
use Rattle.boot_core.specs.Places.{reply_in}
use Rattle.flash_model.specs.Chip.{Chip}
use Rattle.boot_core.proofs.Asking.{begins_settles, members_few}
use Rattle.boot_core.specs.Journal.{AsksAtMost}
use Rattle.boot_core.proofs.steady.upgrade.Goals as goal

pub begin_swap-requires : goal.begin_swap-requires
begin_swap-requires g c = record {
  laid_out = subst (λ chip. IsLaidOut c.args.map.now chip) (sym c.asks_for_good.ensures.same)
      c.requires.chosen.laid_out;
  read = ap (λ chip. state_of c.args.map.now chip) c.asks_for_good.ensures.same ∙ c.requires.chosen.read;
  some = c.requires.chosen.some;
  within = c.requires.chosen.within;
  held = subst (λ chip. IsSetHeld c.args.map.now c.args.mask chip) (sym c.asks_for_good.ensures.same)
      c.requires.chosen.held;
}

pub finish_swap-requires-clause-recorded : goal.finish_swap-requires-clause-recorded
finish_swap-requires-clause-recorded g c = record {
  laid_out = c.begin_swap.ensures.laid;
  read = c.in_ok-swap.ensures.done.recorded;
  kind = ap (λ (state : State). state.kind) c.in_ok-swap.ensures.done.is;
}

pub returns-in_err-permanent : goal.returns-in_err-permanent
returns-in_err-permanent g c =
    rw (err_passed c.from_residual.result c.in_err-permanent.field-0.0 c.from_residual.ensures.1) (record {
      boot = boot_fails (layout_same c.requires.chosen.laid_out c.asks_for_good.ensures.same)
          (λ s at. steady_cut c.args.map.now (c.args.left + 1) _ _ s c.asks_for_good.ensures.same at.1)
          c.in_err-permanent.ensures.ends;
      some = tt;
      fresh = tt;
      begins = AsksAtMost (omega (arith, ap (λ (chip : Chip). chip.journaled) c.asks_for_good.ensures.same));
    })

pub returns-in_err-swap : goal.returns-in_err-swap
returns-in_err-swap g c =
    let begun = rw c.asks_for_good.ensures.same at c.begin_swap.ensures in
    rw (err_passed c.from_residual-in_err-swap.result c.in_err-swap.field-0.0 c.from_residual-in_err-swap.ensures.1)
    (record {
      boot = boot_fails begun.layout
          (begun_cuts c.args.map.now _ c.args.mask c.args.left _ c.in_ok-permanent.ensures.ok _ begun.stands)
          (then_ends c.in_ok-permanent.ensures.ends c.in_err-swap.ensures.ends);
      some = tt;
      fresh = tt;
      begins = AsksAtMost (omega (arith, begun.journal, members_few c.args.map.now _ c.args.mask c.requires.chosen.laid_out));
    })

pub returns-in_err-finding : goal.returns-in_err-finding
returns-in_err-finding g c =
    let begun = rw c.asks_for_good.ensures.same at c.in_ok-swap.ensures in
    let finished = rw c.in_ok-swap.ensures.done.is at c.finish_swap.ensures in
    rw (err_passed c.from_residual-in_err-finding.result c.in_err-finding.field-0.0 c.from_residual-in_err-finding.ensures.1)
    (record {
      boot = boot_fails (layout_then begun.layout finished.layout)
          (finished_cuts c.args.map.now _ c.args.mask c.args.left _ c.in_ok-permanent.ensures.ok _ _ begun.done.ok
          finished.stands)
          (then_ends begun.ends c.in_err-finding.ensures.ends);
      some = tt;
      fresh = tt;
      begins = begins_settles c.args.map.now c.args.mask _ _ _ c.requires.chosen.some finished.settles;
    })

pub returns : goal.returns
returns g c =
    let map = c.args.map.now in
    let old = g.F.Flash.chip c.args.flash.now in
    let mid = g.F.Flash.chip c.begin_swap.new.flash in
    let new = g.F.Flash.chip c.finish_swap.new.flash in
    let begun = rw c.asks_for_good.ensures.same at c.in_ok-swap.ensures in
    let finished = rw c.in_ok-swap.ensures.done.is at c.in_ok-finding.ensures in
    let asks = c.in_ok-permanent.ensures.ok in
    let swapping = begun_here map old c.args.mask c.args.left _ asks mid new begun.done.ok in
    record {
      boot = boot_replies (c.reply_to.ensures c.finish_swap.new.table c.finish_swap.new.report) (layout_then begun.layout finished.layout)
          (finished_cuts map old c.args.mask c.args.left _ asks mid new begun.done.ok finished.stands)
          (finished_ends map old c.args.mask c.args.left _ asks mid new begun.done.ok _ finished.done.ok)
          (λ s at. fresh_of map old new c.args.mask (reply_in c.finish_swap.new.table c.finish_swap.new.report c.reply_to.result)
          ((c.reply_to.ensures c.finish_swap.new.table c.finish_swap.new.report).moved s _ (finished.done.ok s at.0 (swapping s at)).0 finished.done.tells.set)
          (fresh_wear map old old mid new Primary c.args.mask refl begun.done.erases begun.done.moves
          (finished.done.erases s at.0 _ (swapping s at))))
          finished.done.tells.starts (then_ends begun.ends c.in_ok-finding.ensures.ends);
      some = λ s at. (c.reply_to.ensures c.finish_swap.new.table c.finish_swap.new.report).some s _ (finished.done.ok s at.0 (swapping s at)).0 finished.done.tells.set
          c.requires.chosen.some;
      begins = begins_settles map c.args.mask _ old new c.requires.chosen.some finished.settles;
      fresh = subst (λ reply. TriesNone reply)
          (sym (c.reply_to.ensures c.finish_swap.new.table c.finish_swap.new.report).is) (found_fresh _ _);
    }
