use Rattle.std.proofs.Common.{◌+◌, arith, refl}
use Rattle.std.proofs.lemmas.Result.{IfOk-weaker}
use Rattle.flash_contents.proofs.Standing.{stands_steady}
use Rattle.set_log.specs.declared.state.RecordKind.TheVariants as log
use Rattle.boot_core.proofs.Booted.{boot_as, boot_wider, boots_idle, boots_stop, recorded_moves}
use Rattle.decision.specs.Places.{read_as}
use Rattle.boot_core.specs.Places.{reply_in}
use Rattle.boot_core.proofs.Asking.{asks_begins}
use Rattle.boot_core.proofs.boots.boot_from.Goals as goal

pub returns-in-Steady : goal.returns-in-Steady
returns-in-Steady g c =
    let rests = stands_steady c.args.map.now (g.F.Flash.chip c.args.flash.now) in
    boots_idle c.args.map.now c.args.state.now c.args.left _ _
    (read_as (reply_in c.boot_from_steady.new.table c.boot_from_steady.new.report) c.boot_from_steady.result) log.Steady
    c.in-Steady.is
    (boot_as (λ s. rests s _ c.requires.recorded.read c.in-Steady.is)
    (λ reply worn. λ s stands. worn s (rests s _ c.requires.recorded.read c.in-Steady.is stands))
    c.boot_from_steady.ensures.boot)
    (λ finding. tt)
    (IfOk-weaker (read_as (reply_in c.boot_from_steady.new.table c.boot_from_steady.new.report) c.boot_from_steady.result)
    _ _ (λ reply idle. idle _ c.requires.recorded.read c.in-Steady.is) c.boot_from_steady.ensures.idle)
    (IfOk-weaker (read_as (reply_in c.boot_from_steady.new.table c.boot_from_steady.new.report) c.boot_from_steady.result)
    _ _ (λ reply fresh. tt) c.boot_from_steady.ensures.fresh)
    (asks_begins c.args.map.now c.args.state.now _ _ 376 log.Steady c.in-Steady.is refl (omega arith)
    c.boot_from_steady.ensures.begins)

pub returns-in-Swap : goal.returns-in-Swap
returns-in-Swap g c = boots_stop c.args.map.now c.args.state.now c.args.left _ _
    (read_as (reply_in c.boot_from_swap.new.table c.boot_from_swap.new.report) c.boot_from_swap.result) log.Swap c.in-Swap.is
    (boot_wider (recorded_moves c.args.map.now _ c.args.state.now c.requires.recorded.read) c.requires.recorded.laid_out
    c.boot_from_swap.ensures.boot) c.boot_from_swap.ensures.stops (λ reply. (tt, tt)) c.boot_from_swap.ensures.journal

pub returns-in-Settle : goal.returns-in-Settle
returns-in-Settle g c = boots_stop c.args.map.now c.args.state.now c.args.left _ _
    (read_as (reply_in c.boot_from_settle.new.table c.boot_from_settle.new.report) c.boot_from_settle.result) log.Settle
    c.in-Settle.is
    (boot_wider (recorded_moves c.args.map.now _ c.args.state.now c.requires.recorded.read) c.requires.recorded.laid_out
    (boot_as (λ s stands. stands) (λ reply worn. λ s stands. worn) c.boot_from_settle.ensures.boot))
    c.boot_from_settle.ensures.stops (λ reply. (tt, tt)) c.boot_from_settle.ensures.journal

pub returns-in-Trial : goal.returns-in-Trial
returns-in-Trial g c = boots_idle c.args.map.now c.args.state.now c.args.left _ _
    (read_as (reply_in c.boot_from_trial.new.table c.boot_from_trial.new.report) c.boot_from_trial.result) log.Trial
    c.in-Trial.is c.boot_from_trial.ensures.boot (λ finding. tt) c.boot_from_trial.ensures.idle
    c.boot_from_trial.ensures.again c.boot_from_trial.ensures.journal

pub returns-in-Back : goal.returns-in-Back
returns-in-Back g c =
    let booted = c.boot_from_back.ensures c.args.table.now c.args.report.now in
    boots_stop c.args.map.now c.args.state.now c.args.left _ _
    (read_as (reply_in c.args.table.now c.args.report.now) c.boot_from_back.result) log.Back c.in-Back.is
    (boot_wider (recorded_moves c.args.map.now _ c.args.state.now c.requires.recorded.read) c.requires.recorded.laid_out
    (booted.boot.boot (c.args.left + 1))) booted.stops (λ reply. (tt, tt)) booted.journal

pub returns-in-BackSettle : goal.returns-in-BackSettle
returns-in-BackSettle g c =
    let booted = c.boot_from_back_settle.ensures c.args.table.now c.args.report.now in
    boots_stop c.args.map.now c.args.state.now c.args.left _ _
    (read_as (reply_in c.args.table.now c.args.report.now) c.boot_from_back_settle.result) log.BackSettle c.in-BackSettle.is
    (boot_wider (recorded_moves c.args.map.now _ c.args.state.now c.requires.recorded.read) c.requires.recorded.laid_out
    (booted.boot.boot (c.args.left + 1))) booted.stops (λ reply. (tt, tt)) booted.journal
