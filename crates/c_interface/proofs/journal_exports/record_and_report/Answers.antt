use Rattle.std.proofs.Common.{ℕ, ap, sym, subst}
use Rattle.slice_flash.specs.Overlay.{replayed}
use Rattle.c_interface.specs.declared.call_result.CallResult.{CallResult}
use Rattle.c_interface.specs.Recording.{Replied, NotCalled, RecordsOn, performed}
use Rattle.c_interface.proofs.journal_exports.record_and_report.Goals as goal

pub returns-in-Ok : goal.returns-in-Ok
returns-in-Ok g c =
    let reply = g.C.Answer.Answer.reply c.record_device.new.answer in
    let on = λ (n u : ℕ). RecordsOn c.args.setup.now (g.C.Call.call c.args.asked.now) c.args.flash.now c.args.saved.now
    (replayed c.args.flash.now c.record_device.new.journal n) c.record_device.new.saved c.args.journal.now
    c.record_device.new.journal reply n u in
    Replied reply
    (subst (λ n. on n c.report.new.call_result.journal_length) (sym c.report.ensures.writes)
    (subst (λ u. on c.in-Ok.outcome.writes u) (sym c.report.ensures.journal) c.in-Ok.ensures.outcome))
    c.report.ensures.fields c.report.ensures.texts c.report.ensures.number

pub returns-in-Err : goal.returns-in-Err
returns-in-Err g c = let none = c.in-Err.ensures.refused in NotCalled none.0
    (ap (λ (r : CallResult). performed c.args.flash.now c.record_device.new.journal r) c.put_no_result.ensures) none.1 none.2
    c.put_no_result.ensures
