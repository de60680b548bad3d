use Rattle.std.proofs.Common.{sym, subst}
use Rattle.c_interface.specs.Answers.{Replied, NotCalled}
use Rattle.c_interface.specs.Calls.{CallsOn}
use Rattle.c_interface.proofs.exports.call_and_report.Goals as goal

pub returns-in-Ok : goal.returns-in-Ok
returns-in-Ok g c =
    let reply = g.C.Answer.Answer.reply c.call_device.new.answer in
    Replied reply
    (subst (λ n. CallsOn c.args.setup.now c.args.cuts.now (g.C.Call.call c.args.asked.now) c.args.flash.now c.args.saved.now
    c.call_device.new.bytes c.call_device.new.saved reply n) (sym c.report.ensures.writes) c.in-Ok.ensures.outcome)
    c.report.ensures.fields c.report.ensures.journal c.report.ensures.texts c.report.ensures.number

pub returns-in-Err : goal.returns-in-Err
returns-in-Err g c = let none = c.in-Err.ensures.refused in NotCalled none.0 none.1 none.2 c.put_no_result.ensures
