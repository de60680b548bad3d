use Rattle.std.proofs.Common.{sym, subst}
use Rattle.c_interface.specs.BootAnswer.{boot_reply}
use Rattle.c_interface.specs.DeviceCall.{Boot}
use Rattle.c_interface.specs.Answers.{Replied, NotCalled}
use Rattle.c_interface.specs.Calls.{CallsOn}
use Rattle.c_interface.proofs.Lifecycle.{boot_in}
use Rattle.c_interface.proofs.TextLengths.{texts_of_result}
use Rattle.c_interface.proofs.exports.bootswap_simulate_boot.Goals as goal

pub returns-in-Ok-clause-all : goal.returns-in-Ok-clause-all
returns-in-Ok-clause-all c = Replied (boot_reply c.call_device.new.answer)
    (subst (λ n. CallsOn c.args.setup.now c.args.cuts.now Boot c.args.flash.now c.args.saved.now
    c.call_device.new.bytes c.call_device.new.saved (boot_reply c.call_device.new.answer) n) (sym c.put_result.ensures.writes) c.in-Ok.ensures.outcome)
    c.put_result.ensures.fields c.put_result.ensures.journal
    (texts_of_result (boot_reply c.call_device.new.answer) c.put_texts-lengths.result.table c.put_texts-lengths.result.report _ _ _ _
    c.put_result.new.call_result
    c.put_result.ensures.lengths c.put_texts-lengths.ensures) c.number_of.ensures

pub returns-in-Err-clause-all : goal.returns-in-Err-clause-all
returns-in-Err-clause-all c = let none = c.in-Err.ensures.refused in NotCalled none.0 none.1 none.2 c.put_no_result.ensures

pub returns-in-Ok-clause-boot : goal.returns-in-Ok-clause-boot
returns-in-Ok-clause-boot c = boot_in c.args.setup.now c.args.cuts.now _ _ _ _ _ _ (returns-in-Ok-clause-all c)

pub returns-in-Err-clause-boot : goal.returns-in-Err-clause-boot
returns-in-Err-clause-boot c = boot_in c.args.setup.now c.args.cuts.now _ _ _ _ _ _ (returns-in-Err-clause-all c)
