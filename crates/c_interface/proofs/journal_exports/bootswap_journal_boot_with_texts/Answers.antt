use Rattle.std.proofs.Common.{ℕ, ap, sym, subst}
use Rattle.c_interface.specs.BootAnswer.{boot_reply}
use Rattle.c_interface.specs.DeviceCall.{Boot}
use Rattle.slice_flash.specs.Overlay.{replayed}
use Rattle.c_interface.specs.declared.call_result.CallResult.{CallResult}
use Rattle.c_interface.specs.Recording.{Replied, NotCalled, RecordsOn, performed}
use Rattle.c_interface.proofs.Lifecycle.{boot_recorded}
use Rattle.c_interface.proofs.TextLengths.{texts_of_result}
use Rattle.c_interface.proofs.journal_exports.bootswap_journal_boot_with_texts.Goals as goal

pub returns-in-Ok-clause-all : goal.returns-in-Ok-clause-all
returns-in-Ok-clause-all c =
    let on = λ (n u : ℕ). RecordsOn c.args.setup.now Boot c.args.flash.now c.args.saved.now
    (replayed c.args.flash.now c.record_device.new.journal n) c.record_device.new.saved c.args.journal.now c.record_device.new.journal (boot_reply c.record_device.new.answer) n u in
    Replied (boot_reply c.record_device.new.answer)
    (subst (λ n. on n c.put_result.new.call_result.journal_length) (sym c.put_result.ensures.writes)
    (subst (λ u. on c.in-Ok.outcome.writes u) (sym c.put_result.ensures.journal) c.in-Ok.ensures.outcome))
    c.put_result.ensures.fields
    (texts_of_result (boot_reply c.record_device.new.answer) c.put_texts-lengths.result.table c.put_texts-lengths.result.report _ _ _ _
    c.put_result.new.call_result c.put_result.ensures.lengths c.put_texts-lengths.ensures) c.number_of.ensures

pub returns-in-Err-clause-all : goal.returns-in-Err-clause-all
returns-in-Err-clause-all c = let none = c.in-Err.ensures.refused in NotCalled none.0
    (ap (λ (r : CallResult). performed c.args.flash.now c.record_device.new.journal r) c.put_no_result.ensures) none.1 none.2
    c.put_no_result.ensures

pub returns-in-Ok-clause-boot : goal.returns-in-Ok-clause-boot
returns-in-Ok-clause-boot c = boot_recorded c.args.setup.now _ _ _ _ _ _ _ _ (returns-in-Ok-clause-all c)

pub returns-in-Err-clause-boot : goal.returns-in-Err-clause-boot
returns-in-Err-clause-boot c = boot_recorded c.args.setup.now _ _ _ _ _ _ _ _ (returns-in-Err-clause-all c)
