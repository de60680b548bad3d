use Rattle.std.proofs.Common.{ℕ, ap, sym, subst}
use Rattle.boot_core.specs.Answers.{reply_of_result}
use Rattle.slice_flash.specs.Overlay.{replayed}
use Rattle.c_interface.specs.declared.call_result.CallResult.{CallResult}
use Rattle.c_interface.specs.Recording.{Provisioned, NotProvisioned, ProvisionsOf, performed}
use Rattle.c_interface.proofs.Lifecycle.{first_recorded}
use Rattle.c_interface.proofs.journal_exports.bootswap_journal_provision.Goals as goal

pub returns-in-Ok-clause-all : goal.returns-in-Ok-clause-all
returns-in-Ok-clause-all c =
    let on = λ (n u : ℕ). ProvisionsOf c.args.setup.now c.args.flash.now
    (replayed c.args.flash.now c.record_provision.new.journal n) c.args.journal.now
    c.record_provision.new.journal (reply_of_result c.record_provision.new.given) n u in
    Provisioned (reply_of_result c.record_provision.new.given)
    (subst (λ n. on n c.report.new.call_result.journal_length) (sym c.report.ensures.writes)
    (subst (λ u. on c.in-Ok.outcome.writes u) (sym c.report.ensures.journal) c.in-Ok.ensures.outcome))
    c.report.ensures.fields c.report.ensures.number

pub returns-in-Err-clause-all : goal.returns-in-Err-clause-all
returns-in-Err-clause-all c = let none = c.in-Err.ensures.refused in NotProvisioned none.0
    (ap (λ (r : CallResult). performed c.args.flash.now c.record_provision.new.journal r) c.put_no_result.ensures) none.1
    c.put_no_result.ensures

pub returns-in-Ok-clause-first : goal.returns-in-Ok-clause-first
returns-in-Ok-clause-first c = first_recorded c.args.setup.now _ _ _ _ _ _ (returns-in-Ok-clause-all c)

pub returns-in-Err-clause-first : goal.returns-in-Err-clause-first
returns-in-Err-clause-first c = first_recorded c.args.setup.now _ _ _ _ _ _ (returns-in-Err-clause-all c)
