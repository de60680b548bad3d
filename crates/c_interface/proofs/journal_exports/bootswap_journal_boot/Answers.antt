use Rattle.c_interface.proofs.Lifecycle.{boot_recorded}
use Rattle.c_interface.proofs.journal_exports.bootswap_journal_boot.Goals as goal

pub returns-clause-boot : goal.returns-clause-boot
returns-clause-boot c = boot_recorded c.args.setup.now _ _ _ _ _ _ _ _ c.record_and_report.ensures
