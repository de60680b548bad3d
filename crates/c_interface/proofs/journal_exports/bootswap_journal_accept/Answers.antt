use Rattle.c_interface.specs.Recording.{Given}
use Rattle.c_interface.proofs.journal_exports.bootswap_journal_accept.Goals as goal

pub returns : goal.returns
returns c = Given _ (c.put_manifest.ensures.some c.if-not-put_manifest.false) c.record_and_report.ensures
