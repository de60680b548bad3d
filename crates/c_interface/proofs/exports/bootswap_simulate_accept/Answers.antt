use Rattle.c_interface.specs.Answers.{Given}
use Rattle.c_interface.proofs.exports.bootswap_simulate_accept.Goals as goal

pub returns : goal.returns
returns c = Given _ (c.put_manifest.ensures.some c.if-not-put_manifest.false) c.call_and_report.ensures
