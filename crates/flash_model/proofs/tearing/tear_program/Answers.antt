use Rattle.std.proofs.Common.{length}
use Rattle.flash_model.proofs.TornBytes.{same_replaced}
use Rattle.flash_model.proofs.tearing.tear_program.Goals as goal

pub returns-in-Keep-clause-bytes : goal.returns-in-Keep-clause-bytes
returns-in-Keep-clause-bytes c =
    rw c.in-Keep.is (same_replaced c.args.at (length c.args.bytes.now) c.args.all.now c.requires)
