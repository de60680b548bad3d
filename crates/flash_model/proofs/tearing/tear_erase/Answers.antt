use Rattle.flash_model.proofs.TornBytes.{same_replaced}
use Rattle.flash_model.proofs.tearing.tear_erase.Goals as goal

pub returns-in-Keep-clause-bytes : goal.returns-in-Keep-clause-bytes
returns-in-Keep-clause-bytes c =
    rw c.in-Keep.is (same_replaced c.args.at c.args.n c.args.all.now c.requires)
