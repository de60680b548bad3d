use Rattle.std.proofs.Common.{arith}
use Rattle.tlv.proofs.MakingSteps.{entry_spelled, puts_more}
use Rattle.tlv.proofs.make.entries.put_entry.Goals as goal

pub returns : goal.returns
returns c =
    puts_more c.put_head-place.ensures c.put.ensures
    (entry_spelled (record { kind = c.args.kind; value = c.args.value.now }) _ (omega arith))
