use Rattle.std.proofs.Common.{arith}
use Rattle.image_reading.specs.Fields.{alternatives_bytes, group_kind}
use Rattle.image_reading.proofs.GroupLaws.{length-alternatives_bytes}
use Rattle.tlv.proofs.MakingSteps.{entry_spelled, puts_more}
use Rattle.tlv.proofs.make.groups.put_group.Goals as goal

pub returns-clause-entry : goal.returns-clause-entry
returns-clause-entry c =
    let value = alternatives_bytes c.args.alternatives.now in
    puts_more c.put_head-place.ensures c.put_alternatives.ensures.written
    (entry_spelled (record { kind = group_kind; value = value }) _
    (omega (arith, length-alternatives_bytes c.args.alternatives.now)))
