use Rattle.std.proofs.Common.{refl}
use Rattle.tlv.proofs.MakingSteps.{puts_more}
use Rattle.tlv.proofs.make.entries.put_head.Goals as goal

pub returns : goal.returns
returns c =
    puts_more c.put-place.ensures c.put.ensures
    (rw (c.to_le_bytes.ensures, c.to_le_bytes-2.ensures) refl)
