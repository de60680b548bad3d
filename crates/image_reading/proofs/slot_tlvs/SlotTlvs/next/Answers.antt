use Rattle.std.proofs.Common.{◌+◌, ◌<◌, ◌^◌, arith}
use Rattle.image_reading.proofs.Spans.{CanRead-span}
use Rattle.image_reading.proofs.slot_tlvs.SlotTlvs.next.Goals as goal

pub step-requires : goal.step-requires
step-requires g c =
    let whole = g.met.F.Flash.whole c.args.flash.now in
    let addressed = g.met.F.Flash.addressed c.args.flash.now in
    let near : c.args.self.now.rest.at + c.args.self.now.rest.len < 2 ^ 63 =
    omega (arith, whole, addressed, c.requires) in
    rw c.read.ensures.same (CanRead-span (g.F.Flash.chip c.args.flash.now) c.args.self.now.rest
    c.in_ok-read.ensures.on c.requires near)
