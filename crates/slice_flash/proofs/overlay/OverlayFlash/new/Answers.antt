use Rattle.std.proofs.Common.{arith}
use Rattle.slice_flash.proofs.overlay.OverlayFlash.new.Goals as goal

pub invariant_of-result-clause-indexed : goal.invariant_of-result-clause-indexed
invariant_of-result-clause-indexed g c = c.new.ensures c.args.sector_size c.args.base.now c.args.journal.now

pub invariant_of-result-clause-are_bytes : goal.invariant_of-result-clause-are_bytes
invariant_of-result-clause-are_bytes g c = λ k. omega (arith, c.type_inv.base k)
