use Rattle.std.proofs.Common.{◌∙◌, sym}
use Rattle.flash_model.proofs.MemoryLaws.{below_pushed}
use Rattle.flash_model.proofs.Reached.{reached_pushed}
use Rattle.flash_model.specs.Chip.{unarmed}
use Rattle.flash_model.proofs.WrittenLaws.{written_pushed}
use Rattle.flash_model.proofs.memory.MemFlash.arm.Goals as goal

pub invariant_of-self-clause-cut_as_armed : goal.invariant_of-self-clause-cut_as_armed
invariant_of-self-clause-cut_as_armed g c =
    let flash = c.args.self.now in
    flash.cut_as_armed
    ∙ sym (reached_pushed _ flash.armed.items _ _ flash.writes c.push.ensures.items c.if-is_over.ensures)

pub invariant_of-self-clause-armed_below : goal.invariant_of-self-clause-armed_below
invariant_of-self-clause-armed_below g c =
    below_pushed _ c.args.self.now.armed.items _ _ _ c.push.ensures.items c.args.self.now.armed_below c.requires

pub invariant_of-self-clause-written : goal.invariant_of-self-clause-written
invariant_of-self-clause-written g c =
    let flash = c.args.self.now in
    written_pushed _ _ (record unarmed { first = flash.origin.first }) _ flash.writes flash.armed.items _ _
    c.push.ensures.items c.requires c.if-is_over.ensures flash.written
