use Rattle.std.proofs.Common.{rules}
use Rattle.machine.specs.declared.reply.Reply.TheVariants.{Cut}
use Rattle.boot_core.proofs.Steps.{cut_step}
use Rattle.boot_core.proofs.CutEvents.{due_by_law, due_powered}
use Rattle.boot_core.proofs.running.step.Goals as goal

-- A write was cut, and the device was reset.
pub returns-in-Cut : goal.returns-in-Cut
returns-in-Cut g c = record {
  setup = search rules;
  steps = cut_step c.args.device.now.setup _ _ _ _ _ c.call-reply.ensures.setup
      c.in-Cut.ensures.steps c.reset.ensures.holds;
  cuts = search rules;
  on = search rules;
  starts = tt;
  fixed = search rules;
  due = due_powered _ _ c.reset.new.self.here.flash Cut c.reset.ensures.flash (due_by_law g.F.Flash.chip
      g.met.F.Flash.armed c.flash-before.result.now c.flash-behind.result.now _ _ Cut c.flash-before.ensures
      c.flash-behind.ensures c.in-Cut.ensures.cuts c.in-Cut.ensures.fixed);
}

-- No write was cut.
pub returns-in_default : goal.returns-in_default
returns-in_default g c = record {
  setup = search rules;
  steps = search rules;
  cuts = search rules;
  on = search rules;
  starts = c.call-reply.ensures.starts;
  fixed = search rules;
  due = due_by_law g.F.Flash.chip g.met.F.Flash.armed c.flash-before.result.now c.flash-behind.result.now _ _
      c.call-reply.result c.flash-before.ensures c.flash-behind.ensures c.call-reply.ensures.cuts
      c.call-reply.ensures.fixed;
}
