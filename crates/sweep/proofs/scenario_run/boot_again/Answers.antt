use Rattle.std.proofs.Common.{rules}
use Rattle.sweep.proofs.ScenarioLaws.{reboots_more}
use Rattle.sweep.proofs.scenario_run.boot_again.Goals as goal

-- The boot wasn't interrupted.
pub returns-then-not-is_cut-clause-reboots : goal.returns-then-not-is_cut-clause-reboots
returns-then-not-is_cut-clause-reboots g c =
    reboots_more c.args.device.now.setup c.loop.device.setup _ _ _ c.reply_to-reply.result c.loop.invariant.reboots
    c.loop.invariant.setup c.reply_to-reply.ensures.steps

-- The boot was interrupted, and the device boots again.
pub loop-preserved : goal.loop-preserved
loop-preserved g c = record {
  setup = search rules;
  on = search rules;
  reboots = reboots_more c.args.device.now.setup c.loop.device.setup _ _ _ c.reply_to-reply.result
      c.loop.invariant.reboots c.loop.invariant.setup c.reply_to-reply.ensures.steps;
}

-- This was the last boot.
pub returns-clause-reboots : goal.returns-clause-reboots
returns-clause-reboots g c =
    reboots_more c.args.device.now.setup c.loop.device.setup _ _ _ c.reply_to.result c.loop.invariant.reboots
    c.loop.invariant.setup c.reply_to.ensures.steps
