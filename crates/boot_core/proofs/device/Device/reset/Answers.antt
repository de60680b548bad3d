use Rattle.std.proofs.Common.{rules, false, subst}
use Rattle.flash_contents.specs.Holding.{Holds}
use Rattle.machine.specs.States.{asleep}
use Rattle.flash_contents.proofs.Stepping.{holds_asleep}
use Rattle.machine.specs.Device.{Machine}
use Rattle.boot_core.specs.Device.{Whole, seen}
use Rattle.boot_core.proofs.device.Device.reset.Goals as goal

pub returns : goal.returns
returns g c = record {
  setup = search rules;
  flash = search rules;
  down = search rules;
  closed = search rules;
  holds = subst
      (λ (whole : Whole). (m : Machine) → Holds whole.setup.map whole.here m → Holds whole.setup.map
      (seen (g.F.Flash.chip c.restart.new.self) c.new-self-inside.result.sessions false) (asleep m.kept))
      c.self.view_is
      (λ m holds. holds_asleep c.self.inside.map (g.F.Flash.chip c.self.inside.flash) _ _ m.kept
      c.self.invariant.laid_out c.restart.ensures c.new-self-inside.ensures holds.stands);
}
