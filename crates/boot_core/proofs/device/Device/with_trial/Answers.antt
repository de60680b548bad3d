use Rattle.std.proofs.Common.{rules}
use Rattle.boot_core.proofs.Stopping.{holds_down}
use Rattle.boot_core.proofs.device.Device.with_trial.Goals as goal

pub returns : goal.returns
returns g c = search (rules, holds_down)
