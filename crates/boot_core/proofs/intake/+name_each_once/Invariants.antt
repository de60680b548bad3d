use Rattle.std.proofs.Common.{length}
use Rattle.boot_core.proofs.intake.+name_each_once.Given as goal

abbrev pub decreases-name_each_once : goal.decreases-name_each_once
decreases-name_each_once l = length l.components.now
