use Rattle.boot_core.proofs.Afresh.{AreWritten}
use Rattle.boot_core.proofs.provisioning.counters_of.Given as goal

abbrev pub invariant-loop-image : goal.invariant-loop-image
invariant-loop-image l = AreWritten l.running l.image l.counters
