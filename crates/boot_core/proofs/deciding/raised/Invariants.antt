use Rattle.flash_contents.specs.Reading.{AreRaisedBy}
use Rattle.boot_core.proofs.deciding.raised.Given as goal

abbrev pub invariant-loop-number : goal.invariant-loop-number
invariant-loop-number l = AreRaisedBy l.images l.mask l.number l.floors l.raised
