use Rattle.std.proofs.Common.{take}
use Rattle.device_texts.specs.FlashOf.{armed_in}
use Rattle.sweep.specs.Cuts.{AreArmedFor}
use Rattle.sweep.proofs.cuts.cut_writes.Given as goal

-- The writes so far are armed for the cuts so far.
abbrev pub invariant-loop-cut : goal.invariant-loop-cut
invariant-loop-cut l = AreArmedFor (take l.cut-index l.cuts) (armed_in l.writes.items)
