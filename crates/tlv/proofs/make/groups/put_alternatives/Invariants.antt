use Rattle.std.proofs.Common.{take}
use Rattle.std.specs.List.{AllByRecursion}
use Rattle.image_reading.specs.Fields.{FitsDependency, alternatives_bytes}
use Rattle.tlv.specs.Writing.{PutsAfter}
use Rattle.tlv.proofs.make.groups.put_alternatives.Given as goal

abbrev pub invariant-loop-alternative : goal.invariant-loop-alternative
invariant-loop-alternative l = record {
  written : PutsAfter l.initial.place l.initial.buffer (alternatives_bytes (take l.alternative-index l.alternatives))
      l.end l.buffer;
  fit : AllByRecursion FitsDependency (take l.alternative-index l.alternatives);
}
