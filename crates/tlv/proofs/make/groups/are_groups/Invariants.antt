use Rattle.std.proofs.Common.{take}
use Rattle.std.specs.List.{AllByRecursion}
use Rattle.tlv.specs.Making.{HasAlternatives, groups_of}
use Rattle.tlv.proofs.make.groups.are_groups.Given as goal

abbrev pub invariant-loop-alternatives : goal.invariant-loop-alternatives
invariant-loop-alternatives l = AllByRecursion HasAlternatives (groups_of (take l.alternatives-index l.groups))
