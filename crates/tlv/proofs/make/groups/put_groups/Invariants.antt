use Rattle.std.proofs.Common.{map, take}
use Rattle.std.specs.List.{AllByRecursion}
use Rattle.image_reading.specs.Area.{entries_bytes}
use Rattle.image_reading.specs.Fields.{FitsGroup}
use Rattle.tlv.specs.Making.{group_entry, groups_of}
use Rattle.tlv.specs.Writing.{PutsAfter}
use Rattle.tlv.proofs.make.groups.put_groups.Given as goal

abbrev pub invariant-loop-alternatives : goal.invariant-loop-alternatives
invariant-loop-alternatives l = record {
  written : PutsAfter l.initial.place l.initial.buffer
      (entries_bytes (map group_entry (groups_of (take l.alternatives-index l.groups)))) l.end l.buffer;
  fit : AllByRecursion FitsGroup (groups_of (take l.alternatives-index l.groups));
}
