use Rattle.std.proofs.Common.{◌≡◌, ◌≤◌, ◌*◌, length, map, take}
use Rattle.image_reading.specs.Area.{entries_bytes}
use Rattle.tlv.specs.Making.{group_entry, groups_of}
use Rattle.tlv.proofs.make.groups.groups_length.Given as goal

abbrev pub invariant-loop-alternatives : goal.invariant-loop-alternatives
invariant-loop-alternatives l = record {
  length_of : l.length
      ≡ length (entries_bytes (map group_entry (groups_of (take l.alternatives-index l.groups))));
  few : l.length ≤ 52 * l.alternatives-index;
}
