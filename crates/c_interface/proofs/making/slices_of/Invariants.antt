use Rattle.std.proofs.Common.{◌≡◌, length, take}
use Rattle.tlv.specs.Making.{groups_of}
use Rattle.c_interface.proofs.making.slices_of.Given as goal

abbrev pub invariant-loop-i : goal.invariant-loop-i
invariant-loop-i l = record {
  long : length l.slices ≡ 4;
  each : groups_of (take l.i l.slices) ≡ take l.i l.groups;
}
