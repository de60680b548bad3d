use Rattle.std.proofs.Common.{take, ◌≤◌, length}
use Rattle.std.specs.Io.KnownBytes.{Appends}
use Rattle.device_texts.proofs.writing.write_all.Given as goal

-- The writer took the counted bytes.
abbrev pub invariant-loop : goal.invariant-loop
invariant-loop g l =
    record { within : l.written ≤ length l.bytes; appended : Appends (g.W.Write.contents l.fn.out) (g.W.Write.contents l.out) (take l.written l.bytes) }
