use Rattle.std.proofs.Common.{take}
use Rattle.std.specs.Fmt.{IsPlainFormatter, HasWritten}
use Rattle.inspecting.specs.Summary.{taken_images}
use Rattle.inspecting.proofs.fleet.key.write_images.Given as goal

-- The images so far are written.
abbrev pub invariant-loop-number : goal.invariant-loop-number
invariant-loop-number g l =
    IsPlainFormatter l.initial.f → HasWritten g.W.Write.write_str_gives l.initial.f
    (taken_images 0 (take l.number l.images)) l.f
