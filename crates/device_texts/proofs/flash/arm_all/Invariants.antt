use Rattle.std.proofs.Common.{◌≡◌, ◌++◌}
use Rattle.flash_model.specs.Memory.{chip_of, with_armed}
use Rattle.device_texts.specs.FlashOf.{armed_in}
use Rattle.device_texts.proofs.flash.arm_all.Given as goal

-- Only the armed writes of the flash changed: the cuts so far follow those from before.
abbrev pub invariant-loop-cut : goal.invariant-loop-cut
invariant-loop-cut g l =
    (chip_of l.flash ≡ with_armed (chip_of l.fn.flash) (chip_of l.flash).fixed.armed)
    × ((chip_of l.flash).fixed.armed ≡ (chip_of l.fn.flash).fixed.armed ++ armed_in l.yielded)
