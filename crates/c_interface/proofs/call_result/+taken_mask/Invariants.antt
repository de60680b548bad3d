use Rattle.std.proofs.Common.{length}
use Rattle.c_interface.proofs.call_result.+taken_mask.Given as goal

abbrev pub decreases-taken_mask : goal.decreases-taken_mask
decreases-taken_mask l = length l.images.now
