use Rattle.std.proofs.Common.{◌≡◌, ◌-◌, length}
use Rattle.std.specs.Prelude.{option_copied}
use Rattle.common.specs.declared.limits.TheConstants.{MOST_IMAGES}
use Rattle.inspecting.specs.RowKey.{taken_from, taken_of}
use Rattle.inspecting.proofs.fleet.row_key.taken.Given as goal

-- The images so far, and those that are read from the rest.
abbrev pub invariant-loop-rest : goal.invariant-loop-rest
invariant-loop-rest l = taken_from l.images.items (option_copied l.rest) ≡ taken_of (option_copied l.fn.fields)

abbrev pub decreases-loop-rest : goal.decreases-loop-rest
decreases-loop-rest l = MOST_IMAGES - length l.images.items
