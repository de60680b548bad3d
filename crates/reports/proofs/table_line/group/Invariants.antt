use Rattle.std.proofs.Common.{◌≡◌, ◌-◌, length}
use Rattle.std.specs.Prelude.{option_copied}
use Rattle.common.specs.declared.limits.TheConstants.{MOST_ALTERNATIVES}
use Rattle.reports.specs.LineReading.{group_from, group_of}
use Rattle.reports.proofs.table_line.group.Given as goal

abbrev pub invariant-loop-rest : goal.invariant-loop-rest
invariant-loop-rest l =
    group_from l.group.alternatives.items (option_copied l.rest) ≡ group_of l.fn.fields

abbrev pub decreases-loop-rest : goal.decreases-loop-rest
decreases-loop-rest l = MOST_ALTERNATIVES - length l.group.alternatives.items
