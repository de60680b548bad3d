use Rattle.std.proofs.Common.{List, map, take}
use Rattle.std.specs.List.{AllZip, flat_map}
use Rattle.inspecting.specs.Row.{Row}
use Rattle.inspecting.specs.Rows.{IsTallied}
use Rattle.inspecting.specs.SummaryText.{IsSummaryText}
use Rattle.inspecting.proofs.fleet.merging.merge_over.Given as goal

-- The texts so far are those of summaries, whose rows are added.
abbrev pub invariant-loop-part : goal.invariant-loop-part
invariant-loop-part g l =
    (parts : List (List Row)) × AllZip IsSummaryText (map (λ text. text.items) (take l.part l.parts)) parts
    × IsTallied (flat_map (λ part. part) parts) l.summary.rows
