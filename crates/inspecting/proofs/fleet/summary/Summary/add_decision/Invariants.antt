use Rattle.std.proofs.Common.{◌∷◌, map, take}
use Rattle.inspecting.specs.Summary.{once, refusal_key, take_key}
use Rattle.inspecting.specs.SummaryRows.{AddsRows}
use Rattle.inspecting.proofs.fleet.summary.Summary.add_decision.Given as goal

-- The set and the refusals so far are counted.
abbrev pub invariant-loop-refusal : goal.invariant-loop-refusal
invariant-loop-refusal l =
    AddsRows (map (once l.name) (take_key l.decision.report.images.items
    ∷ map (refusal_key l.decision.requested) (take l.refusal-index l.decision.report.refusals.items)))
    l.fn.self.rows l.self.rows
