use Rattle.std.proofs.Common.{◌∷◌, [], codes, map}
use Rattle.inspecting.proofs.ResultLaws.{OnOk-then}
use Rattle.inspecting.proofs.SummaryLaws.{AddsRows-both, AddsRows-device}
use Rattle.inspecting.specs.Summary.{once, outcome_keys}
use Rattle.inspecting.proofs.fleet.summary.Summary.add.Goals as goal

-- The keys of the device are counted.
pub returns : goal.returns
returns c = OnOk-then c.add_outcome.result (λ adds plan planned named is was.
    let name = c.args.name.now in
    let keys = AddsRows-both (once name (codes "device") ∷ []) (map (once name) (outcome_keys c.args.outcome.now)) _ _ _ c.in_ok-count.ensures adds in
    AddsRows-device plan planned _ _ (rw (named, is) at keys) was) c.add_outcome.ensures
