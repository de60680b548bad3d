use Rattle.std.proofs.Common.{rules, ◌↔◌, ◌+◌, ◌*◌, ◌≤◌, IsTrue, slice_index, EachIndex}
use Rattle.sector_map.proofs.MapSizes.{trailers_of_all}
use Rattle.sector_map.proofs.making.hold_trailers.Goals as goal

pub returns : goal.returns
returns c =
    let each : IsTrue c.all.result ↔ EachIndex c.args.counts.now
    (λ k. 24 * slice_index c.args.counts.now k + 56 ≤ c.args.size) = search rules in
    (λ yes. trailers_of_all c.args.size c.args.counts.now c.requires (each.0 yes), λ all. each.1 (λ k lt. all k))
