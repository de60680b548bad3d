use Rattle.std.proofs.Common.{length, ap}
use Rattle.image_reading.specs.Gathered.{dependency_spelling, group_spelling}
use Rattle.image_reading.proofs.Gathered.{HasMet-none}
use Rattle.image_reading.proofs.Occurrences.{HasGatheredProtected-none}
use Rattle.image_reading.proofs.front.protected_area.Goals as goal

pub returns-then-size-eq0-clause-gathered : goal.returns-then-size-eq0-clause-gathered
returns-then-size-eq0-clause-gathered g c =
    let chip = g.M.Medium.chip c.args.medium.now in
    HasGatheredProtected-none chip c.first.result c.new.result c.new-then-size-eq0.result _
    (ap length (c.first.ensures.bytes chip))
    (HasMet-none dependency_spelling 16 _ _ c.clear.ensures c.new.ensures.bad c.new.ensures.too_many)
    (HasMet-none group_spelling 4 _ _ c.clear-2.ensures c.new-then-size-eq0.ensures.bad
    c.new-then-size-eq0.ensures.too_many)
