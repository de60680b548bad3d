use Rattle.std.proofs.Common.{arith, ap, ◌∙◌, ◌==◌, ◌-◌, ◌≤◌, length, drop, length-drop}
use Rattle.std.proofs.lemmas.List.{take_all}
use Rattle.std.specs.List.{list_all}
use Rattle.set_log.proofs.state.has_no_floor_from.Goals as goal

pub returns : goal.returns
returns c =
    let left = drop c.args.images c.args.floors.now in
    let few : length left ≤ 8 - c.args.images =
    omega (arith, length-drop c.args.images c.args.floors.now) in
    c.are_zero.ensures ∙ ap (list_all (λ floor. floor == 0)) (take_all (8 - c.args.images) left few)
