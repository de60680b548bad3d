use Rattle.std.proofs.Common.{rules, arith, ◌≡◌, ◌/◌, ◌^◌, ◌<◌, ap}
use Rattle.std.proofs.lemmas.Bool.Decides.{nat_tests}
use Rattle.common.proofs.Masks.{below_shift, shift_below}
use Rattle.sector_map.proofs.mask.is_within.Goals as goal

pub returns : goal.returns
returns c =
    let mask = c.args.mask in
    let images = c.args.map.now.images in
    let same : c.from.result / 2 ^ images ≡ mask / 2 ^ images = ap (λ m. m / 2 ^ images) c.from.ensures in
    let small : mask < 2 ^ 8 = search rules in (
      λ shift i member. let none : mask / 2 ^ images ≡ 0 = grind (arith, nat_tests, shift, same) in
          below_shift mask images i none member,
      λ all. let none : mask / 2 ^ images ≡ 0 = shift_below mask images small all in
          grind (arith, nat_tests, none, same),
    )
