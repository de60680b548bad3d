use Rattle.std.proofs.Common.{◌≡◌, ◌^◌, ◌<◌, arith, ap, sym, ◌∙◌, drop, length-drop}
use Rattle.common.specs.Masks.{is_member}
use Rattle.common.proofs.Masks.{mask_in, mask_below, members_in, same_members}
use Rattle.common.proofs.mask.mask_of.Goals as goal

pub overflow_mul-mask : goal.overflow_mul-mask
overflow_mul-mask c =
    let rest = drop c.loop-left.left c.args.members.now in
    let small : mask_in rest < 2 ^ 7 =
    mask_below 7 rest (omega (arith, length-drop c.loop-left.left c.args.members.now, c.requires)) in
    omega (arith, small, c.loop-left.invariant.mask)

pub overflow_add-mask : goal.overflow_add-mask
overflow_add-mask c =
    let rest = drop c.loop-left.left c.args.members.now in
    let small : mask_in rest < 2 ^ 7 =
    mask_below 7 rest (omega (arith, length-drop c.loop-left.left c.args.members.now, c.requires)) in
    omega (arith, small, c.loop-left.invariant.mask, c.bit.ensures.small)

pub returns-clause-each : goal.returns-clause-each
returns-clause-each c = λ i.
    let none : c.loop-left.left ≡ 0 = omega arith in
    let all : c.loop-left.mask ≡ mask_in c.args.members.now =
    c.loop-left.invariant.mask ∙ ap (λ n. mask_in (drop n c.args.members.now)) none in
    ap (λ m. is_member m i) all ∙ members_in c.args.members.now i

pub returns-clause-only : goal.returns-clause-only
returns-clause-only c = λ mask small same. same_members mask c.loop-left.mask small (omega arith)
    (λ i. same i ∙ sym (returns-clause-each c i))
