use Rattle.std.proofs.Common.{rules, refl, inl, inr, arith}
use Rattle.c_interface.specs.Slots.{Described, SetupRefused, NoImage}
use Rattle.c_interface.proofs.slots.bootswap_slot.Goals as goal

pub returns : goal.returns
returns c = Described c.in-Ok.checked c.in-Some.side c.in-Ok.ensures.checked (search rules) (search rules) c.describe_on.ensures

pub returns-in-Err : goal.returns-in-Err
returns-in-Err c = SetupRefused c.in-Err.ensures.refused refl

pub returns-then-image-checked : goal.returns-then-image-checked
returns-then-image-checked c =
    NoImage c.in-Ok.checked c.in-Ok.ensures.checked (inl (omega (arith, c.if-image-checked.true))) refl refl

pub returns-in_default : goal.returns-in_default
returns-in_default c = NoImage c.in-Ok.checked c.in-Ok.ensures.checked (inr (c.side_of.ensures.none (search rules))) refl refl
