use Rattle.std.proofs.Common.{rules, refl}
use Rattle.c_interface.specs.Description.{Faulty, Intact}
use Rattle.c_interface.proofs.describing.bootswap_describe.Goals as goal

pub returns-in-Ok : goal.returns-in-Ok
returns-in-Ok c = Intact c.in-Ok.found c.in-Ok.ensures.described c.description_of.ensures refl

pub returns-in-Err : goal.returns-in-Err
returns-in-Err c = Faulty c.in-Err.fault c.in-Err.ensures.fault (search rules) refl
