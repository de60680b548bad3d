use Rattle.std.proofs.Common.{refl}
use Rattle.c_interface.specs.State.{Read, SetupRefused}
use Rattle.c_interface.proofs.state.bootswap_state.Goals as goal

pub returns-in-Ok : goal.returns-in-Ok
returns-in-Ok c = Read c.in-Ok.checked c.in-Ok.ensures.checked c.read_on.ensures

pub returns-in-Err : goal.returns-in-Err
returns-in-Err c = SetupRefused c.in-Err.ensures.refused refl
