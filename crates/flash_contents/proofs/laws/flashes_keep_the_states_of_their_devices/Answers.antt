use Rattle.flash_contents.proofs.Lifecycle.{holder_anew}
use Rattle.flash_contents.proofs.laws.flashes_keep_the_states_of_their_devices.Goals as goal

pub returns : goal.returns
returns c = holder_anew
