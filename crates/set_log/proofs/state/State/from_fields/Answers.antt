use Rattle.set_log.specs.Record.{fields}
use Rattle.set_log.proofs.state.State.from_fields.Goals as goal

pub returns : goal.returns
unfolding fields
returns c = cc
