use Rattle.set_log.proofs.Spelled.{spells_of, state_from_back}
use Rattle.set_log.proofs.record.records_are_read_back.Goals as goal

pub returns : goal.returns
returns c = λ images bytes state sized.
    (λ is. spells_of images bytes state is, λ spells. state_from_back images bytes state sized spells)
