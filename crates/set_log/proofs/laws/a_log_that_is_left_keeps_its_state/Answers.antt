use Rattle.set_log.proofs.LogFrame.{state_kept, place_kept}
use Rattle.set_log.proofs.laws.a_log_that_is_left_keeps_its_state.Goals as goal

pub returns-clause-state : goal.returns-clause-state
returns-clause-state c = λ touched old new keeps left. state_kept c.args.map.now touched old new keeps left

pub returns-clause-places : goal.returns-clause-places
returns-clause-places c = λ touched old new keeps left. place_kept c.args.map.now touched old new keeps left
