use Rattle.flash_contents.proofs.SwapTypes.{trial_type, request_type}
use Rattle.flash_contents.proofs.laws.trailers_tell_trials_and_requests.Goals as goal

pub returns-clause-trials : goal.returns-clause-trials
returns-clause-trials c = trial_type

pub returns-clause-requests : goal.returns-clause-requests
returns-clause-requests c = request_type
