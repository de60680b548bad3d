use Rattle.std.proofs.lemmas.Bool.{false≢true}
use Rattle.manifest.proofs.json.has_names.Goals as goal

pub returns-in-Some : goal.returns-in-Some
returns-in-Some c = rw (← c.in-Some.ensures) c.are_names.ensures

pub returns-in-None : goal.returns-in-None
returns-in-None c = rw (← c.in-None.ensures) (λ no. absurd (false≢true no), λ names. absurd names)
