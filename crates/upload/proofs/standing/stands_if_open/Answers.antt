use Rattle.upload.proofs.standing.stands_if_open.Goals as goal

pub returns-in-Some : goal.returns-in-Some
returns-in-Some g c = rw c.in-Some.is c.stands.ensures
