use Rattle.std.proofs.Common.{[]}
use Rattle.std.proofs.KnownBytes.{Appends-nil}
use Rattle.boot_cli.proofs.answering.write_last_notes.Goals as goal

-- There was no memory for the object.
pub returns-in_default-clause-begun : goal.returns-in_default-clause-begun
returns-in_default-clause-begun g c = ([], (0, Appends-nil _))
