use Rattle.std.proofs.KnownBytes.{Appends-nil}
use Rattle.device_commands.proofs.replies.write_no_map.Goals as goal

-- There was no memory for the line.
pub returns-in_default-clause-begun : goal.returns-in_default-clause-begun
returns-in_default-clause-begun g c = (0, Appends-nil _)
