use Rattle.std.proofs.Common.{List, refl, subst, ℕ, IfErr}
use Rattle.std.proofs.KnownBytes.{Appends-nil}
use Rattle.host.specs.declared.error.Refusal.TheVariants.{NoMemory}
use Rattle.device_commands.proofs.TellingLaws.{not_of_file}
use Rattle.device_commands.proofs.replies.write_reply.Goals as goal

-- There was no memory for the line.
pub returns-in_default-clause-begun : goal.returns-in_default-clause-begun
returns-in_default-clause-begun g c = record { count = 0; begun = Appends-nil _; output = not_of_file NoMemory refl }
