use Rattle.std.proofs.Common.{◌≡◌, take, true}
use Rattle.std.specs.Prelude.{fold}
use Rattle.command_line.specs.declared.commands.TheConstants.{SUBCOMMANDS}
use Rattle.command_line.proofs.Names.{is_other}
use Rattle.command_line.proofs.commands.Subcommand.of_name.Given as goal

-- None of the subcommands so far has the name.
abbrev pub invariant-loop-subcommand : goal.invariant-loop-subcommand
invariant-loop-subcommand l =
    true ≡ fold (is_other l.name) true (take l.subcommand-index SUBCOMMANDS)
