use Rattle.std.proofs.Common.{◌≡◌, take}
use Rattle.std.specs.Prelude.{fold}
use Rattle.clap.specs.Words.{app_of}
use Rattle.command_line.specs.Commands.{program, with_command}
use Rattle.command_line.specs.declared.commands.TheConstants.{SUBCOMMANDS}
use Rattle.command_line.proofs.commands.bootswap.Given as goal

-- The program has the subcommands so far.
abbrev pub invariant-loop-subcommand : goal.invariant-loop-subcommand
invariant-loop-subcommand l =
    app_of l.program ≡ fold with_command program (take l.subcommand-index SUBCOMMANDS)
