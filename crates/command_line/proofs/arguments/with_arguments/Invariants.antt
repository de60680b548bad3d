use Rattle.std.proofs.Common.{◌≡◌, take}
use Rattle.clap.specs.Words.{app_of}
use Rattle.command_line.specs.Commands.{with_arguments}
use Rattle.command_line.proofs.arguments.with_arguments.Given as goal

-- The command has the arguments so far.
abbrev pub invariant-loop-argument : goal.invariant-loop-argument
invariant-loop-argument l =
    app_of l.command ≡ with_arguments (app_of l.fn.command) (take l.argument-index l.arguments)
