use Rattle.std.proofs.Common.{◌∙◌, ap}
use Rattle.std.proofs.lemmas.List.{take_all}
use Rattle.std.specs.Prelude.{fold}
use Rattle.clap.specs.Words.{app_of}
use Rattle.command_line.specs.Commands.{program, with_command}
use Rattle.command_line.specs.declared.commands.TheConstants.{SUBCOMMANDS}
use Rattle.command_line.proofs.Folds.{fold-more}
use Rattle.command_line.proofs.commands.bootswap.Goals as goal

-- The program has all subcommands.
pub returns : goal.returns
returns c = c.loop-subcommand.invariant
    ∙ ap (fold with_command program)
    (take_all c.loop-subcommand.subcommand-index SUBCOMMANDS c.loop-subcommand-test.false)

-- One more subcommand is added.
pub loop-subcommand-preserved : goal.loop-subcommand-preserved
loop-subcommand-preserved c = fold-more with_command program SUBCOMMANDS
    c.loop-subcommand.subcommand-index _ (app_of c.loop-subcommand.program) _ c.loop-subcommand-test.true
    c.loop-subcommand.invariant c.in_ok-program-2.ensures
