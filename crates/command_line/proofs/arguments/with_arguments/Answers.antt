use Rattle.std.proofs.Common.{◌∙◌, ap}
use Rattle.std.proofs.lemmas.List.{take_all}
use Rattle.clap.specs.Words.{app_of}
use Rattle.command_line.specs.Commands.{with_argument, with_arguments}
use Rattle.command_line.proofs.Folds.{fold-more}
use Rattle.command_line.proofs.arguments.with_arguments.Goals as goal

-- All arguments were added.
pub returns : goal.returns
returns c = c.loop-argument.invariant
    ∙ ap (with_arguments (app_of c.args.command))
    (take_all c.loop-argument.argument-index c.args.arguments.now c.loop-argument-test.false)

-- One more argument is added.
pub loop-argument-preserved : goal.loop-argument-preserved
loop-argument-preserved c = fold-more with_argument (app_of c.args.command) c.args.arguments.now
    c.loop-argument.argument-index _ (app_of c.loop-argument.command) _ c.loop-argument-test.true
    c.loop-argument.invariant c.in_ok-command.ensures
