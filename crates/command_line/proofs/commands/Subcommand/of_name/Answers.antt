use Rattle.std.proofs.Common.{◌∙◌, List, ap, not, sym, true}
use Rattle.std.proofs.lemmas.List.{take_all}
use Rattle.std.specs.Prelude.{fold}
use Rattle.std.specs.Str.{bytes_eq}
use Rattle.clap.specs.Words.{Text}
use Rattle.command_line.specs.declared.commands.Subcommand.{Subcommand}
use Rattle.command_line.specs.declared.commands.TheConstants.{SUBCOMMANDS}
use Rattle.command_line.proofs.Folds.{fold-more}
use Rattle.command_line.proofs.Names.{is_other, none_named}
use Rattle.command_line.proofs.commands.Subcommand.of_name.Goals as goal

-- No subcommand has the name.
pub returns : goal.returns
returns c = λ one same.
    let all = take_all c.loop-subcommand.subcommand-index SUBCOMMANDS c.loop-subcommand-test.false in
    none_named c.args.name.now one
    (c.loop-subcommand.invariant ∙ ap (λ (ss : List Subcommand). fold (is_other c.args.name.now) true ss) all) same

-- One more subcommand doesn't have the name.
pub loop-subcommand-preserved : goal.loop-subcommand-preserved
loop-subcommand-preserved c =
    let differs = sym (ap (λ (n : Text). bytes_eq n c.args.name.now) c.name.ensures) ∙ sym c.eq.ensures ∙ c.if-eq.false in
    fold-more (is_other c.args.name.now) true SUBCOMMANDS c.loop-subcommand.subcommand-index _ true true
    c.loop-subcommand-test.true c.loop-subcommand.invariant (sym (ap not differs))
