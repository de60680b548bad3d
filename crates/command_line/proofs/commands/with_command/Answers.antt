use Rattle.std.proofs.Common.{◌≡◌, ◌∙◌, ap, refl, subst, sym, true}
use Rattle.std.proofs.lemmas.Result.{IfOk-weaker}
use Rattle.clap.specs.Words.{Shape, app_of, with_subcommand}
use Rattle.clap.proofs.SimpleLemmas.{plain_fields}
use Rattle.command_line.specs.Commands.{shape_for, with_command}
use Rattle.command_line.specs.declared.commands.Subcommand.{Subcommand}
use Rattle.command_line.proofs.commands.with_command.Goals as goal

-- No subcommand has a global argument.
is_plain : (subcommand : Subcommand) → (shape_for subcommand).is_plain ≡ true
is_plain subcommand = refl

pub returns : goal.returns
returns c =
    let shape = c.in_ok-command.ensures in
    IfOk-weaker c.subcommand.result _
    (λ more. app_of more ≡ with_command (app_of c.args.program) c.args.subcommand)
    (λ more adds. adds.shape (plain_fields c.in_ok-command.field-0 (subst (λ (s : Shape). s.is_plain ≡ true) (sym shape) (is_plain c.args.subcommand))).globals
    ∙ ap (with_subcommand (app_of c.args.program)) shape)
    c.subcommand.ensures
