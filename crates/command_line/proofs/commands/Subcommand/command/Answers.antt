-- A subcommand has its name, and the rules of its arguments.
use Rattle.std.proofs.Common.{◌≡◌, ◌∙◌, ◌++◌, List, [], ◌∷◌, ap, map, sym}
use Rattle.std.proofs.lemmas.Result.{IfOk-weaker}
use Rattle.std.proofs.lemmas.List.{append-nil, append_assoc}
use Rattle.clap.specs.Words.{App, Rule, Shape, Text, app_of, new_app, shape_of}
use Rattle.clap.specs.Simple.{new_shape}
use Rattle.clap.specs.declared.builder.command.Command.{Command}
use Rattle.command_line.specs.Commands.{name_for, rule_for, shape_for, with_arguments}
use Rattle.command_line.specs.declared.arguments.Argument.{Argument}
use Rattle.command_line.specs.declared.commands.Subcommand.{Subcommand}
use Rattle.command_line.proofs.commands.Subcommand.command.Goals as goal

-- A command of this name with these rules.
abbrev named_with : Text → List Rule → Shape
named_with name rules = record (new_shape name) { rules = rules }

-- A command that has rules already.
abbrev app_with : Text → List Rule → App
app_with name rules = record { top = named_with name rules; subs = [] }

rules_added : (name : Text) (rules : List Rule) (arguments : List Argument)
    → with_arguments (app_with name rules) arguments ≡ app_with name (rules ++ map rule_for arguments)
rules_added name rules [] = sym (ap (app_with name) (append-nil rules))
rules_added name rules (argument ∷ arguments) =
    rules_added name (rules ++ rule_for argument ∷ []) arguments
    ∙ ap (app_with name) (append_assoc rules (rule_for argument ∷ []) (map rule_for arguments))

is_described : (subcommand : Subcommand) (old new : Command) (name : Text) (arguments : List Argument)
    → name ≡ name_for subcommand → map rule_for arguments ≡ (shape_for subcommand).rules
    → app_of old ≡ new_app name → app_of new ≡ with_arguments (app_of old) arguments
    → shape_of new ≡ shape_for subcommand
is_described subcommand old new name arguments same_name same_rules begun adds =
    ap (λ (app : App). app.top)
    (adds ∙ ap (λ (app : App). with_arguments app arguments) begun ∙ rules_added name [] arguments)
    ∙ ap (λ (n : Text). named_with n (map rule_for arguments)) same_name
    ∙ ap (named_with (name_for subcommand)) same_rules

pub returns : goal.returns
returns c = IfOk-weaker c.with_arguments.result _
    (λ command. shape_of command ≡ shape_for c.args.self)
    (λ command adds. is_described c.args.self c.new_command-command.result command c.definition-definition.result.now.name.now
    c.definition-definition.result.now.arguments.now
    c.definition-definition.ensures.name c.definition-definition.ensures.arguments c.new_command-command.ensures adds)
    c.with_arguments.ensures
