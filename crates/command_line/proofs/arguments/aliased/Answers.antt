use Rattle.std.proofs.Common.{◌≡◌, ◌∙◌, [], ◌∷◌, ◌++◌, ap, false, true}
use Rattle.std.proofs.lemmas.Result.{IfOk-weaker}
use Rattle.clap.specs.Words.{Rule, rule_of}
use Rattle.command_line.specs.Commands.{also_named, one_option}
use Rattle.command_line.proofs.Aliases.{rule-aliased, with_aliases}
use Rattle.command_line.proofs.arguments.aliased.Goals as goal

-- The rule of the option, with the second name.
pub returns-clause-rule : goal.returns-clause-rule
returns-clause-rule c =
    IfOk-weaker c.visible_alias.result _
    (λ arg. rule_of arg ≡ also_named (one_option c.args.name.now false) c.args.other.now)
    (λ arg adds. rule-aliased c.option.result arg ((c.args.other, true) ∷ []) adds
    ∙ ap (λ (rule : Rule). with_aliases rule (rule.aliases ++ c.args.other.now ∷ [])) c.option.ensures.rule)
    c.visible_alias.ensures
