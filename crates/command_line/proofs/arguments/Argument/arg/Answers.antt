-- The help of an argument isn't part of its rule. The rest is proved step by step.
use Rattle.std.proofs.Common.{Some, ap, true}
use Rattle.clap.specs.Words.{Rule}
use Rattle.clap.specs.declared.builder.action.ArgAction.TheVariants.{Append}
use Rattle.command_line.proofs.arguments.Argument.arg.Goals as goal

pub returns-in-File-clause-rule : goal.returns-in-File-clause-rule
returns-in-File-clause-rule c = rw (c.in-File.is, c.help.ensures, c.required.ensures)
    (ap (λ (rule : Rule). record rule { required = true }) c.new.ensures.rule)

pub returns-in-File-clause-local : goal.returns-in-File-clause-local
returns-in-File-clause-local c = rw (c.help.ensures, c.required.ensures) c.new.ensures.optional.1

pub returns-in-Files-clause-rule : goal.returns-in-Files-clause-rule
returns-in-Files-clause-rule c = rw (c.in-Files.is, c.help-in-Files.ensures) c.files.ensures.rule

pub returns-in-Files-clause-local : goal.returns-in-Files-clause-local
returns-in-Files-clause-local c = rw c.help-in-Files.ensures c.files.ensures.local

pub returns-in-Required-clause-rule : goal.returns-in-Required-clause-rule
returns-in-Required-clause-rule c = rw (c.in-Required.is, c.required-in-Required.ensures)
    (ap (λ (rule : Rule). record rule { required = true }) c.option.ensures.rule)

pub returns-in-Required-clause-local : goal.returns-in-Required-clause-local
returns-in-Required-clause-local c = rw c.required-in-Required.ensures c.option.ensures.local

pub returns-in-Optional-clause-rule : goal.returns-in-Optional-clause-rule
returns-in-Optional-clause-rule c = rw c.in-Optional.is c.option-in-Optional.ensures.rule

pub returns-in-Optional-clause-local : goal.returns-in-Optional-clause-local
returns-in-Optional-clause-local c = c.option-in-Optional.ensures.local

pub returns-in-Aliased-clause-rule : goal.returns-in-Aliased-clause-rule
returns-in-Aliased-clause-rule c = rw c.in-Aliased.is c.aliased.ensures.rule

pub returns-in-Aliased-clause-local : goal.returns-in-Aliased-clause-local
returns-in-Aliased-clause-local c = c.aliased.ensures.local

pub returns-in-Repeated-clause-rule : goal.returns-in-Repeated-clause-rule
returns-in-Repeated-clause-rule c = rw (c.in-Repeated.is, c.action.ensures)
    (ap (λ (rule : Rule). record rule { action = Some Append }) c.option-in-Repeated.ensures.rule)

pub returns-in-Repeated-clause-local : goal.returns-in-Repeated-clause-local
returns-in-Repeated-clause-local c = rw c.action.ensures c.option-in-Repeated.ensures.local

pub returns-in-Flag-clause-rule : goal.returns-in-Flag-clause-rule
returns-in-Flag-clause-rule c = rw (c.in-Flag.is, c.help-in-Flag.ensures) c.flag.ensures.rule

pub returns-in-Flag-clause-local : goal.returns-in-Flag-clause-local
returns-in-Flag-clause-local c = rw c.help-in-Flag.ensures c.flag.ensures.local
