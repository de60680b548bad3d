use Rattle.std.proofs.Common.{ap, sym, ◌∙◌}
use Rattle.std.specs.Prelude.{option_map}
use Rattle.clap.specs.Words.{kind_of}
use Rattle.command_line.proofs.OrderLaws.{misused}
use Rattle.arguments.proofs.requests.request_of.Goals as goal

-- An order that the arguments give is refused for its misuse of standard input.
pub returns-in-Some-clause-refused : goal.returns-in-Some-clause-refused
returns-in-Some-clause-refused c = λ words taken is_order.
    misused words c.args.order c.in-Some.fault c.from.result taken is_order
    (sym c.in_ok-fault.ensures ∙ ap (option_map kind_of) c.in-Some.is) c.from.ensures
