use Rattle.std.proofs.Common.{subst, sym}
use Rattle.clap.specs.Words.{found_of, rows_of}
use Rattle.command_line.specs.Orders.{IsOrderOf}
use Rattle.command_line.proofs.OrderLaws.{none_asked_by}
use Rattle.arguments.proofs.requests.order_in.Goals as goal

-- A name that is no subcommand's gives no order.
pub returns-in-None : goal.returns-in-None
returns-in-None c = λ one asks.
    none_asked_by c.in-Some.name.now (rows_of (found_of c.in-Some.names.now)) one c.in-None.ensures
    (subst (λ named. IsOrderOf named one) (sym c.in-Some.ensures) asks)
