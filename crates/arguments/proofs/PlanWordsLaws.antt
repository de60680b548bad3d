-- When the arguments of `plan` give no order.
use Rattle.std.proofs.Common.{◌≡◌, List, codes, false}
use Rattle.std.specs.List.{AllZip}
use Rattle.clap.specs.Words.{Row}
use Rattle.command_line.specs.Given.{is_given}
use Rattle.command_line.specs.Orders.{IsRequestedFile, SaysPlan, texts_at}
use Rattle.command_line.specs.declared.orders.PlanOrder.{PlanOrder}
use Rattle.command_line.specs.declared.orders.PlanOrder.TheVariants.{Fleet, Merge}
use Rattle.command_line.specs.declared.orders.RequestedFile.{RequestedFile}

-- Without `--merge`, an order has the files that are requested.
pub none_requested : (rows : List Row) → is_given (codes "merge") rows ≡ false
    → ((files : List RequestedFile) → AllZip IsRequestedFile (texts_at (codes "request") rows) files → ⊥)
    → (one : PlanOrder) → SaysPlan rows one → ⊥
none_requested rows plan none (Fleet fleet requests is_summary) says = none requests.items says.requests_are
none_requested rows plan none (Merge summaries) says = absurd (cc (plan, says.merge))
