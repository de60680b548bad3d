use Rattle.arguments.proofs.PlanWordsLaws.{none_requested}
use Rattle.arguments.proofs.plan_words.fleet_in.Goals as goal

-- If a requested file isn't valid, the matches give no order.
pub returns-in_default-2 : goal.returns-in_default-2
returns-in_default-2 c =
    none_requested _ c.requires (rw c.in_default-2.is at c.in_ok-requests.ensures)
