-- Runs of a device and its flash are continued.
use Rattle.std.proofs.Common.{◌≡◌, ◌+◌, List, [], ◌∷◌, ◌++◌, refl, sym, subst}
use Rattle.machine.specs.Intake.{Setup}
use Rattle.machine.specs.Steps.{DeviceEvent}
use Rattle.flash_contents.specs.Holding.{DeviceView}
use Rattle.flash_contents.specs.Passing.{StepsTo, RunsTo}
use Rattle.machine.proofs.Runs.{run_more}
use Rattle.machine.specs.declared.reply.Reply.{Reply}

pub runs_none : (setup : Setup) (w : DeviceView) → RunsTo setup w w [] []
runs_none setup w = λ m holds. (m, refl, holds)

pub runs_more : (setup : Setup) (old mid new : DeviceView) (events : List DeviceEvent) (replies : List Reply)
    (event : DeviceEvent) (reply : Reply) → RunsTo setup old mid events replies → StepsTo setup mid new event reply
    → RunsTo setup old new (events ++ event ∷ []) (replies ++ reply ∷ [])
runs_more setup old mid new events replies event reply runs steps = λ m holds.
    let before = runs m holds in
    let after = steps before.0 before.2 in
    (after.0, run_more setup m before.0 after.0 events replies event reply before.1 after.1, after.2)

-- A run continues by one step, as a loop over events needs it.
pub runs_on : (setup here : Setup) (old mid new : DeviceView) (events more : List DeviceEvent)
    (replies answered : List Reply) (event : DeviceEvent) (reply : Reply) → here ≡ setup
    → more ≡ events ++ event ∷ [] → answered ≡ replies ++ reply ∷ []
    → RunsTo setup old mid events replies → StepsTo here mid new event reply → RunsTo setup old new more answered
runs_on setup here old mid new events more replies answered event reply same is also runs steps =
    subst (λ es. RunsTo setup old new es answered) (sym is)
    (subst (λ rs. RunsTo setup old new (events ++ event ∷ []) rs) (sym also)
    (runs_more setup old mid new events replies event reply runs
    (subst (λ s. StepsTo s mid new event reply) same steps)))
