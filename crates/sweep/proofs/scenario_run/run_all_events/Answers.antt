use Rattle.std.proofs.Common.{◌∙◌}
use Rattle.sweep.proofs.ScenarioLaws.{events_join}
use Rattle.sweep.proofs.scenario_run.run_all_events.Goals as goal

-- The device took the three parts in turn.
pub returns-clause-runs : goal.returns-clause-runs
returns-clause-runs g c =
    let setup = c.args.device.now.setup in
    let same = c.in_ok-run_events.ensures.setup in
    let first = events_join setup c.run_events.new.device.setup _ _ _ _ _ c.in_ok-run_events.ensures.runs same
    c.in_ok-run_events-2.ensures.runs in
    events_join setup c.run_events-2.new.device.setup _ _ _ _ _ first (c.in_ok-run_events-2.ensures.setup ∙ same)
    c.in_ok-run_events-3.ensures.runs
