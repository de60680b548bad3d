use Rattle.std.proofs.Common.{refl, rules}
use Rattle.sweep.proofs.ScenarioLaws.{events_more, events_none}
use Rattle.sweep.proofs.scenario_run.run_events.Goals as goal

-- The device took no event yet.
pub loop-event-init : goal.loop-event-init
loop-event-init g c = record { setup = refl; on = search rules; runs = events_none _ _ }

-- The device took one more event.
pub loop-event-preserved : goal.loop-event-preserved
loop-event-preserved g c =
    let within = c.loop-event-test.true in
    record {
      setup = search rules;
      on = search rules;
      runs = events_more c.args.device.now.setup c.loop-event.device.setup _ _ _ c.args.events.now
          c.loop-event.event-index c.event-item.result c.as_deref-event.result c.loop-event.invariant.runs within
          c.event-item.is c.as_deref-event.ensures
          c.loop-event.invariant.setup c.run_event.ensures.runs;
    }
