use Rattle.std.proofs.Common.{◌≡◌, ◌+◌, ◌≤◌, true, length, take, vec_capacity, vec_len}
use Rattle.flash_contents.specs.Passing.{RunsTo}
use Rattle.machine.specs.Steps.{cuts_in}
use Rattle.boot_core.specs.CutEvents.{IsCutAsDue, StartsAfter, StepsEach}
use Rattle.boot_core.proofs.running.run.Given as goal

abbrev pub invariant-loop-event : goal.invariant-loop-event
invariant-loop-event g l = record {
  setup : l.device.setup ≡ l.initial.device.setup;
  on : l.device.here.flash.is_on ≡ true;
  room : length l.events ≤ vec_capacity l.replies;
  filled : vec_len l.replies ≡ l.event-index;
  count : length l.replies.items ≡ l.event-index;
  runs : RunsTo l.initial.device.setup l.initial.device.here l.device.here (take l.event-index l.events)
      l.replies.items;
  cuts : l.device.here.flash.cuts ≡ l.initial.device.here.flash.cuts + cuts_in l.replies.items;
  due : StepsEach IsCutAsDue l.initial.device.setup l.initial.device.here (take l.event-index l.events) l.replies.items
      l.device.here;
  starts : StepsEach (StartsAfter l.initial.device.setup.map) l.initial.device.setup l.initial.device.here
      (take l.event-index l.events) l.replies.items l.device.here;
}
