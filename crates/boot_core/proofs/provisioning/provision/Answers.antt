use Rattle.std.proofs.Common.{rules}
use Rattle.boot_core.proofs.Afresh.{damaged_answer, invalid_answer, whole_answer}
use Rattle.boot_core.proofs.FirstHeld.{first_held}
use Rattle.boot_core.proofs.provisioning.provision.Goals as goal

pub returns-clause-first : goal.returns-clause-first
returns-clause-first g c = search (rules, first_held)

pub returns-clause-all : goal.returns-clause-all
returns-clause-all g c = record {
  outside = search rules;
  laid = search rules;
  ok = search rules;
  erased = c.make_device.ensures.erased;
  order = c.make_device.ensures.order;
  refused = search rules;
  damaged = λ on i first. damaged_answer c.args.map.now _ _ c.make_device.result i
      c.make_device.ensures.answers on first;
  invalid = λ on there. invalid_answer c.args.map.now _ _ c.make_device.result
      c.make_device.ensures.answers on there;
  whole = λ on there. whole_answer c.args.map.now _ _ c.make_device.result
      c.make_device.ensures.answers on there;
  off = λ off. record { is = c.make_device.ensures.off off; same = c.make_device.ensures.asleep off };
  journal = c.make_device.ensures.journal;
  ends = search rules;
}
