use Rattle.std.proofs.Common.{rules, subst}
use Rattle.flash_model.proofs.Ending.{no_error}
use Rattle.flash_model.specs.Chip.{IsUncut}
use Rattle.sector_map.specs.Map.{Keeps}
use Rattle.boot_core.specs.Provisioned.{provided}
use Rattle.boot_core.specs.Provisions.{IsInOrder}
use Rattle.boot_core.proofs.Afresh.{made_device, valid_there}
use Rattle.boot_core.proofs.provisioning.make_device.Goals as goal

pub returns : goal.returns
returns g c = record {
  outside = search rules;
  answers =
      let map = c.args.map.now in
      let old = g.F.Flash.chip c.args.flash.now in
      let new = g.F.Flash.chip c.begin_afresh.new.flash in
      let floors = c.in_ok-floors.floors in
      let judged = c.in_ok-floors.ensures.judged in (
        valid_there map old floors judged,
        made_device map old new floors judged
            (subst (λ chip. Keeps map provided chip new) c.judge.ensures.same c.begin_afresh.ensures.outside)
            c.in_ok-begin_afresh.ensures.ok,
        subst (λ chip. IsUncut chip new) c.judge.ensures.same c.in_ok-begin_afresh.ensures.ends.uncut,
      );
  order = subst (λ chip. IsInOrder c.args.map.now chip (g.F.Flash.chip c.begin_afresh.new.flash))
      c.judge.ensures.same c.begin_afresh.ensures.order;
  erased = c.in_ok-begin_afresh.ensures.ok.cleared;
  off = λ off. absurd (no_error _ _ (c.in_ok-floors.ensures.off off));
  asleep = search rules;
  journal = rw c.judge.ensures.same at c.begin_afresh.ensures.journal;
}
