use Rattle.std.proofs.Common.{rules, ap, sym, subst, arith, ◌≡◌, ◌<◌, ◌≤◌, ◌+◌, ◌∙◌, true, map as list_map}
use Rattle.flash_model.specs.Chip.{Chip}
use Rattle.sector_map.specs.Map.{IsLaidOut}
use Rattle.boot_core.specs.Provisioned.{AreRunningRows, IsRowThere, running_bytes}
use Rattle.validity.specs.Running.{running_row}
use Rattle.decision.specs.Places.{some_if}
use Rattle.boot_core.proofs.Afresh.{entries_more, first_damaged, rows_none}
use Rattle.boot_core.proofs.provisioning.read_running.Goals as goal

pub loop-image-init : goal.loop-image-init
loop-image-init g c = record {
  laid_out = c.requires.laid_out;
  few = c.requires.laid_out.is_map.counts.few;
  same = search rules;
  on = λ some. absurd (omega (arith, some));
  rows = subst (λ l. AreRunningRows c.args.map.now (g.F.Flash.chip c.args.flash.now) 0 (list_map running_row l))
      (sym c.clear.ensures) (rows_none c.args.map.now (g.F.Flash.chip c.args.flash.now));
}

pub returns-then-not-branch : goal.returns-then-not-branch
returns-then-not-branch g c =
    let pushed = c.in_ok-push_entry.ensures in
    record {
      same = pushed.reads.same ∙ c.loop-image.invariant.same;
      ok =
          let map = c.args.map.now in
          let old = g.F.Flash.chip c.args.flash.now in
          let lt : c.loop-image.image < c.args.map.now.images = omega arith in
          first_damaged map old c.loop-image.image _ c.loop-image.invariant.rows lt
          (subst (λ found. IsRowThere (running_bytes map old c.loop-image.image) found)
          (ap (λ is. some_if (running_row pushed.entry) is) c.if-not-branch.true)
          (subst (λ chip. IsRowThere (running_bytes map chip c.loop-image.image)
          (some_if (running_row pushed.entry) c.in_ok-push_entry.field-0)) c.loop-image.invariant.same pushed.reads.ok));
      ends = search rules;
      on = subst (λ (chip : Chip). chip.is_on ≡ true) c.loop-image.invariant.same pushed.reads.on;
      off = search rules;
    }

pub loop-image-preserved : goal.loop-image-preserved
loop-image-preserved g c =
    let map = c.args.map.now in
    let old = g.F.Flash.chip c.args.flash.now in
    let pushed = c.in_ok-push_entry.ensures in
    record {
      laid_out = subst (λ chip. IsLaidOut c.args.map.now chip) (sym pushed.reads.same)
          c.loop-image.invariant.laid_out;
      few = search rules;
      same = pushed.reads.same ∙ c.loop-image.invariant.same;
      on = λ some. subst (λ (chip : Chip). chip.is_on ≡ true) c.loop-image.invariant.same pushed.reads.on;
      rows = subst (λ l. AreRunningRows map old (c.loop-image.image + 1) (list_map running_row l)) (sym pushed.pushed)
          (entries_more map old c.loop-image.image _ _ c.loop-image.invariant.rows
          (subst (λ found. IsRowThere (running_bytes map old c.loop-image.image) found)
          (ap (λ is. some_if (running_row pushed.entry) is) c.if-not-branch.false)
          (subst (λ chip. IsRowThere (running_bytes map chip c.loop-image.image)
          (some_if (running_row pushed.entry) c.in_ok-push_entry.field-0)) c.loop-image.invariant.same pushed.reads.ok)));
    }

pub returns : goal.returns
returns g c =
    let some : 1 ≤ c.args.map.now.images = c.requires.laid_out.is_map.counts.one in
    record {
      same = search rules;
      ok = search rules;
      ends = search rules;
      on = c.loop-image.invariant.on (omega arith);
      off = search rules;
    }
