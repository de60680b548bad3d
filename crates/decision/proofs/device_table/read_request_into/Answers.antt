use Rattle.std.proofs.Common.{rules, ap, subst, sym}
use Rattle.flash_contents.proofs.Rows.{damaged_request, intact_request}
use Rattle.decision.specs.Places.{some_if}
use Rattle.sector_map.specs.declared.layout.Side.TheVariants.{Secondary}
use Rattle.image_reading.specs.Slot.{slot_bytes}
use Rattle.decision.specs.Found.{IsEntryRead, IsRequestHeld}
use Rattle.decision.specs.Rows.{IsRequestIn}
use Rattle.decision.proofs.device_table.read_request_into.Goals as goal

pub returns-then-not-branch : goal.returns-then-not-branch
returns-then-not-branch g c =
    let read = c.in_ok-read_entry_into-in-Some.ensures in
    record {
      same = search rules;
      ok = damaged_request c.args.map.now _ _ c.args.image _ _ _ c.in-Some.is
          c.in_ok-standing.ensures.ok c.standing.ensures.same read.reads.ok
          (ap (λ is. some_if read.entry is) c.if-not-branch.true);
      held = tt;
      ends = search rules;
    }

pub returns-else-not-branch : goal.returns-else-not-branch
returns-else-not-branch g c =
    let read = c.in_ok-read_entry_into-in-Some.ensures in
    record {
      same = search rules;
      ok = subst (λ asked. IsRequestIn c.args.map.now c.args.image (g.F.Flash.chip c.args.flash.now) asked) (sym read.is)
          (intact_request c.args.map.now _ _ c.args.image _ _ _ read.entry c.in-Some.is
          c.in_ok-standing.ensures.ok c.standing.ensures.same read.reads.ok
          (ap (λ is. some_if read.entry is) c.if-not-branch.false));
      held =
          let slot = slot_bytes c.args.map.now (g.F.Flash.chip c.args.flash.now) c.args.image Secondary in
          let entry = subst
          (λ chip. IsEntryRead (slot_bytes c.args.map.now chip c.args.image Secondary)
          (some_if read.entry c.in_ok-read_entry_into-in-Some.field-0)) c.standing.ensures.same read.reads.held in
          subst (λ asked. IsRequestHeld slot asked) (sym read.is)
          (subst (λ is. IsEntryRead slot (some_if read.entry is)) c.if-not-branch.false entry);
      ends = search rules;
    }
