use Rattle.std.proofs.Common.{rules, sym, subst}
use Rattle.machine.specs.Boots.{IsEntryOf}
use Rattle.flash_contents.proofs.Rows.{read_some}
use Rattle.image_reading.specs.Slot.{slot_bytes}
use Rattle.flash_contents.specs.Starting.{HoldsEntry}
use Rattle.decision.proofs.Described.{described_entry, described_front, described_held, fault_front, fault_held}
use Rattle.decision.proofs.device_table.read_slot_into.Goals as goal

pub returns : goal.returns
returns g c =
    let begins = rw c.if-not-branch.false at c.in_ok-intact_image_into.ensures.found in
    let description = c.intact_image_into.new.description in
    record {
      same = search rules;
      ok = λ held front.
          subst (λ entry. IsEntryOf held entry) (sym c.put_entry.ensures)
          (read_some _ description held (described_front _ description begins) front);
      front = described_held _ description begins;
      held = subst (λ entry. HoldsEntry (slot_bytes c.args.map.now (g.F.Flash.chip c.args.flash.now) c.args.image c.args.side)
          entry) (sym c.put_entry.ensures) (described_entry _ description begins);
      ends = search rules;
    }

pub returns-then-not-branch : goal.returns-then-not-branch
returns-then-not-branch g c =
    let failed = rw c.if-not-branch.true at c.in_ok-intact_image_into.ensures.found in
    record {
      same = search rules;
      ok = λ held front. fault_front _ failed.0 held failed.1 front;
      front = fault_held _ failed.0 failed.1;
      held = tt;
      ends = search rules;
    }
