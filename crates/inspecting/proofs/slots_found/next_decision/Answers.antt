use Rattle.std.proofs.Common.{◌≡◌, refl, rules}
use Rattle.set_log.specs.declared.state.RecordKind.TheVariants.{Steady}
use Rattle.inspecting.specs.declared.slots_found.NextDecision.TheVariants.{Damaged, Decided, Invalid}
use Rattle.inspecting.proofs.slots_found.next_decision.Goals as goal

-- The decision is over the table that was read.
pub returns-in-Ok-Decided-clause-decision : goal.returns-in-Ok-Decided-clause-decision
returns-in-Ok-Decided-clause-decision g c =
    let steady : c.args.state.now.kind ≡ Steady = search rules in
    let finding = rw c.in-Ok-Decided.field-0-is at c.in-Ok-Decided.ensures in record {
      rests = λ same. (
        Decided c.in-Ok-Decided.table c.in-Ok-Decided.report,
        refl,
        record { of = finding.ok; front = finding.front; cause = tt },
      );
      goes_on = λ other. absurd (other steady);
    }

-- The slot of the damaged image was read of the unchanged flash.
pub returns-in_ok-slot-in-Ok-Damaged-clause-decision : goal.returns-in_ok-slot-in-Ok-Damaged-clause-decision
returns-in_ok-slot-in-Ok-Damaged-clause-decision g c =
    let steady : c.args.state.now.kind ≡ Steady = search rules in
    let finding = rw c.in-Ok-Damaged.field-0-is at c.in-Ok-Damaged.ensures in record {
      rests = λ same. (
        Damaged c.in-Ok-Damaged.image c.in_ok-slot-in-Ok-Damaged.slot,
        refl,
        record {
          of = finding.ok;
          front = finding.front;
          cause = rw finding.same at c.in_ok-slot-in-Ok-Damaged.ensures.bytes;
        },
      );
      goes_on = λ other. absurd (other steady);
    }

-- The table was read of the unchanged flash.
pub returns-in-Ok-Invalid-clause-decision : goal.returns-in-Ok-Invalid-clause-decision
returns-in-Ok-Invalid-clause-decision g c =
    let steady : c.args.state.now.kind ≡ Steady = search rules in
    let finding = rw c.in-Ok-Invalid.field-0-is at c.in-Ok-Invalid.ensures in record {
      rests = λ same. (
        Invalid c.resting_table-table.result,
        refl,
        record {
          of = finding.ok;
          front = finding.front;
          cause = rw finding.same at c.resting_table-table.ensures.table;
        },
      );
      goes_on = λ other. absurd (other steady);
    }
