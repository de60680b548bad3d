use Rattle.image_reading.specs.Fields.{digest_kind}
use Rattle.image_reading.specs.Gathered.{IsOccurrence}
use Rattle.image_reading.specs.SlotTlvs.{slot_tlvs_rest, slot_values_left, values_at}
use Rattle.image_reading.proofs.Walks.{HasWalked}
use Rattle.image_reading.proofs.gathering.unprotected_fields.Given as goal

abbrev pub invariant-loop-entry : goal.invariant-loop-entry
invariant-loop-entry g l = record {
  walked : HasWalked (g.M.Medium.chip l.fn.medium) (g.M.Medium.chip l.medium) l.fn.area (slot_tlvs_rest l.unprotected);
  digest : IsOccurrence (g.M.Medium.chip l.fn.medium)
      (values_at digest_kind (g.M.Medium.chip l.fn.medium) l.fn.area)
      (slot_values_left digest_kind (g.M.Medium.chip l.fn.medium) l.unprotected) l.digest;
}

abbrev pub decreases-loop-entry : goal.decreases-loop-entry
decreases-loop-entry g l = (slot_tlvs_rest l.unprotected).len
