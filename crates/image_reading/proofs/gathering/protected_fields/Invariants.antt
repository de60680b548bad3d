use Rattle.image_reading.specs.Fields.{counter_kind, dependency_kind, group_kind}
use Rattle.image_reading.specs.Gathered.{HaveMetDependencies, HaveMetGroups, IsOccurrence}
use Rattle.image_reading.specs.SlotTlvs.{slot_tlvs_rest, slot_values_left, values_at}
use Rattle.image_reading.proofs.Walks.{HasWalked}
use Rattle.image_reading.proofs.gathering.protected_fields.Given as goal

abbrev pub invariant-loop-entry : goal.invariant-loop-entry
invariant-loop-entry g l = record {
  walked : HasWalked (g.M.Medium.chip l.fn.medium) (g.M.Medium.chip l.medium) l.fn.area (slot_tlvs_rest l.protected);
  dependencies : HaveMetDependencies (values_at dependency_kind (g.M.Medium.chip l.fn.medium) l.fn.area)
      (slot_values_left dependency_kind (g.M.Medium.chip l.fn.medium) l.protected)
      l.description.dependencies.items l.dependencies;
  groups : HaveMetGroups (values_at group_kind (g.M.Medium.chip l.fn.medium) l.fn.area)
      (slot_values_left group_kind (g.M.Medium.chip l.fn.medium) l.protected)
      l.description.groups.items l.groups;
  counter : IsOccurrence (g.M.Medium.chip l.fn.medium)
      (values_at counter_kind (g.M.Medium.chip l.fn.medium) l.fn.area)
      (slot_values_left counter_kind (g.M.Medium.chip l.fn.medium) l.protected) l.counter;
}

abbrev pub decreases-loop-entry : goal.decreases-loop-entry
decreases-loop-entry g l = (slot_tlvs_rest l.protected).len
