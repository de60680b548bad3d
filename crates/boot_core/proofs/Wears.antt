-- How many erases a boot makes, from one function to the next.
use Rattle.std.proofs.Common.{◌≡◌, ℕ, ◌+◌, ◌≤◌, List, Some, Ok, refl, sym, subst, ◌∙◌}
use Rattle.flash_model.specs.Chip.{Chip}
use Rattle.sector_map.specs.declared.layout.SectorMap.{SectorMap}
use Rattle.sector_map.specs.declared.layout.Side.TheVariants.{Secondary}
use Rattle.sector_map.specs.Map.{Keeps}
use Rattle.sector_map.specs.Part.{Log, only}
use Rattle.set_log.specs.Log.{state_of}
use Rattle.set_log.specs.declared.state.State.{State}
use Rattle.machine.specs.Device.{DeviceState, Trial}
use Rattle.upload.specs.View.{view}
use Rattle.upload.specs.Steady.{IsSteadyAt}
use Rattle.flash_contents.specs.Holding.{IsTrialAt, Stands}
use Rattle.flash_contents.specs.Passing.{IsOpenOrAt}
use Rattle.machine.specs.States.{IsConfirmed, settled}
use Rattle.flash_contents.specs.Wear.{members, IsResumed}
use Rattle.machine.specs.declared.reply.Reply.{Reply}
use Rattle.flash_contents.proofs.Trying.{rest_over}
use Rattle.set_log.specs.States.{Appends}
use Rattle.boot_core.specs.Over.{AreFloorsRaised, IsRecordedOver, record_over}
use Rattle.boot_core.specs.Wear.{AreMeasured, IsAfresh, IsSetMoved, IsWorn}
use Rattle.boot_core.proofs.Measured.{fresh_after, fresh_more, fresh_wear}

-- A set reverts: its trailers are prepared, Back is recorded, and the swap back is carried out.
pub fresh_back : (map : SectorMap) (old mid new : Chip) (mask : ℕ) (reply : Reply)
    → mid.erases ≤ old.erases + members map mask + 1
    → AreMeasured (view map old) (view map mid) Secondary mask
    → IsResumed map mid new Secondary mask × IsSetMoved mask reply → IsAfresh map old new 4 reply
fresh_back map old mid new mask reply begun says (carried, is) =
    fresh_more map old new mask reply is (fresh_wear map old old mid new Secondary mask refl begun says carried)

-- A trial is over: the record is written, and a boot at rest follows.
pub over_worn : (map : SectorMap) (old read mid new : Chip) (floors : List ℕ) (reply : Reply) → read ≡ old
    → mid.erases ≤ read.erases + 1 → Keeps map (only Log) read mid
    → ((s : DeviceState) (trial : Trial) → IsTrialAt (view map read) s trial
    → IsSteadyAt (view map mid) (settled s floors))
    → ((s : DeviceState) → IsSteadyAt (view map mid) s → IsAfresh map mid new 3 reply)
    → (s : DeviceState) (trial : Trial) → IsConfirmed s trial → IsOpenOrAt (view map old) s trial
    → IsAfresh map old new 4 reply
over_worn map old read mid new floors reply same one keeps records worn s trial confirmed was =
    let at : IsTrialAt (view map old) s trial = rest_over map old s trial confirmed was in
    fresh_after map old read mid new reply same one keeps (worn (settled s floors)
    (records s trial (subst (λ w. IsTrialAt (view map w) s trial) (sym same) at)))

-- If that boot writes nothing, only the record is written.
pub over_alone : (map : SectorMap) (state : State) (old read mid new : Chip) (floors : List ℕ) → read ≡ old
    → new ≡ mid → AreFloorsRaised map old state.floors floors
    → Appends map (record_over state floors) read mid {T = Unit} (Ok tt) → IsRecordedOver map state old new
over_alone map state old read mid new floors same stays raised appended = record {
  floors = floors;
  raised = raised;
  appended = subst (λ chip. Appends map (record_over state floors) chip new {T = Unit} (Ok tt)) same
      (subst (λ chip. Appends map (record_over state floors) read chip {T = Unit} (Ok tt)) (sym stays) appended);
}

one_some : {X : Type 0} (x y : X) → Some x ≡ Some y → x ≡ y
one_some x y same = cc

-- The record that was read is that of the log.
pub worn_read : (map : SectorMap) (old new : Chip) (found state : State) (reply : Reply)
    → state_of map old ≡ Some found → state_of map old ≡ Some state
    → ((s : DeviceState) → Stands map old s → IsWorn map found.kind found.mask old new reply)
    → (s : DeviceState) → Stands map old s → IsWorn map state.kind state.mask old new reply
worn_read map old new found state reply is stood worn s stands =
    subst (λ (given : State). IsWorn map given.kind given.mask old new reply) (one_some found state (sym is ∙ stood))
    (worn s stands)
