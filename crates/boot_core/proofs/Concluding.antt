-- Lemmas for a set that is settled as its record says.
use Rattle.std.proofs.Common.{◌≡◌, ℕ, ◌+◌, ◌*◌, ◌≤◌, Bool, List, Some, Result, Ok, arith, inl, inr, refl, subst, ◌∙◌, ⊎_elim}
use Rattle.std.proofs.lemmas.Result.{IfOk-weaker}
use Rattle.flash_model.specs.Chip.{Chip, Ends}
use Rattle.flash_model.specs.declared.error.FlashError.{FlashError}
use Rattle.sector_map.specs.declared.layout.SectorMap.{SectorMap}
use Rattle.sector_map.specs.Part.{trailers_in}
use Rattle.sector_map.specs.Map.{IsLaidOut, Keeps}
use Rattle.set_log.specs.declared.state.RecordKind.TheVariants as log
use Rattle.set_log.specs.declared.state.State.{State}
use Rattle.set_log.specs.Log.{state_of}
use Rattle.reports.specs.declared.table.Table.{Table}
use Rattle.upload.specs.View.{view}
use Rattle.machine.specs.Device.{DeviceState}
use Rattle.flash_contents.specs.Holding.{AreSettled, IsSwapped}
use Rattle.flash_contents.specs.Wear.{members}
use Rattle.flash_contents.proofs.Swapping.{settling_kept}
use Rattle.boot_core.specs.FromSettle.{RecordsTaken, SettlesAndRecords}
use Rattle.boot_core.proofs.OnMap.{layout_kept, layout_more, log_settled, trailers_settled}
use Rattle.boot_core.proofs.Asking.{settled_logged}
use Rattle.boot_core.proofs.Passed.{ok_both, then_ends}
use Rattle.boot_core.proofs.Records.{read_kept}

-- The set is settled as what its trailers were asked for.
pub settled_as : (map : SectorMap) (chip : Chip) (mask : ℕ) (asked permanent : Bool) → asked ≡ permanent
    → AreSettled (view map chip) mask asked → AreSettled (view map chip) mask permanent
settled_as map chip mask asked permanent is settled = subst (λ b. AreSettled (view map chip) mask b) is settled

-- A set is settled, and then recorded as taken.
pub settles_taken : {value : Unit {0}} (map : SectorMap) (old mid new : Chip) (state : State) (left : ℕ) (floors : List ℕ)
    (result : Result Unit FlashError) → IsLaidOut map old → state_of map old ≡ Some state
    → Keeps map (trailers_in state.mask) old mid
    → AreSettled (view map mid) state.mask state.permanent
    → mid.erases ≤ old.erases + 2 * members map state.mask
    → mid.journaled ≤ old.journaled + 92 * members map state.mask → Ends (Ok value) old mid
    → RecordsTaken map state.permanent left floors mid new result
    → SettlesAndRecords map state left floors old new result
settles_taken {value} map old mid new state left floors result laid read keeps settled few journal ends records =
    let kept = λ (s : DeviceState) (table : Table)
    (was : IsSwapped (view map old) s table log.Settle state.mask state.permanent).
    settling_kept map old mid state.mask keeps s table log.Settle state.permanent was in
    record {
      passes = record {
        layout = layout_more (log_settled state.mask) (layout_kept (trailers_settled state.mask) laid keeps)
            records.outside;
        stands = λ s table was. records.stands s table state.mask (kept s table was) settled;
        done = IfOk-weaker result _ _ (λ done taken. record {
          ok = λ s table was. taken.0 s table state.mask (kept s table was) settled;
          erases = omega (arith, taken.1, few);
        }) (ok_both _ _ result records.ok records.erases);
        ends = then_ends ends records.ends;
      };
      settles = ⊎_elim (λ same. inl (same ∙ read_kept map _ old mid state keeps refl read))
          (λ logs. inr (logs, settled_logged map mid new state.mask state.permanent records.outside settled))
          records.either;
      journal = omega (arith, journal, records.journal);
    }
