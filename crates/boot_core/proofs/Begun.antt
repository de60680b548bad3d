-- A swap begins: the trailers of its set are prepared, and then a record is appended.
use Rattle.std.proofs.Common.{ℕ, ◌+◌, ◌≤◌, Result, Ok, arith}
use Rattle.std.proofs.lemmas.Result.{IfOk-weaker}
use Rattle.flash_model.specs.Chip.{Chip}
use Rattle.flash_model.specs.declared.error.FlashError.{FlashError}
use Rattle.sector_map.specs.Map.{IsLaidOut}
use Rattle.common.specs.Masks.{is_member}
use Rattle.sector_map.specs.declared.layout.SectorMap.{SectorMap}
use Rattle.sector_map.specs.declared.layout.Side.{Side}
use Rattle.set_log.specs.declared.state.State.{State}
use Rattle.upload.specs.View.{view}
use Rattle.flash_contents.specs.Wear.{members}
use Rattle.boot_core.specs.BootEnds.{Passes}
use Rattle.boot_core.specs.Preparing.{Prepares}
use Rattle.boot_core.specs.Recorded.{IsStateRecorded, RecordsState}
use Rattle.boot_core.specs.Wear.{AreMeasured}
use Rattle.boot_core.proofs.Measured.{measured}
use Rattle.boot_core.specs.Moving.{moved_parts}
use Rattle.boot_core.proofs.OnMap.{layout_kept, layout_more, log_moved, trailers_moved}
use Rattle.boot_core.proofs.Passed.{then_ends}

pub begun : {T : Type 0} {value : T} {map : SectorMap} {mask : ℕ} {side : Side} {old mid new : Chip} {next : State}
    {whatever : Type 0} {at_end : State → Type 0} {result : Result State FlashError} → IsLaidOut map old
    → Prepares map mask side old mid (Ok value) → RecordsState map next mid new result → whatever
    → ((now : State) → IsStateRecorded map next mid new now → AreMeasured (view map old) (view map new) side mask
    → new.erases ≤ old.erases + members map mask + 1 → at_end now)
    → Passes map (moved_parts (is_member mask)) old new whatever at_end result
begun {T} {value} {map} {mask} {side} {old} {mid} {new} {next} {whatever} {at_end} {result} laid prepares records stands
    done = record {
      layout = layout_more (log_moved (is_member mask)) (layout_kept (trailers_moved mask side) laid prepares.outside)
          records.outside;
      stands = stands;
      done = IfOk-weaker result _ _ (λ now recorded. done now recorded
          (measured map old mid new side mask prepares.outside prepares.ready records.outside)
          (omega (arith, recorded.erases, prepares.erases))) records.done;
      ends = then_ends prepares.ends records.ends;
    }
