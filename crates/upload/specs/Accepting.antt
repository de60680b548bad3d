-- Contracts of the calls that accept a manifest: one record for each call.
use Rattle.std.specs.Prelude.{◌≡◌, ◌⊎◌, ◌+◌, ◌≤◌, ℕ, true, false, List, Option, Some, Result, Err, IfErr, IsErrOf, OnOk}
use Rattle.flash_model.specs.declared.error.FlashError.{FlashError}
use Rattle.flash_model.specs.declared.error.FlashError.TheVariants.{Off}
use Rattle.flash_model.specs.Chip.{Chip, Ends}
use Rattle.sector_map.specs.declared.layout.SectorMap.{SectorMap}
use Rattle.sector_map.specs.Part.{Log, only}
use Rattle.sector_map.specs.Map.{IsLaidOut, Keeps, part_of}
use Rattle.set_log.specs.declared.state.State.{State}
use Rattle.set_log.specs.Log.{state_of}
use Rattle.set_log.specs.Record as format
use Rattle.manifest.specs.declared.manifest.Component.{Component}
use Rattle.manifest.specs.declared.manifest.Manifest.{Manifest}
use Rattle.machine.specs.declared.upload_error.UploadError.{UploadError}
use Rattle.machine.specs.declared.upload_error.UploadError.TheVariants.{Flash}
use Rattle.upload.specs.declared.sessions.Upload.{Upload}
use Rattle.upload.specs.View.{view}
use Rattle.machine.specs.Device.{DeviceState, Machine}
use Rattle.upload.specs.Steady.{IsSteadyAt}
use Rattle.upload.specs.Sessions.{AllClosed, AllOpenAt, IsUpAt}
use Rattle.upload.specs.Ending.{EndsUpload}
use Rattle.machine.specs.Intake.{is_flash}
use Rattle.machine.specs.Accepted.{Accepts, IsAcceptCut}
use Rattle.upload.specs.Accepted.{AreBlank, accepted_parts}
use Rattle.upload.specs.Wear.{ErasesWorn, erases_of_record, journal_of_components}
use Rattle.upload.specs.Taking.{EndsAccept, IsTaken, LeavesAccept}

-- The log has this state, which fits the table of records. A sequence number isn't below the
-- state's.
pub record CanRecord (map : SectorMap) (state : State) (sequence : ℕ) (chip : Chip) : Type 0 where
  pub laid_out : IsLaidOut map chip
  pub read : state_of map chip ≡ Some state
  pub fits : format.fits map.images state ≡ true
  pub newer : state.sequence ≤ sequence

-- A call records a sequence number.
pub record RecordsSequence (map : SectorMap) (state : State) (sequence : ℕ) (old new : Chip)
    {T : Type 0} (result : Result T FlashError) : Type 0 where
  -- Only the log is written.
  pub outside : Keeps map (only Log) old new
  -- Even if the call fails, the log has its old state or that state with the new number.
  pub either : (state_of map new ≡ state_of map old)
      ⊎ (state_of map new ≡ Some (record state { sequence = sequence }))
  -- If the call succeeds, the log has the new number.
  pub ok : OnOk result (state_of map new ≡ Some (record state { sequence = sequence }))
  -- A sector is erased only for a new number, and only if no place of the log is free.
  pub erases : OnOk result (new.erases
      ≡ old.erases + erases_of_record map old state.sequence sequence)
  -- An equal sequence number writes nothing.
  pub idle : state.sequence ≡ sequence → new ≡ old
  -- It asks a journal for at most 120 bytes.
  pub journal : new.journaled ≤ old.journaled + 120
  pub ends : Ends result old new

-- A call applies a manifest that passed all checks.
pub record WritesManifest (map : SectorMap) (state : State) (sequence : ℕ) (cs : List Component)
    (told tnew : List (Option Upload)) (old new : Chip) {T : Type 0} (result : Result T FlashError)
    : Type 0 where
  -- Only the log and the secondary slots and trailers of the listed images are written.
  pub outside : Keeps map (accepted_parts cs) old new
  -- Even if the call fails: if the flash held a state of the device, it holds one that a power cut
  -- may leave.
  pub cut : (s : DeviceState) → IsSteadyAt (view map old) s
      → (next : DeviceState) × IsAcceptCut s sequence cs next × IsSteadyAt (view map new) next
  -- On any flash, the log has the old number or the new one, and each request is unchanged or
  -- withdrawn.
  pub leaves : LeavesAccept (view map old) (view map new) sequence
  -- If the call succeeds, the manifest is accepted.
  pub ok : OnOk result (IsTaken (view map old) (view map new) told tnew sequence cs)
  -- If the call succeeds, it erased once each sector that wasn't erased, besides the log's
  -- (`ErasesWorn` counts both).
  pub erases : OnOk result (ErasesWorn map old new state.sequence sequence cs)
  -- An equal sequence number doesn't change the log.
  pub equal : state.sequence ≡ sequence → part_of map new Log ≡ part_of map old Log
  -- If the number is equal and all listed slots and trailers are erased, nothing is written.
  pub idle : state.sequence ≡ sequence → AreBlank map old cs → new ≡ old
  -- It asks a journal for at most 120 bytes, and those that opening each slot takes.
  pub journal : new.journaled ≤ old.journaled + (120 + journal_of_components map cs)
  pub ends : Ends result old new

-- A call accepts a manifest if no check fails, whatever becomes of the uploads if the flash fails.
pub record TakesManifest (map : SectorMap) (manifest : Manifest) (told tnew : List (Option Upload))
    (old new : Chip) (result : Result Unit UploadError) : Type 0 where
  -- Only the log and the secondary slots and trailers of the listed images are written.
  pub outside : Keeps map (accepted_parts manifest.components.items) old new
  -- On any flash: the result, and what the call leaves.
  pub accepts : EndsAccept map (view map old) (view map new) told tnew
      manifest.sequence manifest.components.items result
  -- If a check fails, the flash doesn't change.
  pub nothing : IfErr result (λ error. is_flash {T = Unit} (Err error) ≡ false → new ≡ old)
  -- If a check fails, the table of uploads doesn't change.
  pub stays : IfErr result (λ error. is_flash {T = Unit} (Err error) ≡ false → tnew ≡ told)
  -- If the flash is off, that is the result for any manifest.
  pub off : old.is_on ≡ false → IsErrOf result (Flash Off)
  -- An equal sequence number doesn't change the log.
  pub equal : (state : State) → state_of map old ≡ Some state
      → state.sequence ≡ manifest.sequence → part_of map new Log ≡ part_of map old Log
  -- If the call succeeds, it erased once each sector of the listed slots and trailers that wasn't
  -- erased, besides the log's (`ErasesWorn` counts both).
  pub erases : OnOk result ((state : State) → state_of map old ≡ Some state
      → ErasesWorn map old new state.sequence manifest.sequence manifest.components.items)
  -- If the number is equal and all listed slots and trailers are erased, nothing is written.
  pub idle : (state : State) → state_of map old ≡ Some state
      → state.sequence ≡ manifest.sequence → AreBlank map old manifest.components.items
      → new ≡ old
  -- It asks a journal for at most 120 bytes, and those that opening each slot takes.
  pub journal : new.journaled ≤ old.journaled
      + (120 + journal_of_components map manifest.components.items)
  pub ends : EndsUpload result old new

-- A call of `accept`, with the table of uploads before and after it.
pub record AcceptsManifest (map : SectorMap) (manifest : Manifest)
    (told tnew : List (Option Upload)) (old new : Chip) (result : Result Unit UploadError)
    : Type 0 where
  -- The manifest is accepted or refused.
  pub taken : TakesManifest map manifest told tnew old new result
  pub open taken use *
  -- If all uploads of the table matched the flash, they still do.
  pub all_open : AllOpenAt (view map old) told → AllOpenAt (view map new) tnew
  -- If the call fails at the flash, all uploads are closed.
  pub closed : is_flash result ≡ true → AllClosed tnew
  -- On a flash that holds a state, the call is the step of a machine that knows complete images.
  pub row : (m : Machine) → IsUpAt (view map old) told m
      → (next : Machine) × Accepts map m manifest.sequence manifest.components.items result next
      × IsUpAt (view map new) tnew next
