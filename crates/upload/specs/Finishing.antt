-- Contracts of the calls that finish an upload: one record for each call.
use Rattle.std.specs.Prelude.{◌≡◌, ℕ, ◌+◌, ◌-◌, ◌≤◌, true, false, List, [], length, take, Option}
use Rattle.std.specs.Prelude.{Some, None, Result, Err, IfErr, IfOk, IsErrOf, OnOk}
use Rattle.sha2.specs.Sha256.{sha256}
use Rattle.flash_model.specs.declared.error.FlashError.{FlashError}
use Rattle.flash_model.specs.declared.error.FlashError.TheVariants.{Off}
use Rattle.flash_model.specs.Chip.{Chip, Ends, SameOutside}
use Rattle.sector_map.specs.declared.layout.SectorMap.{SectorMap}
use Rattle.sector_map.specs.declared.layout.Side.TheVariants.{Secondary}
use Rattle.sector_map.specs.Part.{Slot, incoming_of, only}
use Rattle.sector_map.specs.Map.{Keeps, start_of}
use Rattle.trailer.specs.Standing.{incoming_slot}
use Rattle.machine.specs.declared.upload_error.UploadError.{UploadError}
use Rattle.machine.specs.declared.upload_error.UploadError.TheVariants.{Flash, NoSession, SizeWrong}
use Rattle.upload.specs.declared.sessions.Upload.{Upload}
use Rattle.upload.specs.View.{view}
use Rattle.machine.specs.Device.{Machine}
use Rattle.upload.specs.Sessions.{AllClosed, AllOpenAt, IsUpAt, IsUploadAt, IsWith, session_of, upload_at}
use Rattle.upload.specs.Ending.{EndsUpload}
use Rattle.machine.specs.Intake.{is_flash}
use Rattle.upload.specs.Finish.{EndsFinish, Judges}
use Rattle.machine.specs.Finish.{FinishRow}

-- A call returns the SHA-256 of the first `size` bytes of a secondary slot.
pub record ReadsDigest (map : SectorMap) (image size : ℕ) (old new : Chip)
    (result : Result (List ℕ) FlashError) : Type 0 where
  pub same : new ≡ old
  pub ok : IfOk result (λ digest. digest ≡ sha256 (take size (incoming_slot map old image)))
  -- The call succeeds only if the flash is on.
  pub on : OnOk result (old.is_on ≡ true)
  pub ends : Ends result old new

-- A call checks the first `size` bytes of a secondary slot, and writes nothing.
pub record JudgesSlot (map : SectorMap) (image size : ℕ) (digest : List ℕ) (old new : Chip)
    (result : Result Unit UploadError) : Type 0 where
  pub same : new ≡ old
  pub judges : Judges (take size (incoming_slot map old image)) digest result
  -- If the flash is off, that is the result.
  pub off : old.is_on ≡ false → IsErrOf result (Flash Off)
  pub ends : EndsUpload result old new

-- At most the unit of an upload's held bytes is written.
pub record WritesLastUnit (map : SectorMap) (image : ℕ) (upload : Upload) (old new : Chip)
    : Type 0 where
  -- The unit lies directly after the written bytes of the slot.
  pub unit : SameOutside (start_of map (Slot image Secondary)
      + (upload.received - length upload.held.items)) 8 old new
  -- If no bytes are held, nothing is written.
  pub none : upload.held.items ≡ [] → new ≡ old

-- What is written if finishing an upload is refused. The upload is none if none was open.
pub record RefusesFinish (map : SectorMap) (image : ℕ) (upload : Option Upload) (old new : Chip)
    (result : Result Unit UploadError) : Type 0 where
  -- If no upload is open, nothing is written.
  pub no_session : IsErrOf result NoSession → new ≡ old
  -- If too few bytes were received, nothing is written.
  pub size : IsErrOf result SizeWrong → new ≡ old
  -- If a check fails, only the image's secondary slot is written, so its trailer doesn't change.
  pub slot : IfErr result (λ error. is_flash {T = Unit} (Err error) ≡ false
      → Keeps map (only (Slot image Secondary)) old new)
  -- If a check fails, at most the upload's last unit is written in the slot.
  pub unit : IfErr result (λ error. is_flash {T = Unit} (Err error) ≡ false
      → (u : Upload) → upload ≡ Some u → WritesLastUnit map image u old new)
  -- If a check fails, no sector is erased.
  pub erases : IfErr result (λ error. is_flash {T = Unit} (Err error) ≡ false
      → new.erases ≡ old.erases)

-- A call finishes an upload that was taken out of the table.
pub record FinishesTaken (map : SectorMap) (image : ℕ) (upload : Upload) (old new : Chip)
    (result : Result Unit UploadError) : Type 0 where
  -- Only the image's secondary slot and its trailer are written.
  pub outside : Keeps map (incoming_of image) old new
  -- The result, and what the call leaves. Only a complete image is requested.
  pub finish : (written : List ℕ) → IsUploadAt (view map old) image upload written
      → EndsFinish (view map new) image (session_of upload written) result
  -- If the call succeeds, no sector is erased.
  pub erases : OnOk result (new.erases ≡ old.erases)
  -- A refused call writes at most the last unit.
  pub refused : RefusesFinish map image (Some upload) old new result
  -- If all bytes were received and the flash is off, that is the result.
  pub off : old.is_on ≡ false → upload.received ≡ upload.size → IsErrOf result (Flash Off)
  -- It asks a journal for at most 68 bytes.
  pub journal : new.journaled ≤ old.journaled + 68
  pub ends : EndsUpload result old new

-- A call of `finish`, with the table of uploads before and after it.
pub record FinishesUpload (map : SectorMap) (image : ℕ) (told tnew : List (Option Upload))
    (old new : Chip) (result : Result Unit UploadError) : Type 0 where
  -- Only the image's secondary slot and its trailer are written.
  pub outside : Keeps map (incoming_of image) old new
  -- If all uploads of the table matched the flash, they still do.
  pub all_open : AllOpenAt (view map old) told → AllOpenAt (view map new) tnew
  -- On any flash: the result, and what the call leaves. Only a complete image is requested.
  pub finishes : (u : Upload) (written : List ℕ) → upload_at told image ≡ Some u
      → IsUploadAt (view map old) image u written
      → EndsFinish (view map new) image (session_of u written) result
  -- If no upload of the image is open, nothing changes.
  pub none : upload_at told image ≡ None → (result ≡ Err NoSession) × (new ≡ old)
  -- A refused call writes at most the last unit of the image's own upload, and never its trailer.
  pub refused : RefusesFinish map image (upload_at told image) old new result
  -- If an upload is open, all its bytes were received and the flash is off, that is the result.
  pub off : old.is_on ≡ false → (u : Upload) → upload_at told image ≡ Some u
      → u.received ≡ u.size → IsErrOf result (Flash Off)
  -- The upload is closed.
  pub closes : is_flash result ≡ false → IsWith image None told tnew
  -- If no upload of the image is open, the table doesn't change.
  pub stays : IsErrOf result NoSession → tnew ≡ told
  -- If the call fails at the flash, all uploads are closed.
  pub closed : is_flash result ≡ true → AllClosed tnew
  -- On a flash that holds a state, the call is the step of a machine that knows complete images.
  pub row : (m : Machine) → IsUpAt (view map old) told m
      → (next : Machine) × FinishRow m image result next × IsUpAt (view map new) tnew next
  -- If the call succeeds, no sector is erased.
  pub erases : OnOk result (new.erases ≡ old.erases)
  -- It asks a journal for at most 68 bytes.
  pub journal : new.journaled ≤ old.journaled + 68
  pub ends : EndsUpload result old new
