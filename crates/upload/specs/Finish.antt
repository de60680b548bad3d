-- What the end of an upload leaves on the flash.
use Rattle.std.specs.Prelude.{◌≡◌, ◌≢◌, ◌⊎◌, ℕ, List, None, Result, Ok, Err}
use Rattle.sha2.specs.Sha256.{sha256}
use Rattle.flash_model.specs.declared.error.FlashError.TheVariants as flash
use Rattle.sector_map.specs.declared.layout.Side.TheVariants.{Secondary}
use Rattle.trailer.specs.Fields.{erased_fields}
use Rattle.trailer.specs.Standing.{requested_fields}
use Rattle.image_reading.specs.Fault.{IsFirstFault}
use Rattle.machine.specs.declared.upload_error.UploadError.{UploadError}
use Rattle.machine.specs.declared.upload_error.UploadError.TheVariants as no
use Rattle.upload.specs.View.{View}
use Rattle.machine.specs.Device.{Session}
use Rattle.machine.specs.Finish.{IsImage, IsGoodUpload, HasSize}
use Rattle.upload.specs.Steady.{request_in}
use Rattle.upload.specs.Sessions.{IsWritten}

-- What each result of checking an upload says of its bytes.
abbrev pub Judges : List ℕ → List ℕ → Result Unit UploadError → Type 0
Judges bytes digest (Ok done) = (sha256 bytes ≡ digest) × IsImage bytes
Judges bytes digest (Err no.DigestWrong) = sha256 bytes ≢ digest
Judges bytes digest (Err (no.NotAnImage fault)) =
    (sha256 bytes ≡ digest) × IsFirstFault bytes fault
Judges bytes digest (Err (no.Flash error)) = Unit
Judges bytes digest other = ⊥

-- A finished upload on the flash: its image is complete, good and requested.
pub record IsFinishedAt (w : View) (i : ℕ) (session : Session) : Type 0 where
  pub good : IsGoodUpload session
  pub slot : IsWritten (w.slot i Secondary) session.received
  pub trailer : w.trailer i Secondary ≡ requested_fields session.kind

-- What finishing an upload leaves on the flash, by its result.
abbrev pub EndsFinish : View → ℕ → Session → Result Unit UploadError → Type 0
EndsFinish w i session (Ok done) = IsFinishedAt w i session
EndsFinish w i session (Err no.SizeWrong) =
    (HasSize session → ⊥) × (w.trailer i Secondary ≡ erased_fields)
EndsFinish w i session (Err no.DigestWrong) = HasSize session
    × (sha256 session.received ≢ session.digest) × (w.trailer i Secondary ≡ erased_fields)
EndsFinish w i session (Err (no.NotAnImage fault)) =
    (HasSize session × (sha256 session.received ≡ session.digest))
    × IsFirstFault session.received fault × (w.trailer i Secondary ≡ erased_fields)
EndsFinish w i session (Err (no.Flash flash.Cut)) =
    HasSize session × ((request_in w i ≡ None) ⊎ IsFinishedAt w i session)
EndsFinish w i session (Err (no.Flash flash.Off)) = HasSize session × (request_in w i ≡ None)
EndsFinish w i session other = ⊥
