-- How an upload call ends.
use Rattle.std.specs.Prelude.{◌≡◌, true, false, List, Option, Result, IsErrOf}
use Rattle.flash_model.specs.Chip.{Chip, IsCut, IsUncut}
use Rattle.flash_model.specs.declared.error.FlashError.TheVariants.{Cut, Off}
use Rattle.machine.specs.declared.upload_error.UploadError.{UploadError}
use Rattle.machine.specs.declared.upload_error.UploadError.TheVariants as no
use Rattle.upload.specs.declared.sessions.Upload.{Upload}
use Rattle.upload.specs.Sessions.{AllClosed}
use Rattle.machine.specs.Intake.{is_flash}

-- How an upload call ends: power unchanged, or after one power cut, or on a flash that was off.
pub record EndsUpload {T : Type 0} (result : Result T UploadError) (old new : Chip)
    : Type 0 where
  -- A flash that is off is unchanged.
  pub asleep : old.is_on ≡ false → new ≡ old
  pub uncut : is_flash result ≡ false → IsUncut old new
  pub cut : IsErrOf result (no.Flash Cut) → IsCut old new
  pub off : IsErrOf result (no.Flash Off) → old.is_on ≡ false

-- If the flash stops a call all sessions are closed, else they are unchanged.
pub record IsClosedAfter (result : Result Unit UploadError) (old new : List (Option Upload))
    : Type 0 where
  pub closed : is_flash result ≡ true → AllClosed new
  pub same : is_flash result ≡ false → new ≡ old
