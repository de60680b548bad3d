-- The calls of a device.
use Rattle.std.specs.Prelude.{ℕ, Bool, true, false, List}
use Rattle.std.specs.Borrow.{Bor}
use Rattle.flash_model.specs.declared.error.FlashError.TheVariants as flash
use Rattle.machine.specs.declared.upload_error.UploadError.TheVariants as upload
use Rattle.machine.specs.declared.error.Fault.{Fault}
use Rattle.machine.specs.declared.error.Fault.TheVariants as no
use Rattle.manifest.specs.declared.manifest.Manifest.{Manifest}

-- A call of a device with its arguments. Images are numbered from 0.
pub data DeviceCall : Type 0 where
  -- Accept this manifest.
  Accept : Bor Manifest → DeviceCall
  -- Add these bytes to the upload of an image.
  Piece : ℕ → Bor (List ℕ) → DeviceCall
  -- Finish the upload of an image.
  Finish : ℕ → DeviceCall
  -- Withdraw the request of an image.
  Withdraw : ℕ → DeviceCall
  -- Confirm an image.
  Confirm : ℕ → DeviceCall
  -- Boot.
  Boot : DeviceCall

-- Whether a fault says that power failed during the call.
abbrev pub is_cut : Fault → Bool
is_cut (no.Flash flash.Cut) = true
is_cut (no.Upload (upload.Flash flash.Cut)) = true
is_cut other = false
