-- The replies of the machine to the results of a device's calls, and what each reply promises.
use Rattle.std.specs.Prelude.{◌≡◌, ◌+◌, Bool, true, false, not, Result, Ok, Err}
use Rattle.machine.specs.declared.event.Event.TheVariants as event
use Rattle.flash_model.specs.Chip.{Chip}
use Rattle.flash_model.specs.declared.error.FlashError.TheVariants as flash
use Rattle.machine.specs.declared.upload_error.UploadError.{UploadError}
use Rattle.machine.specs.declared.upload_error.UploadError.TheVariants as upload
use Rattle.machine.specs.Intake.{is_flash}
use Rattle.upload.specs.Sessions.{AllClosed}
use Rattle.flash_contents.specs.Holding.{DeviceView}
use Rattle.machine.specs.Steps.{DeviceEvent, cut_of}
use Rattle.machine.specs.declared.error.Fault.{Fault}
use Rattle.machine.specs.declared.error.Fault.TheVariants as no
use Rattle.machine.specs.declared.reply.Reply.{Reply}
use Rattle.machine.specs.declared.reply.Reply.TheVariants.{Done, Booted, Reverted, TrialAgain, Refused, Cut}

-- The reply of the machine to a refused upload. A power cut is the reply Cut.
abbrev pub error_reply : UploadError → Reply
error_reply upload.OldSequence = Refused (no.Upload upload.OldSequence)
error_reply upload.TooBig = Refused (no.Upload upload.TooBig)
error_reply upload.NoSession = Refused (no.Upload upload.NoSession)
error_reply upload.TooMuch = Refused (no.Upload upload.TooMuch)
error_reply upload.SizeWrong = Refused (no.Upload upload.SizeWrong)
error_reply upload.DigestWrong = Refused (no.Upload upload.DigestWrong)
error_reply (upload.NotAnImage fault) = Refused (no.Upload (upload.NotAnImage fault))
error_reply upload.WrongPrecursor = Refused (no.Upload upload.WrongPrecursor)
error_reply upload.NothingRequested = Refused (no.Upload upload.NothingRequested)
error_reply (upload.Flash flash.Cut) = Cut
error_reply (upload.Flash flash.Off) = Refused (no.Upload (upload.Flash flash.Off))
error_reply upload.NoMemory = Refused (no.Upload upload.NoMemory)

-- The reply of the machine to a refused call.
abbrev pub fault_reply : Fault → Reply
fault_reply no.NotBooted = Refused no.NotBooted
fault_reply no.OnTrial = Refused no.OnTrial
fault_reply no.NotOnTrial = Refused no.NotOnTrial
fault_reply no.NotProvisioned = Refused no.NotProvisioned
fault_reply (no.RunningDamaged image) = Refused (no.RunningDamaged image)
fault_reply no.InvalidSet = Refused no.InvalidSet
fault_reply (no.Flash flash.Cut) = Cut
fault_reply (no.Flash flash.Off) = Refused (no.Flash flash.Off)
fault_reply no.NoMemory = Refused no.NoMemory
fault_reply (no.Manifest error) = Refused (no.Manifest error)
fault_reply (no.Upload error) = error_reply error

-- The reply of the machine for the result of a call.
abbrev pub reply_of_result : Result Unit Fault → Reply
reply_of_result (Ok done) = Done
reply_of_result (Err fault) = fault_reply fault

-- The reply of the machine for the result of a boot.
abbrev pub reply_of_boot : Result Reply Fault → Reply
reply_of_boot (Ok reply) = reply
reply_of_boot (Err fault) = fault_reply fault

-- Whether a fault says that the flash stopped the call: power failed, or the flash was off.
abbrev pub is_stop : Fault → Bool
is_stop (no.Flash error) = true
is_stop (no.Upload error) = is_flash {T = Unit} (Err error)
is_stop other = false

-- Whether a refusal of this event may close the upload of its image.
abbrev pub may_close : DeviceEvent → Bool
may_close (event.Piece image bytes) = true
may_close (event.Finish image) = true
may_close other = false

-- Whether an upload is refused because none is open.
abbrev pub is_no_session : UploadError → Bool
is_no_session upload.NoSession = true
is_no_session other = false

-- Whether a refusal leaves the device as it was. A fault of the flash doesn't. A fault of an upload
-- does, but if the call may close an upload, only NoSession does.
abbrev pub keeps_all : Bool → Fault → Bool
keeps_all closing (no.Flash error) = false
keeps_all true (no.Upload error) = is_no_session error
keeps_all false (no.Upload error) = not (is_flash {T = Unit} (Err error))
keeps_all closing other = true

-- Whether a reply says that the flash stopped the call.
abbrev pub is_stopped : Reply → Bool
is_stopped (Refused fault) = is_stop fault
is_stopped Cut = true
is_stopped other = false

-- How a call of a device ends, by its reply. The reply is Cut exactly if a write was cut, and then
-- the flash is off. Otherwise the power of the flash is as before. If the reply says that the flash
-- is off, it was off before. After both replies the device isn't booted, and no upload is open.
pub record EndsCall (reply : Reply) (old new : DeviceView) : Type 0 where
  pub cuts : new.flash.cuts ≡ old.flash.cuts + cut_of reply
  pub power : cut_of reply ≡ 0 → new.flash.is_on ≡ old.flash.is_on
  pub dark : cut_of reply ≡ 1 → new.flash.is_on ≡ false
  pub off : is_stopped reply ≡ true → cut_of reply ≡ 0 → old.flash.is_on ≡ false
  pub down : is_stopped reply ≡ true → new.up ≡ false
  pub closed : is_stopped reply ≡ true → AllClosed new.sessions

-- The replies of a boot that isn't cut: a report, that a set is tried again or reverted, or why the
-- boot is refused. No other refusal is among them.
abbrev pub IsBootReply : Reply → Type 0
IsBootReply (Booted table report permanent) = Unit
IsBootReply (Reverted mask) = Unit
IsBootReply (TrialAgain set left) = Unit
IsBootReply (Refused no.NotProvisioned) = Unit
IsBootReply (Refused (no.RunningDamaged image)) = Unit
IsBootReply (Refused no.InvalidSet) = Unit
IsBootReply other = ⊥

-- A call on a flash that is off returns that, and the flash is as it was.
pub record IsOff {T : Type 0} (result : Result T Fault) (old new : Chip) : Type 0 where
  pub is : result ≡ Err (no.Flash flash.Off)
  pub same : new ≡ old

-- A call on a device that isn't booted is refused, and changes nothing.
pub record IsNotBooted (result : Result Unit Fault) (old new : DeviceView) : Type 0 where
  pub is : result ≡ Err no.NotBooted
  pub same : new ≡ old
