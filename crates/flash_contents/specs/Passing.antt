-- What each phase of a boot, a confirmation, a step and a run leave on the flash.
use Rattle.std.specs.Prelude.{◌≡◌, ◌⊎◌, ℕ, Bool, true, false, List, Some, None, Result, Ok, Err}
use Rattle.machine.specs.declared.event.Event.TheVariants as event
use Rattle.flash_model.specs.Chip.{Chip}
use Rattle.sector_map.specs.declared.layout.SectorMap.{SectorMap}
use Rattle.common.specs.Masks.{is_member}
use Rattle.set_log.specs.declared.state.RecordKind.TheVariants as log
use Rattle.reports.specs.declared.table.Table.{Table}
use Rattle.reports.specs.declared.report.Report.{Report}
use Rattle.reports.specs.Rightness.{taken_in}
use Rattle.upload.specs.View.{View, view}
use Rattle.machine.specs.Device.{DeviceState, Machine, Trial}
use Rattle.upload.specs.Steady.{IsSteadyAt}
use Rattle.machine.specs.declared.upload_error.UploadError.{UploadError}
use Rattle.machine.specs.declared.upload_error.UploadError.TheVariants as upload
use Rattle.machine.specs.States.{IsRaised, new_trial, running_after, with_taken, with_confirmed}
use Rattle.machine.specs.Boots.{Boots, GoesBack, IsBootCut, IsOnTrial, IsReported, is_answer}
use Rattle.machine.specs.Intake.{Setup}
use Rattle.machine.specs.Steps.{DeviceEvent, IsRun, IsStep}
use Rattle.flash_contents.specs.Holding.{DeviceView, Holds, IsAtRest, IsSwapped, IsSwappedBack, IsSwapping, IsSwappingBack}
use Rattle.flash_contents.specs.Holding.{IsTrialAt, IsTrialOpen, Stands}
use Rattle.machine.specs.declared.error.Fault.TheVariants.{RunningDamaged, InvalidSet, Upload}
use Rattle.flash_contents.specs.declared.finding.Finding.{Finding}
use Rattle.flash_contents.specs.declared.finding.Finding.TheVariants.{Decided, Damaged, Invalid}
use Rattle.machine.specs.declared.reply.Reply.{Reply}
use Rattle.machine.specs.declared.reply.Reply.TheVariants.{Booted, Cut, Done, Refused}

-- An upgrade is at some step of the swap of some contents.
abbrev pub IsSwappingSome : SectorMap → Chip → DeviceState → Table → ℕ → Bool → Type 0
IsSwappingSome map chip s table mask permanent =
    (x y : ℕ → List ℕ) × IsSwapping map chip s table mask permanent x y

-- A revert is at some step of the swap back of some contents.
abbrev pub IsSwappingBackSome : SectorMap → Chip → DeviceState → Trial → Type 0
IsSwappingBackSome map chip s trial =
    (x y : ℕ → List ℕ) × IsSwappingBack map chip s trial x y

-- An upgrade is under way: its set is being swapped, or is swapped and being settled.
abbrev pub IsUpgrading : SectorMap → Chip → DeviceState → Table → ℕ → Bool → Type 0
IsUpgrading map chip s table mask permanent =
    IsSwappingSome map chip s table mask permanent
    ⊎ IsSwapped (view map chip) s table log.Settle mask permanent

-- The flash is at rest with a set taken: permanently with these floors, or with `left` boots left.
abbrev pub IsTakenAt : View → DeviceState → ℕ → Bool → ℕ → List ℕ → Type 0
IsTakenAt w s mask true left floors = IsSteadyAt w (with_taken s mask floors None)
IsTakenAt w s mask false left floors =
    IsTrialAt w (with_taken s mask s.floors (Some (new_trial s mask left))) (new_trial s mask left)

-- What is reported of a set that is taken.
abbrev pub IsReportedOf : DeviceState → ℕ → Table → Report → Type 0
IsReportedOf s mask table report =
    IsReported s table report × (is_member mask ≡ taken_in report)

-- An upgrade is done and reported: its set is taken permanently, or with `left` boots left.
abbrev pub IsUpgraded : ℕ → View → DeviceState → ℕ → Bool → Type 0
IsUpgraded left w s mask permanent = (table : Table) × (report : Report) × (floors : List ℕ)
    × IsReportedOf s mask table report
    × IsRaised s.images (running_after s mask) s.floors floors
    × IsTakenAt w s mask permanent left floors

-- A revert is under way: its set is being swapped back, or is swapped back and being settled.
abbrev pub IsGoingBack : SectorMap → Chip → DeviceState → Trial → Type 0
IsGoingBack map chip s trial = IsSwappingBackSome map chip s trial
    ⊎ IsSwappedBack (view map chip) s trial log.BackSettle

-- A trial is at rest, or its revert has begun.
abbrev pub IsOpenOrAt : View → DeviceState → Trial → Type 0
IsOpenOrAt w s trial = IsTrialAt w s trial ⊎ (GoesBack s trial × IsTrialOpen w s trial)

-- What the flash holds after a boot with this reply; at rest if that leaves the device booted.
abbrev pub EndsBoot : SectorMap → ℕ → Chip → DeviceState → Reply → Type 0
EndsBoot map boots chip s reply = (next : DeviceState) × Boots boots s reply next
    × Stands map chip next × (is_answer reply ≡ true → IsAtRest (view map chip) next)

-- What the flash holds after an interrupted boot.
abbrev pub CutsBoot : SectorMap → ℕ → Chip → DeviceState → Type 0
CutsBoot map boots chip s =
    (next : DeviceState) × IsBootCut boots s next × Stands map chip next

-- The reply to what a boot finds.
abbrev pub reply_of : Finding → Bool → Reply
reply_of (Decided table report) permanent = Booted table report permanent
reply_of (Damaged i) permanent = Refused (RunningDamaged i)
reply_of Invalid permanent = Refused InvalidSet

-- The reply to an upload call.
abbrev pub upload_reply : Result Unit UploadError → Reply
upload_reply (Ok done) = Done
upload_reply (Err upload.OldSequence) = Refused (Upload upload.OldSequence)
upload_reply (Err upload.TooBig) = Refused (Upload upload.TooBig)
upload_reply (Err upload.NoSession) = Refused (Upload upload.NoSession)
upload_reply (Err upload.TooMuch) = Refused (Upload upload.TooMuch)
upload_reply (Err upload.SizeWrong) = Refused (Upload upload.SizeWrong)
upload_reply (Err upload.DigestWrong) = Refused (Upload upload.DigestWrong)
upload_reply (Err (upload.NotAnImage fault)) = Refused (Upload (upload.NotAnImage fault))
upload_reply (Err upload.WrongPrecursor) = Refused (Upload upload.WrongPrecursor)
upload_reply (Err upload.NothingRequested) = Refused (Upload upload.NothingRequested)
upload_reply (Err upload.NoMemory) = Refused (Upload upload.NoMemory)
-- A flash with power stops a call only by a power cut.
upload_reply (Err (upload.Flash error)) = Cut

-- Whether a device that isn't booted refuses an event.
abbrev pub needs_up : DeviceEvent → Bool
needs_up (event.Accept bytes) = true
needs_up (event.Piece i bytes) = true
needs_up (event.Finish i) = true
needs_up (event.Withdraw i) = true
needs_up (event.Confirm i) = true
needs_up event.Boot = false
needs_up event.Reset = false

-- Whether a device on which a set is on trial refuses an event.
abbrev pub needs_rest : DeviceEvent → Bool
needs_rest (event.Accept bytes) = true
needs_rest (event.Piece i bytes) = true
needs_rest (event.Finish i) = true
needs_rest (event.Withdraw i) = true
needs_rest other = false

-- What the flash holds after a confirmation, of an image that is on trial or of another one.
abbrev pub EndsConfirm : View → DeviceState → ℕ → Bool → Type 0
EndsConfirm w s i true =
    (trial : Trial) × IsOnTrial s i trial × IsAtRest w (with_confirmed s trial i)
EndsConfirm w s i false = ((trial : Trial) → IsOnTrial s i trial → ⊥) × IsAtRest w s

-- What the flash holds after an interrupted confirmation: of an image on trial, confirmed or not.
abbrev pub CutsConfirm : View → DeviceState → ℕ → Type 0
CutsConfirm w s i = (trial : Trial) × IsOnTrial s i trial
    × (IsAtRest w s ⊎ IsAtRest w (with_confirmed s trial i))

-- From each state that the device holds, a step of the machine leads to one that it holds then.
abbrev pub StepsTo : Setup → DeviceView → DeviceView → DeviceEvent → Reply → Type 0
StepsTo setup old new event reply = (m : Machine) → Holds setup.map old m
    → (next : Machine) × IsStep setup m event reply next × Holds setup.map new next

-- From each state that the device holds, a run of the machine leads to one that it holds then.
abbrev pub RunsTo : Setup → DeviceView → DeviceView → List DeviceEvent → List Reply → Type 0
RunsTo setup old new events replies = (m : Machine) → Holds setup.map old m
    → (last : Machine) × IsRun setup m events replies last × Holds setup.map new last
