-- Contracts of a boot from any record, and of a device's boot: one record for each function.
use Rattle.std.specs.Prelude.{◌≡◌, ◌⊎◌, ◌+◌, ℕ, Bool, true, false, Some, Result, IfOk, None, Err, IsErrOf}
use Rattle.machine.specs.declared.event.Event.TheVariants as event
use Rattle.flash_model.specs.Chip.{Chip, Ends}
use Rattle.flash_model.specs.declared.error.FlashError.{FlashError}
use Rattle.flash_model.specs.declared.error.FlashError.TheVariants.{Off}
use Rattle.sector_map.specs.declared.layout.SectorMap.{SectorMap}
use Rattle.manifest.specs.declared.identity.Identity.{Identity}
use Rattle.set_log.specs.Log.{state_of}
use Rattle.set_log.specs.declared.state.RecordKind.TheVariants as log
use Rattle.set_log.specs.declared.state.State.{State}
use Rattle.machine.specs.Device.{DeviceState}
use Rattle.upload.specs.Sessions.{AllClosed, AllOpenAt}
use Rattle.upload.specs.View.{view}
use Rattle.machine.specs.Boots.{IsReadSound, is_answer}
use Rattle.flash_contents.specs.Holding.{DeviceView, Stands}
use Rattle.flash_contents.specs.Passing.{CutsBoot, EndsBoot, StepsTo, reply_of}
use Rattle.flash_contents.specs.Starting.{StartsBy}
use Rattle.machine.specs.Steps.{cut_of}
use Rattle.machine.specs.declared.error.Fault.{Fault}
use Rattle.machine.specs.declared.error.Fault.TheVariants.{NotProvisioned}
use Rattle.flash_contents.specs.declared.finding.Finding.{Finding}
use Rattle.machine.specs.declared.reply.Reply.{Reply}
use Rattle.machine.specs.declared.reply.Reply.TheVariants.{Refused, TrialAgain}
use Rattle.boot_core.specs.Journal.{AsksToBoot}
use Rattle.boot_core.specs.Answers.{EndsCall, IsBootReply, IsOff, is_stopped, reply_of_boot}
use Rattle.boot_core.specs.BootEnds.{BootEnds, KeepsLayout}
use Rattle.boot_core.specs.Device.{made}
use Rattle.boot_core.specs.Found.{IsStopped}
use Rattle.boot_core.specs.Moving.{may_move, moved_parts}
use Rattle.boot_core.specs.Over.{IsIdleTrial, IsTriedAgain}
use Rattle.boot_core.specs.Wear.{DoesNothing, IsWorn}

-- A boot from this record of the log, with the wear of its kind.
pub record BootsFrom (map : SectorMap) (state : State) (left : ℕ) (old new : Chip)
    (result : Result Reply FlashError) : Type 0 where
  pub boot : BootEnds map (may_move map old) (left + 1) (Stands map old)
      (λ reply. (s : DeviceState) → Stands map old s
      → IsWorn map state.kind state.mask old new reply) old new result
  pub stops : IfOk result (λ reply. (finding : Finding) (permanent : Bool)
      → reply ≡ reply_of finding permanent → IsStopped map state old new finding)
  pub idle : state.kind ≡ log.Steady
      → IfOk result (λ reply. DoesNothing reply → new ≡ old)
  pub over : state.kind ≡ log.Trial
      → IfOk result (λ reply. DoesNothing reply → IsIdleTrial map state old new reply)
  pub again : state.kind ≡ log.Trial → IfOk result (λ reply. (set more : ℕ)
      → reply ≡ TrialAgain set more → IsTriedAgain map state old new set more)
  pub journal : AsksToBoot map state old new

-- A boot from any record, or from none.
pub record BootsFromAny (map : SectorMap) (left : ℕ) (old new : Chip)
    (result : Result Reply FlashError) : Type 0 where
  pub layout : KeepsLayout map (moved_parts (may_move map old)) old new
  pub open layout use *
  -- However the boot ends, the flash holds a state that a boot which is cut can leave.
  pub stands : (s : DeviceState) → Stands map old s → CutsBoot map (left + 1) new s
  -- If the boot succeeds, the flash holds a state that a boot with this reply ends in.
  pub ok : IfOk result (λ reply. (s : DeviceState) → Stands map old s
      → EndsBoot map (left + 1) new s reply)
  -- From a state that is sound as the boot reads it, a boot that isn't cut answers.
  pub answers : IfOk result (λ reply. (s : DeviceState)
      → Stands map old s → IsReadSound s → is_answer reply ≡ true)
  -- If the log has no state, nothing changes.
  pub empty : state_of map old ≡ None → new ≡ old
  pub refused : state_of map old ≡ None
      → IfOk result (λ reply. reply ≡ Refused NotProvisioned)
  -- How many erases a boot that isn't cut makes, by the record that it found.
  pub erases : IfOk result (λ reply. (state : State) (s : DeviceState)
      → state_of map old ≡ Some state → Stands map old s
      → IsWorn map state.kind state.mask old new reply)
  -- A refusal says why the upgrade or the revert of the record stops.
  pub stops : IfOk result (λ reply. (state : State) (finding : Finding) (permanent : Bool)
      → state_of map old ≡ Some state → reply ≡ reply_of finding permanent
      → IsStopped map state old new finding)
  -- If the record is Steady, a boot that takes no image or is refused writes nothing.
  pub idle : IfOk result (λ reply. (state : State)
      → state_of map old ≡ Some state → state.kind ≡ log.Steady
      → DoesNothing reply → new ≡ old)
  -- If the record is Trial, such a boot found each image of the set confirmed, and writes only the
  -- record that the trial is over. Or the set can neither revert nor run, and nothing is written.
  pub over : IfOk result (λ reply. (state : State)
      → state_of map old ≡ Some state → state.kind ≡ log.Trial
      → DoesNothing reply → IsIdleTrial map state old new reply)
  -- If a set on trial is tried again, at most the record of the boots that are left is written.
  pub again : IfOk result (λ reply. (state : State) (set more : ℕ)
      → state_of map old ≡ Some state → state.kind ≡ log.Trial
      → reply ≡ TrialAgain set more → IsTriedAgain map state old new set more)
  -- On any flash, the boot asks a journal for no more than room to boot, or gets a step further.
  pub journal : (state : State) → state_of map old ≡ Some state → AsksToBoot map state old new
  -- Whatever the flash holds, the primary slots begin with what the reply says.
  pub starts : IfOk result (StartsBy (view map new))
  pub told : IfOk result IsBootReply
  -- If the flash is off, that is the result.
  pub off : old.is_on ≡ false → IsErrOf result Off
  pub ends : Ends result old new

-- A device boots, and its uploads end. A trial that begins has `left` more boots.
pub record EndsUploadsAndBoots (map : SectorMap) (left : ℕ) (old new : DeviceView)
    (result : Result Reply Fault) : Type 0 where
  pub layout : KeepsLayout map (moved_parts (may_move map old.flash)) old.flash new.flash
  pub open layout use *
  -- No upload is open.
  pub opens : AllOpenAt (view map new.flash) new.sessions
  pub closed : AllClosed new.sessions
  -- If the flash was on, the boot is a step of the machine.
  pub steps : (identity : Identity) → old.flash.is_on ≡ true
      → StepsTo (made map identity (left + 1)) old new event.Boot (reply_of_boot result)
  -- The device is booted exactly if the boot answers.
  pub ok : IfOk result (λ reply. is_answer reply ≡ true)
  pub up : new.up ≡ is_answer (reply_of_boot result)
  -- The result is a reply of a boot, or the flash stopped it.
  pub told : IsBootReply (reply_of_boot result) ⊎ (is_stopped (reply_of_boot result) ≡ true)
  -- From a state that is sound as the boot reads it, a boot that isn't cut answers.
  pub answers : old.flash.is_on ≡ true → cut_of (reply_of_boot result) ≡ 0
      → (s : DeviceState) → Stands map old.flash s → IsReadSound s
      → is_answer (reply_of_boot result) ≡ true
  -- If the log has no state, nothing changes.
  pub empty : state_of map old.flash ≡ None → new.flash ≡ old.flash
  pub refused : old.flash.is_on ≡ true → state_of map old.flash ≡ None
      → result ≡ Err NotProvisioned
  -- How many erases a boot that isn't cut makes, by the record that it found.
  pub erases : old.flash.is_on ≡ true → cut_of (reply_of_boot result) ≡ 0
      → (state : State) (s : DeviceState)
      → state_of map old.flash ≡ Some state → Stands map old.flash s
      → IsWorn map state.kind state.mask old.flash new.flash (reply_of_boot result)
  -- A refusal says why the upgrade or the revert of the record stops.
  pub stops : (state : State) (finding : Finding) (permanent : Bool)
      → state_of map old.flash ≡ Some state
      → reply_of_boot result ≡ reply_of finding permanent
      → IsStopped map state old.flash new.flash finding
  -- If the record is Steady, a boot that takes no image or is refused writes nothing.
  pub idle : (state : State) → state_of map old.flash ≡ Some state
      → state.kind ≡ log.Steady → DoesNothing (reply_of_boot result)
      → new.flash ≡ old.flash
  -- If the record is Trial, such a boot found each image of the set confirmed, and writes only the
  -- record that the trial is over. Or the set can neither revert nor run, and nothing is written.
  pub over : old.flash.is_on ≡ true → (state : State)
      → state_of map old.flash ≡ Some state → state.kind ≡ log.Trial
      → DoesNothing (reply_of_boot result)
      → IsIdleTrial map state old.flash new.flash (reply_of_boot result)
  -- If a set on trial is tried again, at most the record of the boots that are left is written.
  pub again : (state : State) (set more : ℕ) → state_of map old.flash ≡ Some state
      → state.kind ≡ log.Trial → reply_of_boot result ≡ TrialAgain set more
      → IsTriedAgain map state old.flash new.flash set more
  -- On any flash, the boot asks a journal for no more than room to boot, or gets a step further.
  pub journal : (state : State) → state_of map old.flash ≡ Some state
      → AsksToBoot map state old.flash new.flash
  -- Whatever the flash holds, the primary slots begin with what the reply says.
  pub starts : StartsBy (view map new.flash) (reply_of_boot result)
  -- If the flash is off, that is the result.
  pub off : old.flash.is_on ≡ false → IsOff result old.flash new.flash
  pub ends : EndsCall (reply_of_boot result) old new
