-- Calls over a flash that records its writes: what the caller finds in its journal.
use Rattle.std.specs.Prelude.{◌≡◌, ℕ, ◌+◌, ◌*◌, ◌<◌, ◌≤◌, List, length, drop, take, Some}
use Rattle.flash_model.specs.Chip.{Chip}
use Rattle.sector_map.specs.declared.layout.SectorMap.{SectorMap}
use Rattle.manifest.specs.declared.manifest.Manifest.{Manifest}
use Rattle.set_log.specs.Log.{state_of}
use Rattle.set_log.specs.declared.state.State.{State}
use Rattle.boot_core.specs.Journal.{GetsFurther, IsRoomToBoot}
use Rattle.machine.specs.Steps.{cut_of}
use Rattle.machine.specs.declared.reply.Reply.{Reply}
use Rattle.slice_flash.specs.Overlay.{replayed}
use Rattle.slice_flash.specs.Steps.{IsRecordedBy, IsTooShort}
use Rattle.std.specs.Borrow.{Bor}
use Rattle.c_interface.specs.declared.call_result.CallResult.{CallResult}
use Rattle.c_interface.specs.DeviceCall.{DeviceCall}
use Rattle.c_interface.specs.DeviceCall.{Accept, Boot}
use Rattle.manifest.specs.declared.rows.ManifestRow.{ManifestRow}
use Rattle.c_interface.specs.declared.saved_state.SavedState.{SavedState}
use Rattle.c_interface.specs.declared.setup.CheckedSetup.{CheckedSetup}
use Rattle.c_interface.specs.declared.setup.Setup.{Setup}
use Rattle.c_interface.specs.Answers.{HasNoTexts}
use Rattle.c_interface.specs.CallResult.{IsResultOf, no_result, number_of}
use Rattle.c_interface.specs.Calls.{StepsBetween, journal_bound}
use Rattle.manifest.specs.Rows.{IsManifestOf}
use Rattle.c_interface.specs.Numbers.{MOST_COMPONENTS, TOO_MANY}
use Rattle.c_interface.specs.Provisioning.{ProvisionsBetween}
use Rattle.c_interface.specs.Setup.{IsCheckedSetup, IsRefusedSetup}

-- The bytes of a flash once the writes of a call are performed on it, one by one: those that the
-- result counts, from the front of the journal on.
abbrev pub performed : List ℕ → List ℕ → CallResult → List ℕ
performed flash journal call_result = replayed flash journal call_result.writes

-- The journal of a call, before the call and after it. This number of its bytes is used.
pub record IsJournalOf (size : ℕ) (old new before after : List ℕ) (writes used : ℕ)
    : Type 0 where
  -- The used bytes record exactly this number of writes. Performed one by one on the old bytes of
  -- the flash, in sectors of this size, the writes make its new bytes. A driver accepts each.
  pub recorded : ∥ IsRecordedBy size old new (take used after) writes ∥₁
  -- The bytes after the used ones are as they were.
  pub fits : used ≤ length after
  pub long : length after ≡ length before
  pub rest : drop used after ≡ drop used before

-- A call is cut only if its journal is too short: it replies `Cut` exactly if a write didn't fit.
-- The journal has `room` bytes, of which `used` are used after the call.
pub record IsCutIfShort (size : ℕ) (new : List ℕ) (room used : ℕ) (first last : Chip)
    (reply : Reply) : Type 0 where
  -- The flash is made for the call: before it nothing was asked of the journal.
  pub unasked : first.journaled ≡ 0
  -- After a cut the rest of the journal is too short for a write that a driver accepts on the new
  -- bytes, and the journal is shorter than what the call asked for.
  pub full : cut_of reply ≡ 1 → ∥ IsTooShort size new room used ∥₁
  pub short : cut_of reply ≡ 1 → room < last.journaled
  -- Without a cut the journal has room for what the call asked for.
  pub enough : cut_of reply ≡ 0 → last.journaled ≤ room

-- A journal of this length is long enough for a call, which isn't cut then. A boot that is cut with
-- room to boot has got a step further: it counted a step of its swap, recorded another state, or
-- settled a set that was requested.
abbrev pub IsEnough : SectorMap → DeviceCall → ℕ → Chip → Chip → Reply → Type 0
IsEnough map Boot room first last reply = IsRoomToBoot map room → cut_of reply ≡ 1
    → (state : State) → state_of map first ≡ Some state → GetsFurther map state first last
IsEnough map call room first last reply = journal_bound map call ≤ room → cut_of reply ≡ 0

-- A call is made on the device in the caller's bytes, and its journal records its writes.
pub record StepsRecorded (checked : CheckedSetup) (call : DeviceCall) (old : List ℕ)
    (was : SavedState) (new : List ℕ) (is : SavedState) (before after : List ℕ) (reply : Reply)
    (writes used : ℕ) : Type 0 where
  pub first : Chip
  pub last : Chip
  pub steps : StepsBetween checked call old was new is reply first last
  pub journal : IsJournalOf checked.map.sector_size old new before after writes used
  pub cut : IsCutIfShort checked.map.sector_size new (length before) used first last reply
  pub enough : IsEnough checked.map call (length before) first last reply

-- A call is made on the device of a setup, and a journal records its writes.
pub record RecordsOn (setup : Setup) (call : DeviceCall) (old : List ℕ) (was : SavedState)
    (new : List ℕ) (is : SavedState) (before after : List ℕ) (reply : Reply) (writes used : ℕ)
    : Type 0 where
  pub checked : CheckedSetup
  pub is_checked : IsCheckedSetup setup old checked
  pub steps : StepsRecorded checked call old was new is before after reply writes used

-- The answer of a call with a journal: the number of the device's reply, and in the result the
-- number of writes that it made and of the journal's bytes that record them. Or why no call was
-- made: then nothing changed, and the result is all zero.
pub data AnswersRecorded (setup : Setup) (call : DeviceCall) (old : List ℕ) (was : SavedState)
    (new : List ℕ) (is : SavedState) (before after : List ℕ) (call_result : CallResult)
    (says : Reply → Type 0) (number : ℕ) : Type 0 where
  Replied : (reply : Reply)
      → RecordsOn setup call old was new is before after reply call_result.writes
      call_result.journal_length
      → IsResultOf reply call_result → says reply → number ≡ number_of reply
      → AnswersRecorded setup call old was new is before after call_result says number
  NotCalled : IsRefusedSetup setup old number → new ≡ old → is ≡ was → after ≡ before
      → call_result ≡ no_result
      → AnswersRecorded setup call old was new is before after call_result says number

-- The answer of a call that accepts a manifest, which may have too many components.
pub data AcceptsRecorded (setup : Setup) (row : ManifestRow) (old : List ℕ) (was : SavedState)
    (new : List ℕ) (is : SavedState) (before after : List ℕ) (call_result : CallResult)
    (number : ℕ) : Type 0 where
  Given : (manifest : Bor Manifest) → IsManifestOf row manifest.now
      → AnswersRecorded setup (Accept manifest) old was new is before after call_result
      (HasNoTexts call_result) number
      → AcceptsRecorded setup row old was new is before after call_result number
  TooMany : MOST_COMPONENTS < row.count → number ≡ TOO_MANY → new ≡ old → is ≡ was
      → after ≡ before → call_result ≡ no_result
      → AcceptsRecorded setup row old was new is before after call_result number

-- The bytes that provisioning asks a journal for, at most.
abbrev pub provision_bound : SectorMap → ℕ
provision_bound map = 144 + 24 * map.images

-- Bytes are provisioned as the flash of a device, and a journal records the writes.
pub record ProvisionsRecorded (map : SectorMap) (old new before after : List ℕ) (reply : Reply)
    (writes used : ℕ) : Type 0 where
  pub first : Chip
  pub last : Chip
  pub between : ProvisionsBetween map old new reply first last
  pub journal : IsJournalOf map.sector_size old new before after writes used
  pub cut : IsCutIfShort map.sector_size new (length before) used first last reply
  pub enough : provision_bound map ≤ length before → cut_of reply ≡ 0

-- The bytes of a setup are provisioned, and a journal records the writes.
pub record ProvisionsOf (setup : Setup) (old new before after : List ℕ) (reply : Reply)
    (writes used : ℕ) : Type 0 where
  pub checked : CheckedSetup
  pub is_checked : IsCheckedSetup setup old checked
  pub provisions : ProvisionsRecorded checked.map old new before after reply writes used

-- The answer of the call that provisions with a journal.
pub data AnswersProvisionRecorded (setup : Setup) (old new before after : List ℕ)
    (call_result : CallResult) (number : ℕ) : Type 0 where
  Provisioned : (reply : Reply)
      → ProvisionsOf setup old new before after reply call_result.writes
      call_result.journal_length
      → IsResultOf reply call_result → number ≡ number_of reply
      → AnswersProvisionRecorded setup old new before after call_result number
  NotProvisioned : IsRefusedSetup setup old number → new ≡ old → after ≡ before
      → call_result ≡ no_result
      → AnswersProvisionRecorded setup old new before after call_result number
