-- What a call does to a device, and to the bytes that hold it.
use Rattle.std.specs.Prelude.{◌≡◌, ◌⊎◌, ℕ, ◌+◌, ◌<◌, ◌≤◌, true, List, length, slice_index, Some, Result}
use Rattle.std.specs.Borrow.{Bor}
use Rattle.machine.specs.declared.event.Event.TheVariants as event
use Rattle.flash_model.specs.Chip.{Chip, Fixed}
use Rattle.sector_map.specs.declared.layout.SectorMap.{SectorMap}
use Rattle.sector_map.specs.Map.{IsLaidOut, end_of_map}
use Rattle.sector_map.specs.Part.{incoming_of}
use Rattle.manifest.specs.declared.identity.Identity.{Identity}
use Rattle.manifest.specs.Fault.{IsManifest}
use Rattle.set_log.specs.Log.{state_of}
use Rattle.set_log.specs.declared.state.State.{State}
use Rattle.machine.specs.Device.{DeviceState}
use Rattle.upload.specs.NoSession.{LacksSession}
use Rattle.machine.specs.declared.upload_error.UploadError.TheVariants.{NoSession}
use Rattle.upload.specs.Steady.{IsSteadyAt}
use Rattle.upload.specs.View.{view}
use Rattle.upload.specs.Sessions.{AllOpenAt}
use Rattle.upload.specs.Wear.{journal_of_components}
use Rattle.flash_contents.specs.Holding.{DeviceView}
use Rattle.machine.specs.Intake as device
use Rattle.flash_contents.specs.Passing.{StepsTo}
use Rattle.machine.specs.declared.error.Fault.{Fault}
use Rattle.machine.specs.declared.error.Fault.TheVariants as no
use Rattle.machine.specs.declared.reply.Reply.{Reply}
use Rattle.machine.specs.declared.reply.Reply.TheVariants.{Refused}
use Rattle.boot_core.specs.Answers.{reply_of_boot, reply_of_result}
use Rattle.boot_core.specs.Booting.{EndsUploadsAndBoots}
use Rattle.boot_core.specs.Device.{StaysHeld, made}
use Rattle.boot_core.specs.Journal.{AsksToBoot}
use Rattle.boot_core.specs.Ready.{LogsRest}
use Rattle.boot_core.specs.Taking.{ConfirmsHere, FinishesHere, TakesHere, TakesManifestHere, TakesPieceHere}
use Rattle.c_interface.specs.DeviceCall.{DeviceCall, Accept, Piece, Finish, Withdraw, Confirm, Boot}
use Rattle.c_interface.specs.declared.cuts.CutRow.{CutRow}
use Rattle.c_interface.specs.declared.saved_state.SavedState.{SavedState}
use Rattle.c_interface.specs.declared.setup.CheckedSetup.{CheckedSetup}
use Rattle.c_interface.specs.declared.setup.Setup.{Setup}
use Rattle.c_interface.specs.Cuts.{IsCutAsAsked, WritesAsAsked, asked_by}
use Rattle.c_interface.specs.SavedState.{IsDeviceFor, IsDeviceOf, IsLeftIn, IsMatched, is_piece}
use Rattle.c_interface.specs.Numbers.{MOST_CUTS, TOO_MANY}
use Rattle.c_interface.specs.Setup.{IsCheckedSetup, IsRefusedSetup}

-- A call is a step of the machine. A call that accepts a manifest is the step that accepts any text
-- with the meaning of this manifest for this device. Whatever the manifest says, a device that held
-- a state before the call holds one after it.
abbrev pub IsStepOf : device.Setup → DeviceCall → DeviceView → DeviceView → Reply → Type 0
IsStepOf setup (Accept manifest) old new reply =
    ((text : Bor (List ℕ)) → IsManifest setup.identity text.now manifest.now
    → StepsTo setup old new (event.Accept text) reply)
    × StaysHeld setup.map old new
IsStepOf setup (Piece image more) old new reply =
    StepsTo setup old new (event.Piece image more) reply
IsStepOf setup (Finish image) old new reply = StepsTo setup old new (event.Finish image) reply
IsStepOf setup (Withdraw image) old new reply =
    StepsTo setup old new (event.Withdraw image) reply
IsStepOf setup (Confirm image) old new reply = StepsTo setup old new (event.Confirm image) reply
IsStepOf setup Boot old new reply = StepsTo setup old new event.Boot reply

-- A call has a result for which `says` holds, and this is the reply to it.
abbrev pub HasResult : Reply → (Result Unit Fault → Type 0) → Type 0
HasResult reply says = (result : Result Unit Fault) × (reply ≡ reply_of_result result) × says result

-- A boot has such a result, with the number of boots that are left to a new trial.
abbrev pub HasBootResult : Reply → ℕ → (ℕ → Result Reply Fault → Type 0) → Type 0
HasBootResult reply boots says = (left : ℕ) × (left + 1 ≡ boots)
    × (result : Result Reply Fault) × (reply ≡ reply_of_boot result) × says left result

-- A call keeps the promises of its counterpart in Rust: which parts of the flash it touches, what a
-- refusal leaves, and how the call ends.
abbrev pub IsCallOf : SectorMap → Identity → ℕ → DeviceCall → DeviceView → DeviceView → Reply → Type 0
IsCallOf map identity boots (Accept manifest) old new reply =
    HasResult reply (TakesManifestHere map identity manifest.now old new)
IsCallOf map identity boots (Piece image more) old new reply =
    HasResult reply (TakesPieceHere map image more old new)
IsCallOf map identity boots (Finish image) old new reply =
    HasResult reply (FinishesHere map image old new)
IsCallOf map identity boots (Withdraw image) old new reply =
    HasResult reply (TakesHere map (event.Withdraw image) (incoming_of image) old new)
IsCallOf map identity boots (Confirm image) old new reply =
    HasResult reply (ConfirmsHere map image old new)
IsCallOf map identity boots Boot old new reply =
    HasBootResult reply boots (λ left. EndsUploadsAndBoots map left old new)

-- The bytes that a call asks a journal for, at most. The number for a boot isn't used.
abbrev pub journal_bound : SectorMap → DeviceCall → ℕ
journal_bound map (Accept manifest) =
    120 + journal_of_components map manifest.now.components.items
journal_bound map (Piece image more) = 31 + length more.now
journal_bound map (Finish image) = 68
journal_bound map (Withdraw image) = 44
journal_bound map (Confirm image) = 20
journal_bound map Boot = 0

-- A call asks a journal for no more bytes than its bound. A boot asks for no more than room to boot,
-- or gets a step further: it counts a step of its swap, records another state, or settles a set that
-- was requested.
abbrev pub IsJournaled : SectorMap → DeviceCall → Chip → Chip → Type 0
IsJournaled map Boot old new = (state : State) → state_of map old ≡ Some state
    → AsksToBoot map state old new
IsJournaled map call old new = new.journaled ≤ old.journaled + journal_bound map call

-- A call is made on a device whose flash has power.
pub record MakesCall (map : SectorMap) (identity : Identity) (boots : ℕ) (call : DeviceCall)
    (old new : DeviceView) (reply : Reply) : Type 0 where
  -- The fixed part of the flash stays.
  pub fixed : new.flash.fixed ≡ old.flash.fixed
  -- The map is still laid out on the flash.
  pub laid : IsLaidOut map new.flash
  -- If the open uploads matched the flash, they still do.
  pub opens : AllOpenAt (view map old.flash) old.sessions
      → AllOpenAt (view map new.flash) new.sessions
  -- The call is a step of the machine.
  pub steps : IsStepOf (made map identity boots) call old new reply
  -- The call asks a journal for no more bytes than its bound, unless it is a boot that gets a step
  -- further.
  pub journal : IsJournaled map call old.flash new.flash
  -- The call keeps the other promises of its counterpart in Rust.
  pub is : IsCallOf map identity boots call old new reply

-- A refusal leaves the bytes unchanged, with two exceptions. `finish` writes the last bytes of an
-- upload before it checks them, and the result of a boot says what it wrote.
abbrev pub RefusesUnchanged : DeviceCall → List ℕ → List ℕ → Reply → Type 0
RefusesUnchanged (Finish image) old new reply = Unit {0}
RefusesUnchanged Boot old new reply = Unit {0}
RefusesUnchanged other old new reply = (fault : Fault) → reply ≡ Refused fault → new ≡ old

-- What a call changes of the bytes.
pub record LeavesBytes (map : SectorMap) (call : DeviceCall) (old new : List ℕ) (reply : Reply)
    : Type 0 where
  -- Their number stays, and so does each byte after the map.
  pub size : length new ≡ length old
  pub behind : (k : ℕ) → end_of_map map ≤ k → slice_index new k ≡ slice_index old k
  pub refused : RefusesUnchanged call old new reply

-- A call is made on the device in the caller's bytes, between these states of its flash.
pub record StepsBetween (checked : CheckedSetup) (call : DeviceCall) (old : List ℕ)
    (was : SavedState) (new : List ℕ) (is : SavedState) (reply : Reply) (first last : Chip)
    : Type 0 where
  -- The call is made on a device in the old bytes. Its flash has power.
  pub before : DeviceView
  pub is_first : before.flash ≡ first
  pub is_before : IsDeviceFor call checked.map old was before
  -- It leaves a device in the new bytes. Its flash may be off if power failed.
  pub left : DeviceView
  pub is_last : left.flash ≡ last
  pub is_left : IsLeftIn checked.map new is left
  -- Between these two devices it keeps every promise of a call.
  pub makes : MakesCall checked.map checked.identity checked.boots call before left reply
  pub leaves : LeavesBytes checked.map call old new reply
  -- From each device in the old bytes the call is a step to a device in the new bytes. The flash of
  -- the latter has power, also after a power cut. For a piece this holds if the saved uploads match
  -- the old bytes.
  pub each : (is_piece call ≡ true → IsMatched checked.map old was)
      → (device : DeviceView) → IsDeviceOf checked.map old was device
      → (next : DeviceView) × IsDeviceOf checked.map new is next
      × IsStepOf (made checked.map checked.identity checked.boots) call device next reply
  -- Afterwards the saved uploads match the new bytes. For a piece this holds if they did before.
  pub matched : (is_piece call ≡ true → IsMatched checked.map old was)
      → IsMatched checked.map new is
  -- After a piece a flash at rest without a trial holds the same state, whatever was saved.
  pub rests : is_piece call ≡ true → (state : DeviceState)
      → IsSteadyAt (view checked.map first) state → IsSteadyAt (view checked.map last) state
  -- A booted device whose log has a state and no trial refuses a piece that no upload takes with
  -- `NoSession`, and nothing changes.
  pub lacks : (image : ℕ) (more : Bor (List ℕ)) → call ≡ Piece image more → before.up ≡ true
      → LogsRest (state_of checked.map before.flash)
      → LacksSession checked.map before.sessions image (length more.now) before.flash
      → (reply ≡ Refused (no.Upload NoSession)) × (new ≡ old) × (left ≡ before)

-- A call is made on the device in the caller's bytes, with cuts for some of its writes. It makes
-- this number of writes.
pub record StepsOn (checked : CheckedSetup) (asked : Fixed) (call : DeviceCall) (old : List ℕ)
    (was : SavedState) (new : List ℕ) (is : SavedState) (reply : Reply) (writes : ℕ) : Type 0 where
  pub first : Chip
  pub last : Chip
  pub steps : StepsBetween checked call old was new is reply first last
  -- It is cut exactly in the writes that the caller lists.
  pub cut_as_asked : IsCutAsAsked asked.numbers first last reply writes
  -- The new bytes are what exactly these writes make of the old ones, torn as the caller says.
  pub writes_as_asked : WritesAsAsked asked checked.map.sector_size old new writes

-- A call is made on the device of a setup, with no more cuts than a call takes. It makes this
-- number of writes.
pub record CallsOn (setup : Setup) (cuts : List CutRow) (call : DeviceCall) (old : List ℕ)
    (was : SavedState) (new : List ℕ) (is : SavedState) (reply : Reply) (writes : ℕ) : Type 0 where
  pub checked : CheckedSetup
  pub is_checked : IsCheckedSetup setup old checked
  pub few : length cuts ≤ MOST_CUTS
  pub steps : StepsOn checked (asked_by cuts) call old was new is reply writes

-- The setup passes its check, but there are more cuts than a call takes.
pub record AsksTooMuch (setup : Setup) (cuts : List CutRow) (bytes : List ℕ) (number : ℕ)
    : Type 0 where
  pub number_is : number ≡ TOO_MANY
  pub many : MOST_CUTS < length cuts
  pub checked : CheckedSetup
  pub is_checked : IsCheckedSetup setup bytes checked

-- Why no call is made: the setup is refused for these bytes, or there are too many cuts.
abbrev pub IsRefusedBefore : Setup → List CutRow → List ℕ → ℕ → Type 0
IsRefusedBefore setup cuts bytes number =
    IsRefusedSetup setup bytes number ⊎ AsksTooMuch setup cuts bytes number
