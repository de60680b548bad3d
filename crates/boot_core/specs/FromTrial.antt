-- Contracts of a boot from a record Trial: one record for each function.
use Rattle.std.specs.Prelude.{◌≡◌, ◌⊎◌, ◌+◌, ◌<◌, ◌≤◌, ℕ, Bool, true, false, List, Some, None, Result, IfOk}
use Rattle.std.specs.Prelude.{◌*◌, Option, is_some, slice_index}
use Rattle.flash_model.specs.Chip.{Chip, Ends}
use Rattle.flash_model.specs.declared.error.FlashError.{FlashError}
use Rattle.sector_map.specs.Map.{Keeps}
use Rattle.sector_map.specs.Part.{Log, only}
use Rattle.common.specs.Masks.{is_member}
use Rattle.sector_map.specs.declared.layout.SectorMap.{SectorMap}
use Rattle.sector_map.specs.declared.layout.Side.TheVariants.{Primary, Secondary}
use Rattle.trailer.specs.Fields.{fields_at}
use Rattle.set_log.specs.Log.{state_of}
use Rattle.set_log.specs.declared.state.RecordKind.TheVariants as log
use Rattle.set_log.specs.declared.state.State.{State}
use Rattle.machine.specs.Device.{DeviceState, Trial}
use Rattle.upload.specs.Steady.{IsSteadyAt, IsFront, request_in}
use Rattle.upload.specs.View.{View, view}
use Rattle.machine.specs.Boots.{GoesBack, GoesOn}
use Rattle.flash_contents.specs.Holding.{IsTrialAt, IsTrialOpen, Stands}
use Rattle.flash_contents.specs.Passing.{IsSwappingBackSome, IsOpenOrAt}
use Rattle.flash_contents.specs.Reading.{AreSetOk, HasLeft, IsFloorOf, IsPassage, RunsAt}
use Rattle.machine.specs.States.{IsConfirmed, IsRaised, settled}
use Rattle.flash_contents.specs.Wear.{members}
use Rattle.flash_contents.specs.declared.finding.Passage.{Passage}
use Rattle.flash_contents.specs.declared.finding.Passage.TheVariants.{Over, Back, Again, Stays, Refused}
use Rattle.flash_contents.specs.Starting.{AreHeld, AreIntact, IsLost}
use Rattle.machine.specs.declared.reply.Reply.{Reply}
use Rattle.machine.specs.declared.reply.Reply.TheVariants.{Reverted, TrialAgain}
use Rattle.decision.specs.Found.{IsLowestAt}
use Rattle.boot_core.specs.Journal.{AsksToBoot, Begins}
use Rattle.boot_core.specs.BootEnds.{BootEnds, BootEndsForAny, Passes}
use Rattle.boot_core.specs.Moving.{may_move, moved_parts}
use Rattle.boot_core.specs.Over.{IsIdleTrial, IsRecordedOver, IsTriedAgain, record_over}
use Rattle.boot_core.specs.Recorded.{IsStateRecorded}
use Rattle.boot_core.specs.Wear.{AreMeasured, DoesNothing, IsAfresh, TriesNone}

-- Whether an image is confirmed.
abbrev pub IsConfirmedIn : SectorMap → ℕ → Chip → Bool → Type 0
IsConfirmedIn map image chip answer = answer ≡ (fields_at map chip image Primary).image_ok

-- Whether each image of a set is confirmed.
abbrev pub AreConfirmedIn : SectorMap → ℕ → Chip → Bool → Type 0
AreConfirmedIn map mask chip answer = AreSetOk (view map chip) mask answer

-- Whether a set on trial can be tried again: a boot is left, and each running image is intact.
abbrev pub IsGoingOn : SectorMap → ℕ → Chip → Bool → Type 0
IsGoingOn map left chip true = (0 < left) × AreIntact (view map chip)
IsGoingOn map left chip false = (left ≡ 0)
    ⊎ ((i : ℕ) × (i < map.images) × IsFront ((view map chip).slot i Primary) None)

-- A floor raised to the security counter of a running image.
abbrev pub IsFloorIn : SectorMap → ℕ → ℕ → Chip → ℕ → Type 0
IsFloorIn map image floor chip raised = (held : Option (List ℕ))
    → IsFront ((view map chip).slot image Primary) held → IsFloorOf held floor raised

-- A call raises floors to the security counters of the running images.
pub record RaisesFloors (map : SectorMap) (floors : List ℕ) (old new : Chip)
    (result : Result (List ℕ) FlashError) : Type 0 where
  -- The flash is as it was.
  pub same : new ≡ old
  -- The floors of a device are raised to the security counters of its running images.
  pub ok : IfOk result (λ raised. (s : DeviceState) → RunsAt (view map old) s
      → s.floors ≡ floors → IsRaised s.images s.running s.floors raised)
  -- Floors past the last image stay.
  pub rest : IfOk result (λ raised. (i : ℕ) → map.images ≤ i
      → slice_index raised i ≡ slice_index floors i)
  pub ends : Ends result old new

-- What was looked at, on any flash, to continue a trial with this passage.
abbrev pub IsLooked : View → State → Passage → Type 0
IsLooked w state Over = AreSetOk w state.mask true
IsLooked w state Back = AreSetOk w state.mask false × AreHeld w state.mask Secondary w.images
IsLooked w state Again = AreSetOk w state.mask false × AreIntact w
IsLooked w state Stays = AreSetOk w state.mask false × AreIntact w
    × ((i : ℕ) × IsLost w state.mask Secondary i)
IsLooked w state (Refused i) = AreSetOk w state.mask false × IsLowestAt w 0 i
    × ((j : ℕ) × IsLost w state.mask Secondary j)

-- A call decides how a boot continues from a trial.
pub record DecidesTrial (map : SectorMap) (state : State) (old new : Chip)
    (result : Result Passage FlashError) : Type 0 where
  -- The flash is as it was.
  pub same : new ≡ old
  -- On any flash, the images that the passage relies on were looked at.
  pub looks : IfOk result (IsLooked (view map old) state)
  -- A set that is tried again has a boot left, and one that only stays on trial has none.
  pub left : IfOk result (HasLeft state.left)
  -- The boot continues as the machine says of the trial.
  pub ok : IfOk result (λ passage. (s : DeviceState) (trial : Trial)
      → IsTrialOpen (view map old) s trial → IsPassage s trial passage)
  pub ends : Ends result old new

-- A trial is over, with these floors: the log says that the device is at rest.
pub record IsTrialOver (map : SectorMap) (state : State) (floors : List ℕ) (old new : Chip)
    (now : State) : Type 0 where
  pub recorded : IsStateRecorded map (record_over state floors) old new now
  pub rests : (s : DeviceState) (trial : Trial) → IsTrialAt (view map old) s trial
      → IsSteadyAt (view map new) (settled s floors)

-- A call records that a trial is over, with these floors.
pub record RecordsOver (map : SectorMap) (state : State) (floors : List ℕ) (old new : Chip)
    (result : Result State FlashError) : Type 0 where
  -- Only the log is written.
  pub outside : Keeps map (only Log) old new
  -- However the call ends, the trial is as it was, or over.
  pub stands : (s : DeviceState) (trial : Trial) → IsTrialAt (view map old) s trial
      → IsTrialAt (view map new) s trial ⊎ IsSteadyAt (view map new) (settled s floors)
  -- If the call succeeds, the trial is over.
  pub done : IfOk result (IsTrialOver map state floors old new)
  -- It asks a journal for at most 120 bytes.
  pub journal : new.journaled ≤ old.journaled + 120
  pub ends : Ends result old new

-- The set of a record has begun to revert.
pub record IsBackBegun (map : SectorMap) (state : State) (old new : Chip) (now : State)
    : Type 0 where
  pub ok : (s : DeviceState) (trial : Trial) → GoesBack s trial
      → IsTrialOpen (view map old) s trial → IsSwappingBackSome map new s trial
  -- The log says so in the record `now`.
  pub recorded : state_of map new ≡ Some now
  pub is : now ≡ record state { kind = log.Back; permanent = false; left = 0 }
  -- The secondary trailers of the set say how many bytes the swap back moves.
  pub moves : AreMeasured (view map old) (view map new) Secondary state.mask
  -- At most, a sector is erased for each image of the set, and one for the record.
  pub erases : new.erases ≤ old.erases + members map state.mask + 1

-- From Trial to Back: a call begins the swap back of a set on trial.
pub record BeginsBack (map : SectorMap) (state : State) (old new : Chip)
    (result : Result State FlashError) : Type 0 where
  -- However it ends, the trial goes on, or the set has begun to revert.
  pub passes : Passes map (moved_parts (is_member state.mask)) old new
      ((s : DeviceState) (trial : Trial) → GoesBack s trial → IsTrialOpen (view map old) s trial
      → IsTrialOpen (view map new) s trial ⊎ IsSwappingBackSome map new s trial)
      (IsBackBegun map state old new) result
  pub open passes use *
  -- It asks a journal for at most 32 bytes for each image of the set, and 120.
  pub journal : new.journaled ≤ old.journaled + (32 * members map state.mask + 120)

-- A set is on trial, at rest or about to revert, and this holds of the trial.
abbrev pub HasTrial : (DeviceState → Trial → Type 0) → SectorMap → Chip → DeviceState → Type 0
HasTrial such map chip s = (trial : Trial) × such s trial × IsOpenOrAt (view map chip) s trial

-- A boot from a trial whose set is completely confirmed ends the trial, and makes the decision. If
-- nothing is taken, or the boot is refused, it writes only the record that the trial is over. That
-- holds on any flash.
pub record BootsConfirmed (map : SectorMap) (state : State) (left : ℕ) (old new : Chip)
    (result : Result Reply FlashError) : Type 0 where
  pub boot : BootEnds map (may_move map old) (left + 1) (HasTrial IsConfirmed map old)
      (λ reply. (s : DeviceState) → HasTrial IsConfirmed map old s
      → IsAfresh map old new 4 reply) old new result
  pub idle : IfOk result (λ reply. DoesNothing reply → IsRecordedOver map state old new)
  -- No set is tried again.
  pub fresh : IfOk result TriesNone
  -- It asks a journal for at most 496 bytes before the swap of requested images is recorded.
  pub begins : Begins map (λ i. is_some (request_in (view map old) i)) 496 old new

-- A boot from a trial that goes on leaves one boot less.
pub record BootsAgain (map : SectorMap) (state : State) (old new : Chip)
    (result : Result Reply FlashError) : Type 0 where
  pub boot : BootEndsForAny map (is_member state.mask) (HasTrial GoesOn map old)
      (IsAfresh map old new 4) old new result
  pub acts : IfOk result (λ reply. DoesNothing reply → ⊥)
  pub again : IfOk result (λ reply. (set left : ℕ) → reply ≡ TrialAgain set left
      → IsTriedAgain map state old new set left)
  -- It asks a journal for at most 120 bytes.
  pub journal : new.journaled ≤ old.journaled + 120

-- A boot from a trial that reverts swaps its set back.
pub record BootsBack (map : SectorMap) (state : State) (old new : Chip)
    (result : Result Reply FlashError) : Type 0 where
  pub boot : BootEndsForAny map (is_member state.mask) (HasTrial GoesBack map old)
      (λ reply. (s : DeviceState) → HasTrial GoesBack map old s → IsAfresh map old new 4 reply)
      old new result
  -- If it succeeds, it replies that the set reverted.
  pub is : IfOk result (λ reply. reply ≡ Reverted state.mask)
  -- It asks a journal for no more than room to boot, or gets a step further.
  pub journal : AsksToBoot map state old new

-- A boot from a record Trial does one of these, or writes nothing because an old image isn't intact.
pub record BootsFromTrial (map : SectorMap) (state : State) (left : ℕ) (old new : Chip)
    (result : Result Reply FlashError) : Type 0 where
  pub boot : BootEnds map (may_move map old) (left + 1) (Stands map old)
      (λ reply. (s : DeviceState) → Stands map old s → IsAfresh map old new 4 reply) old new result
  pub idle : IfOk result (λ reply. DoesNothing reply → IsIdleTrial map state old new reply)
  pub again : IfOk result (λ reply. (set left : ℕ) → reply ≡ TrialAgain set left
      → IsTriedAgain map state old new set left)
  -- It asks a journal for no more than room to boot, or gets a step further.
  pub journal : AsksToBoot map state old new
