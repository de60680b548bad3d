-- Contracts of the functions that confirm an image: one record for each.
use Rattle.std.specs.Prelude.{◌≡◌, ◌⊎◌, ℕ, ◌+◌, ◌<◌, ◌≤◌, Bool, true, false, Result, Ok, Err, IfOk, IsErrOf}
use Rattle.flash_model.specs.Chip.{Chip, Ends}
use Rattle.flash_model.specs.declared.error.FlashError.{FlashError}
use Rattle.flash_model.specs.declared.error.FlashError.TheVariants.{Cut, Off}
use Rattle.sector_map.specs.Map.{Keeps}
use Rattle.sector_map.specs.Part.{only, TrailerOf}
use Rattle.common.specs.Masks.{is_member}
use Rattle.sector_map.specs.declared.layout.SectorMap.{SectorMap}
use Rattle.sector_map.specs.declared.layout.Side.TheVariants.{Primary}
use Rattle.trailer.specs.Fields.{fields_at}
use Rattle.set_log.specs.Log.{state_of}
use Rattle.machine.specs.Device.{DeviceState, Trial}
use Rattle.upload.specs.View.{view}
use Rattle.machine.specs.Boots.{IsOnTrial}
use Rattle.flash_contents.specs.Holding.{IsTrialAt, IsAtRest}
use Rattle.flash_contents.specs.Passing.{CutsConfirm, EndsConfirm}
use Rattle.machine.specs.States.{with_confirmed}
use Rattle.boot_core.specs.declared.confirming.Confirmation.{Confirmation}
use Rattle.boot_core.specs.declared.confirming.Confirmation.TheVariants.{Done, NotOnTrial, NotBooted}
use Rattle.boot_core.specs.Ready.{LogsBoot, LogsTrialOf}

-- image_ok of an image's primary trailer is set.
abbrev pub IsOkSet : SectorMap → ℕ → Chip → Type 0
IsOkSet map image chip = (fields_at map chip image Primary).image_ok ≡ true

-- What each result of a confirmation says. After yes the image is on trial, and is confirmed in its
-- trailer. After no it isn't on trial. Power fails only if it is on trial.
abbrev pub AnswersTrial : Type 0 → SectorMap → ℕ → Chip → Chip → Result Bool FlashError → Type 0
AnswersTrial OnTrial map image old new (Ok true) = OnTrial × IsOkSet map image new
AnswersTrial OnTrial map image old new (Ok false) = OnTrial → ⊥
AnswersTrial OnTrial map image old new (Err Cut) = OnTrial
AnswersTrial OnTrial map image old new (Err Off) = old.is_on ≡ false

-- An image of the map is in a mask.
abbrev pub IsOfSet : SectorMap → ℕ → ℕ → Type 0
IsOfSet map mask image = (image < map.images) × (is_member mask image ≡ true)

-- A call confirms an image if it is in the set of a record Trial, and returns whether it is.
pub record ConfirmsImage (map : SectorMap) (mask image : ℕ) (old new : Chip)
    (result : Result Bool FlashError) : Type 0 where
  -- Only the primary trailer of the image is written.
  pub outside : Keeps map (only (TrailerOf image Primary)) old new
  -- However the call ends, the trial is as it was, or with this image confirmed.
  pub stands : (s : DeviceState) (trial : Trial) → IsTrialAt (view map old) s trial
      → IsTrialAt (view map new) s trial
      ⊎ (IsOnTrial s image trial × IsAtRest (view map new) (with_confirmed s trial image))
  -- If the result is yes, the image is on trial and is confirmed.
  pub done : IfOk result (λ yes. yes ≡ true → (s : DeviceState) (trial : Trial)
      → IsTrialAt (view map old) s trial
      → IsOnTrial s image trial × IsAtRest (view map new) (with_confirmed s trial image))
  -- If the result is no, the image isn't on trial, and the trial is as it was.
  pub none : IfOk result (λ yes. yes ≡ false → (s : DeviceState) (trial : Trial)
      → IsTrialAt (view map old) s trial
      → IsTrialAt (view map new) s trial × ((other : Trial) → IsOnTrial s image other → ⊥))
  -- On any flash the result is whether the image is in the set.
  pub answers : AnswersTrial (IsOfSet map mask image) map image old new result
  -- Power fails only if the image is on trial.
  pub tried : IsErrOf result Cut → (s : DeviceState) (trial : Trial)
      → IsTrialAt (view map old) s trial → IsOnTrial s image trial
  -- If the result is no, the flash is as it was.
  pub same : IfOk result (λ yes. yes ≡ false → new ≡ old)
  -- It asks a journal for at most 20 bytes.
  pub journal : new.journaled ≤ old.journaled + 20
  pub ends : Ends result old new

-- Whether an image is confirmed.
abbrev pub is_done : Confirmation → Bool
is_done Done = true
is_done NotOnTrial = false
is_done NotBooted = false

-- What each result of a confirmation says of the log. After Done the image is on trial, and is
-- confirmed in its trailer. NotBooted is returned exactly if a boot was interrupted. Power fails only
-- if the image is on trial.
abbrev pub AnswersConfirm : SectorMap → ℕ → Chip → Chip → Result Confirmation FlashError → Type 0
AnswersConfirm map image old new (Ok Done) =
    LogsTrialOf map.images image (state_of map old) × IsOkSet map image new
AnswersConfirm map image old new (Ok NotOnTrial) =
    (LogsTrialOf map.images image (state_of map old) → ⊥) × (LogsBoot (state_of map old) → ⊥)
AnswersConfirm map image old new (Ok NotBooted) = LogsBoot (state_of map old)
AnswersConfirm map image old new (Err Cut) = LogsTrialOf map.images image (state_of map old)
AnswersConfirm map image old new (Err Off) = old.is_on ≡ false

-- A call confirms an image if it is on trial.
pub record Confirms (map : SectorMap) (image : ℕ) (old new : Chip)
    (result : Result Confirmation FlashError) : Type 0 where
  -- Only the primary trailer of the image is written.
  pub outside : Keeps map (only (TrailerOf image Primary)) old new
  -- After a power cut the image is on trial, and is confirmed or as it was.
  pub cut : IsErrOf result Cut → (s : DeviceState) → IsAtRest (view map old) s
      → CutsConfirm (view map new) s image
  -- Otherwise the image is confirmed, or it isn't on trial and the state is as it was.
  pub ok : IfOk result (λ found. (s : DeviceState) → IsAtRest (view map old) s
      → EndsConfirm (view map new) s image (is_done found))
  -- On any flash the result is what the log says.
  pub answers : AnswersConfirm map image old new result
  -- If the flash is off, that is the result.
  pub off : old.is_on ≡ false → IsErrOf result Off
  -- If the image isn't confirmed, the flash is as it was.
  pub same : IfOk result (λ found. is_done found ≡ false → new ≡ old)
  -- It asks a journal for at most 20 bytes.
  pub journal : new.journaled ≤ old.journaled + 20
  pub ends : Ends result old new
