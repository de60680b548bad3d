-- What the call that provisions a device does, and what each of its steps does.
use Rattle.std.specs.Prelude.{◌≡◌, ◌⊎◌, ◌≤◌, ℕ, ◌+◌, ◌*◌, ◌++◌, ◌∷◌, [], Bool, true, false, List, Option, Result}
use Rattle.std.specs.Prelude.{Err, IfErr, OnOk}
use Rattle.flash_model.specs.declared.error.FlashError.{FlashError}
use Rattle.flash_model.specs.Chip.{Chip, Ends}
use Rattle.sector_map.specs.declared.layout.SectorMap.{SectorMap}
use Rattle.sector_map.specs.declared.layout.Side.{Side}
use Rattle.sector_map.specs.Map.{IsLaidOut, Keeps}
use Rattle.sector_map.specs.Part.{Part}
use Rattle.reports.specs.declared.table.Entry.{Entry}
use Rattle.reports.specs.declared.table.Image.{Image}
use Rattle.validity.specs.Running.{running_row}
use Rattle.machine.specs.declared.error.Fault.{Fault}
use Rattle.flash_model.specs.declared.error.FlashError.TheVariants.{Off}
use Rattle.machine.specs.declared.error.Fault.TheVariants.{Flash, InvalidSet, RunningDamaged}
use Rattle.decision.specs.Places.{read_as, some_if}
use Rattle.decision.specs.Telling.{TellsUnlessOff}
use Rattle.boot_core.specs.Answers.{IsOff}
use Rattle.boot_core.specs.Provisioned.{AnswersMaking, AreCleared, EndsMaking, IsDoneOrCut}
use Rattle.boot_core.specs.Provisioned.{IsFirstDamaged, IsInvalidThere, IsJudged, IsProvisioned}
use Rattle.boot_core.specs.Provisioned.{IsBegunAfresh, IsRowThere, IsTrailerErased, IsValidThere}
use Rattle.boot_core.specs.Provisioned.{RefusesMaking, any_trailer}
use Rattle.boot_core.specs.Provisioned.{provided, running_bytes}

-- The row of an image that its primary slot begins with, or None if that isn't intact.
abbrev pub IsRowIn : SectorMap → ℕ → Chip → Option Image → Type 0
IsRowIn map image chip row = IsRowThere (running_bytes map chip image) row

-- A call adds what is known of the image that a primary slot begins with.
pub record PushesRunning (map : SectorMap) (image : ℕ) (old new : Chip) (before after : List Entry)
    (result : Result Bool FlashError) : Type 0 where
  pub entry : Entry
  -- One entry is added.
  pub pushed : after ≡ before ++ entry ∷ []
  pub reads : TellsUnlessOff (IsRowIn map image) old new (read_as (some_if (running_row entry)) result)

-- A call checks the images in the primary slots.
pub record Judges (map : SectorMap) (old new : Chip) (result : Result (List ℕ) Fault)
    : Type 0 where
  pub same : new ≡ old
  -- The result is the counters of these images, or why they are refused.
  pub judged : IsJudged map old result
  -- If the flash is off, the result says so.
  pub off : old.is_on ≡ false → result ≡ Err (Flash Off)

-- Both trailers of an image are erased.
abbrev pub IsClearedIn : SectorMap → ℕ → Chip → Type 0
IsClearedIn map image chip = (side : Side) → IsTrailerErased map chip image side

-- Both trailers of every image are erased.
abbrev pub AreClearedIn : SectorMap → Chip → Type 0
AreClearedIn map chip = AreCleared map chip map.images

-- A call writes only these parts and, if it is `Ok`, `says` is true of the flash. It asks a journal
-- for at most `most` bytes.
pub record Leaves (map : SectorMap) (touched : Part → Bool) (says : Chip → Type 0) (most : ℕ)
    (old new : Chip) {T : Type 0} (result : Result T FlashError) : Type 0 where
  pub outside : Keeps map touched old new
  pub ok : OnOk result (says new)
  pub journal : new.journaled ≤ old.journaled + most
  pub ends : Ends result old new

-- Only trailers were written, or all trailers are erased: the log isn't written before that.
abbrev pub IsInOrder : SectorMap → Chip → Chip → Type 0
IsInOrder map old new = Keeps map any_trailer old new ⊎ AreClearedIn map new

-- A call erases all trailers, and then begins the log.
pub record BeginsAfresh (map : SectorMap) (floors : List ℕ) (old new : Chip) {T : Type 0}
    (result : Result T FlashError) : Type 0 where
  -- Only the trailers and the log are written.
  pub outside : Keeps map provided old new
  -- Whatever happens, the log isn't written before all trailers are erased.
  pub order : IsInOrder map old new
  pub ok : OnOk result (IsBegunAfresh map floors new)
  -- It asks a journal for at most 144 bytes, and 24 for each image.
  pub journal : new.journaled ≤ old.journaled + (144 + 24 * map.images)
  pub ends : Ends result old new

-- A call provisions a flash if its primary slots begin with intact and valid images.
pub record MakesDevice (map : SectorMap) (old new : Chip) (result : Result Unit Fault)
    : Type 0 where
  -- Only the trailers and the log are written.
  pub outside : Keeps map provided old new
  -- Whatever happens, the log isn't written before all trailers are erased.
  pub order : IsInOrder map old new
  pub erased : OnOk result (AreClearedIn map new)
  -- The result says whether the flash is provisioned, or why not.
  pub answers : AnswersMaking map old new result
  -- If the flash is off, the result says so.
  pub off : old.is_on ≡ false → result ≡ Err (Flash Off)
  pub asleep : old.is_on ≡ false → new ≡ old
  -- It asks a journal for at most 144 bytes, and 24 for each image.
  pub journal : new.journaled ≤ old.journaled + (144 + 24 * map.images)

-- A call provisions a device.
pub record Provisions (map : SectorMap) (old new : Chip) (result : Result Unit Fault)
    : Type 0 where
  -- Slots and scratch are unchanged, whatever happens.
  pub outside : Keeps map provided old new
  pub laid : IsLaidOut map new
  -- After `Ok` the device runs what the primary slots began with, which is valid.
  pub ok : OnOk result (IsProvisioned map old new)
  -- After `Ok` each trailer is erased, byte for byte.
  pub erased : OnOk result (AreClearedIn map new)
  -- Whatever happens, the log isn't written before all trailers are erased.
  pub order : IsInOrder map old new
  -- A refusal says why and, unless it is a power cut, nothing changed.
  pub refused : IfErr result (RefusesMaking map old new)
  -- If an image isn't intact, the lowest one is reported.
  pub damaged : old.is_on ≡ true → (i : ℕ) → IsFirstDamaged map old i
      → result ≡ Err (RunningDamaged i)
  -- If all images are intact but don't meet their dependencies or groups, that is reported.
  pub invalid : old.is_on ≡ true → IsInvalidThere map old → result ≡ Err InvalidSet
  -- If all images are intact and valid, the device is provisioned, or power failed.
  pub whole : old.is_on ≡ true → IsValidThere map old → IsDoneOrCut result
  -- If the flash is off, the result says so and nothing is changed.
  pub off : old.is_on ≡ false → IsOff result old new
  -- It asks a journal for at most 144 bytes, and 24 for each image.
  pub journal : new.journaled ≤ old.journaled + (144 + 24 * map.images)
  -- The result is Cut only if a write was interrupted, and Off only if the flash was off.
  pub ends : EndsMaking result old new
