-- Contracts of the calls that withdraw a request: one record for each call.
use Rattle.std.specs.Prelude.{◌≡◌, ◌≤◌, ◌<◌, ◌+◌, ℕ, false, List, Option, Result, Err, IfErr, IsErrOf, OnOk}
use Rattle.flash_model.specs.declared.error.FlashError.TheVariants.{Off}
use Rattle.flash_model.specs.Chip.{Chip}
use Rattle.sector_map.specs.declared.layout.SectorMap.{SectorMap}
use Rattle.sector_map.specs.Part.{incoming_of}
use Rattle.sector_map.specs.Map.{Keeps}
use Rattle.machine.specs.declared.upload_error.UploadError.{UploadError}
use Rattle.machine.specs.declared.upload_error.UploadError.TheVariants.{Flash, NothingRequested}
use Rattle.upload.specs.declared.sessions.Upload.{Upload}
use Rattle.upload.specs.View.{view}
use Rattle.machine.specs.Device.{Machine}
use Rattle.upload.specs.Sessions.{AllOpenAt, IsUpAt}
use Rattle.upload.specs.Ending.{EndsUpload, IsClosedAfter}
use Rattle.machine.specs.Intake.{is_flash}
use Rattle.upload.specs.Withdrawal.{EndsWithdraw}
use Rattle.machine.specs.Withdrawal.{Withdraws}

-- A call withdraws the request of an image of the map, if one is pending.
pub record WithdrawsStanding (map : SectorMap) (image : ℕ) (old new : Chip)
    (result : Result Unit UploadError) : Type 0 where
  -- Only the image's secondary slot and its trailer are written.
  pub outside : Keeps map (incoming_of image) old new
  -- The result, and what the call leaves.
  pub withdraws : EndsWithdraw (view map old) (view map new) image result
  -- If no request is pending, nothing changes.
  pub nothing : IfErr result (λ error. is_flash {T = Unit} (Err error) ≡ false → new ≡ old)
  -- If the call succeeds, it erased the slot's first sector and its trailer, once each.
  pub erases : OnOk result (new.erases ≡ old.erases + 2)
  -- If the flash is off, that is the result.
  pub off : old.is_on ≡ false → IsErrOf result (Flash Off)
  -- It asks a journal for at most 44 bytes.
  pub journal : new.journaled ≤ old.journaled + 44
  pub ends : EndsUpload result old new

-- A call of `withdraw`, with the table of uploads before and after it.
pub record WithdrawsRequest (map : SectorMap) (image : ℕ) (told tnew : List (Option Upload))
    (old new : Chip) (result : Result Unit UploadError) : Type 0 where
  -- Only the image's secondary slot and its trailer are written.
  pub outside : Keeps map (incoming_of image) old new
  -- If all uploads of the table matched the flash, they still do.
  pub all_open : AllOpenAt (view map old) told → AllOpenAt (view map new) tnew
  -- On any flash: the result, and what the call leaves, for an image of the map.
  pub withdraws : image < map.images → EndsWithdraw (view map old) (view map new) image result
  -- The map has no such image: nothing is requested.
  pub unknown : map.images ≤ image → result ≡ Err NothingRequested
  -- If the flash is off, that is the result for an image of the map.
  pub off : old.is_on ≡ false → image < map.images → IsErrOf result (Flash Off)
  -- If nothing is requested, nothing changes.
  pub nothing : IfErr result (λ error. is_flash {T = Unit} (Err error) ≡ false → new ≡ old)
  -- If the call succeeds, it erased the slot's first sector and its trailer, once each.
  pub erases : OnOk result (new.erases ≡ old.erases + 2)
  -- If the call fails at the flash, all uploads are closed. Otherwise the table doesn't change.
  pub table : IsClosedAfter result told tnew
  -- On a flash that holds a state, the call is the step of a machine that knows complete images.
  pub row : (m : Machine) → IsUpAt (view map old) told m
      → (next : Machine) × Withdraws m image result next × IsUpAt (view map new) tnew next
  -- It asks a journal for at most 44 bytes.
  pub journal : new.journaled ≤ old.journaled + 44
  pub ends : EndsUpload result old new
