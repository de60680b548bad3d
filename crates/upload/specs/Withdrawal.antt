-- What a withdrawal leaves on the flash.
use Rattle.std.specs.Prelude.{◌≡◌, ◌≢◌, ◌⊎◌, ℕ, None, Result, Ok, Err}
use Rattle.flash_model.specs.declared.error.FlashError.TheVariants as flash
use Rattle.sector_map.specs.declared.layout.Side.TheVariants.{Secondary}
use Rattle.trailer.specs.Fields.{erased_fields}
use Rattle.machine.specs.declared.upload_error.UploadError.{UploadError}
use Rattle.machine.specs.declared.upload_error.UploadError.TheVariants as no
use Rattle.upload.specs.View.{View}
use Rattle.upload.specs.Steady.{request_in}

-- The request of an image is as it was, slot and trailer, or none is pending.
abbrev pub IsKeptOrGone : View → View → ℕ → Type 0
IsKeptOrGone old new i = ((new.slot i Secondary ≡ old.slot i Secondary)
    × (new.trailer i Secondary ≡ old.trailer i Secondary)) ⊎ (request_in new i ≡ None)

-- What withdrawing leaves on the flash, by its result.
abbrev pub EndsWithdraw : View → View → ℕ → Result Unit UploadError → Type 0
EndsWithdraw old new i (Ok done) =
    (request_in old i ≢ None) × (new.trailer i Secondary ≡ erased_fields)
EndsWithdraw old new i (Err no.NothingRequested) = (request_in old i ≡ None) × (new ≡ old)
EndsWithdraw old new i (Err (no.Flash flash.Cut)) =
    (request_in old i ≢ None) × IsKeptOrGone old new i
EndsWithdraw old new i (Err (no.Flash flash.Off)) = new ≡ old
EndsWithdraw old new i other = ⊥
