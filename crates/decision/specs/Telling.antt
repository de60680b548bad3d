-- Contracts of calls that only read a flash.
use Rattle.std.specs.Prelude.{◌≡◌, true, Result, IfErr, IfOk, OnOk}
use Rattle.flash_model.specs.declared.error.FlashError.{FlashError}
use Rattle.flash_model.specs.declared.error.FlashError.TheVariants.{Off}
use Rattle.flash_model.specs.Chip.{Chip, Ends}

-- A call returns a value that is true of the flash (`says`).
pub record Tells {T : Type 0} (says : Chip → T → Type 0) (old new : Chip)
    (result : Result T FlashError) : Type 0 where
  -- The flash doesn't change.
  pub same : new ≡ old
  -- If the call succeeds, `says` holds for the flash and the result.
  pub ok : IfOk result (says old)
  pub ends : Ends result old new

-- The same, for a call that can fail only because the flash is off.
pub record TellsUnlessOff {T : Type 0} (says : Chip → T → Type 0) (old new : Chip)
    (result : Result T FlashError) : Type 0 where
  -- The flash doesn't change.
  pub same : new ≡ old
  -- If the call succeeds, `says` holds for the flash and the result.
  pub ok : IfOk result (says old)
  pub ends : Ends result old new
  -- The call succeeds only if the flash is on.
  pub on : OnOk result (old.is_on ≡ true)
  -- Its only error is `Off`.
  pub off : IfErr result (λ error. error ≡ Off)
