-- Laws of a flash over bytes that are only read: a refused write keeps the promises of a write.
use Rattle.std.proofs.Common.{◌≡◌, ℕ, ◌+◌, ◌*◌, false, List, replicate, Result, Err, refl, arith}
use Rattle.flash_model.specs.declared.error.FlashError.{FlashError}
use Rattle.flash_model.specs.declared.error.FlashError.TheVariants.{Cut, Off}
use Rattle.flash_model.specs.Calls.{Erases, Programs}
use Rattle.flash_model.specs.Chip.{Chip}
use Rattle.flash_model.proofs.Ending.{ends_cut}
use Rattle.slice_flash.specs.ReadOnly.{Fails, RefusesWrite, WasOff}
use Rattle.slice_flash.proofs.Refused.{ends_off, fails_program}
use Rattle.slice_flash.proofs.Writes.{erase_failed}

pub refused_program : (at : ℕ) (bytes : List ℕ) (old new : Chip) (result : Result Unit FlashError)
    → RefusesWrite old new result → Programs at bytes old new result
refused_program at bytes old new result (WasOff off is same) =
    rw (is, same) (fails_program at bytes Off old old refl (omega arith)
    (ends_off old off))
refused_program at bytes old new result (Fails on is fails) =
    let failed : Chip = record old { is_on = false; cuts = old.cuts + 1; faults = old.faults + 1 } in
    rw (is, fails) (fails_program at bytes Cut old failed refl (omega arith)
    (ends_cut on refl refl))

-- An erase is refused as the program of its blank bytes is.
refused_as_program : (sector : ℕ) (error : FlashError) (old new : Chip) → new.journaled ≡ old.journaled
    → RefusesWrite old new (Err error) → Erases sector old new {T = Unit {0}} (Err error)
refused_as_program sector error old new journal is =
    erase_failed sector error old new (omega (arith, journal))
    (refused_program (sector * old.sector_size) (replicate old.sector_size 255) old new (Err error) is)

pub refused_erase : (sector : ℕ) (old new : Chip) (result : Result Unit FlashError)
    → RefusesWrite old new result → Erases sector old new result
refused_erase sector old new result (WasOff off is same) =
    rw (is) (refused_as_program sector Off old new (rw same refl) (WasOff off refl same))
refused_erase sector old new result (Fails on is fails) =
    rw (is) (refused_as_program sector Cut old new (rw fails refl) (Fails on refl fails))
