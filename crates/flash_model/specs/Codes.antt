-- The numbers and the names of a flash's errors.
use Rattle.std.specs.Prelude.{ℕ, List, codes}
use Rattle.flash_model.specs.declared.error.FlashError.{FlashError}
use Rattle.flash_model.specs.declared.error.FlashError.TheVariants.{Cut, Off}

-- The number of an error.
abbrev pub code_of : FlashError → ℕ
code_of Cut = 1
code_of Off = 2

-- The name of an error, as it is printed.
abbrev pub name_of : FlashError → List ℕ
name_of Cut = codes "Cut"
name_of Off = codes "Off"
