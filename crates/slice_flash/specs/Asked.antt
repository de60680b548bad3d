-- A write that is asked for, as a step of the journal.
use Rattle.std.specs.Prelude.{ℕ, ◌+◌, length}
use Rattle.slice_flash.specs.Steps.{Step, Programmed, Erased}
use Rattle.slice_flash.specs.declared.steps.Asked.{Asked}
use Rattle.slice_flash.specs.declared.steps.Asked.TheVariants.{Program, Erase}

-- The write that is asked for at an address.
abbrev pub step_of : ℕ → Asked → Step
step_of at (Program bytes) = Programmed at bytes.now
step_of at (Erase n) = Erased at n

-- The length of its range in bytes.
abbrev pub length_of : Asked → ℕ
length_of (Program bytes) = length bytes.now
length_of (Erase n) = n

-- How many bytes of a journal it takes.
abbrev pub room_of : Asked → ℕ
room_of (Program bytes) = 12 + length bytes.now
room_of (Erase n) = 12
