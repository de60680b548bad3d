-- Worked rows of a journal's format, for a flash of two sectors of 8 bytes 5: the second sector is
-- erased, then eight bytes 7 are programmed there.
use Rattle.std.proofs.Common.{◌≡◌, ℕ, List, [], ◌∷◌, ◌++◌, replicate, refl, arith}
use Rattle.slice_flash.specs.Steps.{AreAccepted, Programmed, Erased, Step, after_steps, spelled, spelling}

abbrev fives : List ℕ
fives = replicate 16 5

abbrev an_erase : Step
an_erase = Erased 8 8

abbrev a_program : Step
a_program = Programmed 8 (replicate 8 7)

pub erase_row : spelled an_erase ≡ 1 ∷ 0 ∷ 0 ∷ 0 ∷ 8 ∷ 0 ∷ 0 ∷ 0 ∷ 8 ∷ 0 ∷ 0 ∷ 0 ∷ []
erase_row = refl

pub program_row : spelled a_program
    ≡ 0 ∷ 0 ∷ 0 ∷ 0 ∷ 8 ∷ 0 ∷ 0 ∷ 0 ∷ 8 ∷ 0 ∷ 0 ∷ 0 ∷ 7 ∷ 7 ∷ 7 ∷ 7 ∷ 7 ∷ 7 ∷ 7 ∷ 7 ∷ []
program_row = refl

-- The lowest byte of a number comes first.
pub far_row : spelled (Erased 66560 2048) ≡ 1 ∷ 0 ∷ 0 ∷ 0 ∷ 0 ∷ 4 ∷ 1 ∷ 0 ∷ 0 ∷ 8 ∷ 0 ∷ 0 ∷ []
far_row = refl

-- The erase comes first in the journal.
pub both_row : spelling (a_program ∷ an_erase ∷ []) ≡ spelled an_erase ++ spelled a_program
both_row = refl

pub erased_row : after_steps fives (an_erase ∷ []) ≡ replicate 8 5 ++ replicate 8 255
erased_row = refl

pub programmed_row : after_steps fives (a_program ∷ an_erase ∷ []) ≡ replicate 8 5 ++ replicate 8 7
programmed_row = refl

pub erase_is_accepted : AreAccepted 8 fives (an_erase ∷ [])
erase_is_accepted = (record { sector = 1; place = refl; whole = refl; inside = omega arith }, tt)
