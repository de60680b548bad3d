-- Worked rows of `performed` and `AreWrites` for three small flashes of two sectors of 8 bytes: an
-- erase, a program after it, and a torn program.
use Rattle.std.proofs.Common.{◌≡◌, ℕ, List, [], ◌∷◌, ◌++◌, replicate, refl, arith}
use Rattle.flash_model.specs.Chip.{Fixed, unarmed}
use Rattle.std.specs.Prelude.{map}
use Rattle.flash_model.specs.Written.{AreWrites, Erase, Write, performed}

abbrev fives : List ℕ
fives = replicate 16 5

-- A flash that was made of sixteen bytes 5. The writes with these numbers are armed to leave half.
abbrev halving : List ℕ → Fixed
halving numbers = record unarmed {
  numbers = numbers;
  cuttings = map (λ n. record { number = n; kind = 2; pattern = [] }) numbers;
  first = fives;
}

-- The second sector is erased.
abbrev an_erase : Write
an_erase = record { at = 8; done = replicate 8 255 }

-- Eight bytes 7 are programmed into the second sector.
abbrev a_program : Write
a_program = record { at = 8; done = replicate 8 7 }

pub erase_row : performed (halving []) (an_erase ∷ []) ≡ replicate 8 5 ++ replicate 8 255
erase_row = refl

pub program_row : performed (halving []) (a_program ∷ an_erase ∷ []) ≡ replicate 8 5 ++ replicate 8 7
program_row = refl

-- The second write is armed.
pub torn_row : performed (halving (2 ∷ [])) (a_program ∷ an_erase ∷ []) ≡ replicate 8 5 ++ replicate 4 7 ++ replicate 4 255
torn_row = refl

-- The number of a write that isn't made tears nothing.
pub untorn_row : performed (halving (3 ∷ [])) (a_program ∷ an_erase ∷ []) ≡ replicate 8 5 ++ replicate 8 7
untorn_row = refl

pub erase_is_taken : AreWrites 8 (halving []) (an_erase ∷ [])
erase_is_taken = (Erase 1 refl (omega arith) refl, tt)
