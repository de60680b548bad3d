-- A place of the log, in bytes: a record, and after it its gate, which is a unit.
use Rattle.std.specs.Prelude.{ℕ, List, [], ◌∷◌}

-- How many bytes a place has.
abbrev pub PLACE : ℕ
PLACE = 64

-- How many bytes a record has, without its gate.
abbrev pub RECORD : ℕ
RECORD = 56

-- Where the gate begins in its place.
abbrev pub GATE : ℕ
GATE = 56

-- A unit that is set as a flag.
abbrev pub flag : List ℕ
flag = 0x01 ∷ 0xff ∷ 0xff ∷ 0xff ∷ 0xff ∷ 0xff ∷ 0xff ∷ 0xff ∷ []
