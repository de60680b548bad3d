-- What the writes of a flash make of its bytes: this ties the count of writes to what they left.
use Rattle.std.specs.Prelude.{◌≡◌, ℕ, ◌+◌, ◌-◌, ◌*◌, ◌%◌, ◌^◌, ◌<◌, ◌≤◌, ◌==◌, ◌&&◌, min, nat_lt}
use Rattle.std.specs.Prelude.{Bool, List, [], ◌∷◌, length, replicate, slice_index, slice_range}
use Rattle.std.specs.Prelude.{if◌then◌else◌, ⊤}
use Rattle.std.specs.List.{list_any}
use Rattle.flash_model.specs.Chip.{Chip, Fixed}
use Rattle.flash_model.specs.Torn.{left_at, replaced}

-- A write: the address of its range, and the bytes that the range was to have.
pub record Write : Type 0 where
  pub at : ℕ
  pub done : List ℕ

-- Whether write k is one of the armed ones. Numbers end at 2 ^ 64 - 1.
abbrev pub is_torn : List ℕ → ℕ → Bool
is_torn numbers k = nat_lt k (2 ^ 64) && list_any (λ number. number == k) numbers

-- What write k leaves in its range, given the old bytes and the new ones.
abbrev pub leaves : Fixed → ℕ → List ℕ → List ℕ → List ℕ
leaves fixed k old done = if is_torn fixed.numbers k then left_at fixed.cuttings k old done else done

-- All bytes after write k.
abbrev pub after_write : Fixed → ℕ → Write → List ℕ → List ℕ
after_write fixed k write bytes =
    let old = slice_range bytes write.at (write.at + length write.done) in
    replaced write.at (leaves fixed k old write.done) bytes

-- All bytes after these writes. The last write comes first in the list.
abbrev pub performed : Fixed → List Write → List ℕ
performed fixed [] = fixed.first
performed fixed (write ∷ before) =
    after_write fixed (length before + 1) write (performed fixed before)

-- A write is a program that a driver accepts on a flash with these bytes: whole units, at least
-- one, over erased bytes.
pub record IsProgram (write : Write) (bytes : List ℕ) : Type 0 where
  pub inside : write.at + length write.done ≤ length bytes
  pub erased : (k : ℕ) → write.at ≤ k → k < write.at + length write.done
      → slice_index bytes k ≡ 0xff
  pub place : write.at % 8 ≡ 0
  pub units : length write.done % 8 ≡ 0
  pub some : 8 ≤ length write.done

-- A driver accepts this write on a flash with these bytes, in sectors of this size: it is an erase
-- of one sector, or a program.
pub data IsWrite (size : ℕ) (write : Write) (bytes : List ℕ) : Type 0 where
  Erase : (sector : ℕ) → write.at ≡ sector * size → write.at + size ≤ length bytes
      → write.done ≡ replicate size 0xff → IsWrite size write bytes
  Program : IsProgram write bytes → IsWrite size write bytes

-- A driver accepts each of these writes on the bytes that the writes before it left. The last write
-- comes first in the list.
abbrev pub AreWrites : ℕ → Fixed → List Write → Type 0
AreWrites size fixed [] = ⊤
AreWrites size fixed (write ∷ before) =
    IsWrite size write (performed fixed before) × AreWrites size fixed before

-- This number of writes made these bytes, on a flash in sectors of this size. Armed writes are torn
-- as the flash has them fixed, and all others are done.
pub record IsWrittenBy (size : ℕ) (fixed : Fixed) (bytes : List ℕ) (writes : ℕ) : Type 0 where
  -- The writes, with the last one first.
  pub journal : List Write
  -- Counting ends at 2 ^ 64 - 1.
  pub counted : writes ≡ min (length journal) (2 ^ 64 - 1)
  pub replayed : performed fixed journal ≡ bytes
  pub taken : AreWrites size fixed journal

-- The counted writes of a flash made its bytes.
abbrev pub IsWritten : Chip → Type 0
IsWritten chip = IsWrittenBy chip.sector_size chip.fixed chip.bytes chip.writes
