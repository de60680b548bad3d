-- The writes of a call that are to be cut.
use Rattle.std.specs.Prelude.{◌≡◌, ◌==◌, ℕ, ◌<◌, ◌≤◌, false, List, [], length, map, min, slice_get, take}
use Rattle.std.specs.Prelude.{if◌then◌else◌, Some}
use Rattle.std.specs.List.{list_any}
use Rattle.flash_model.specs.Chip.{Chip, Fixed, reached, unarmed}
use Rattle.flash_model.specs.Torn.{Cutting}
use Rattle.flash_model.specs.Written.{IsWrittenBy}
use Rattle.machine.specs.Steps.{cut_of}
use Rattle.machine.specs.declared.reply.Reply.{Reply}
use Rattle.slice_flash.specs.declared.table.ArmedCut.{ArmedCut}
use Rattle.slice_flash.specs.declared.table.Left.{Left}
use Rattle.slice_flash.specs.declared.table.Left.TheVariants.{Keep, Done, Bytes}
use Rattle.c_interface.specs.declared.cuts.CutRow.{CutRow}

-- What a row says that its cut leaves: the old bytes, the new bytes, or up to 8 bytes of its
-- pattern.
abbrev pub IsLeftBy : CutRow → Left → Type 0
IsLeftBy row Keep = row.residue ≡ 0
IsLeftBy row Done = row.residue ≡ 1
IsLeftBy row (Bytes pattern) =
    (2 ≤ row.residue) × (pattern.now ≡ take (min row.pattern_length 8) row.pattern)

-- The cut of a row.
pub record IsCutOf (row : CutRow) (cut : ArmedCut) : Type 0 where
  pub write : cut.write ≡ row.write
  pub left : IsLeftBy row cut.left

-- A table has the cuts of rows, in their order. The entries after them cut nothing, since writes
-- are counted from 1.
pub record AreCutsOf (rows : List CutRow) (table : List ArmedCut) : Type 0 where
  pub each : (k : ℕ) (row : CutRow) → slice_get rows k ≡ Some row
      → (cut : ArmedCut) × (slice_get table k ≡ Some cut) × IsCutOf row cut
  pub rest : (k : ℕ) (cut : ArmedCut) → length rows ≤ k → slice_get table k ≡ Some cut
      → cut.write ≡ 0

-- The numbers of the writes that are to be cut.
abbrev pub numbers_of : List CutRow → List ℕ
numbers_of rows = map (λ row. row.write) rows

-- What the cut of a row leaves in its range: 0 the old bytes, 1 the new bytes, 3 the pattern.
abbrev pub kind_by : CutRow → ℕ
kind_by row = if row.residue == 0 then 0 else if row.residue == 1 then 1 else 3

abbrev pub pattern_by : CutRow → List ℕ
pattern_by row = if row.residue == 0 then [] else if row.residue == 1 then []
    else take (min row.pattern_length 8) row.pattern

abbrev pub cutting_by : CutRow → Cutting
cutting_by row = record {
  number = row.write;
  kind = kind_by row;
  pattern = pattern_by row;
}

-- Which writes of a call are to be cut, and what each cut leaves.
abbrev pub asked_by : List CutRow → Fixed
asked_by rows = record unarmed { numbers = numbers_of rows; cuttings = map cutting_by rows }

-- The new bytes are what exactly this number of writes makes of the old ones, in sectors of this
-- size.
pub record WritesAsAsked (asked : Fixed) (size : ℕ) (old new : List ℕ) (writes : ℕ) : Type 0 where
  -- A driver accepts each of these writes. The writes on the list are torn as it says, and all
  -- others are complete.
  pub made : ∥ IsWrittenBy size (record asked { first = old }) new writes ∥₁
  -- If a write is cut, it is the last one.
  pub last : (k : ℕ) → 1 ≤ k → k < writes
      → list_any (λ number. number == k) asked.numbers ≡ false

-- Power fails in exactly the listed writes of a call. The call makes this number of writes.
pub record IsCutAsAsked (numbers : List ℕ) (before left : Chip) (reply : Reply) (writes : ℕ)
    : Type 0 where
  -- The flash is made for the call: before it no write was counted and none was cut.
  pub unwritten : before.writes ≡ 0
  pub uncut : before.cuts ≡ 0
  -- The listed writes are to be cut, before the call and after it.
  pub armed : before.fixed.numbers ≡ numbers
  pub still : left.fixed.numbers ≡ numbers
  -- The flash counts the programs and erases of the call.
  pub counted : left.writes ≡ writes
  -- The reply is `Cut` exactly if one of these writes is listed.
  pub cut : cut_of reply ≡ reached numbers writes
