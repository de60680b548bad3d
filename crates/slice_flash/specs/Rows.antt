-- Which writes are to be interrupted, by the rows of a table.
use Rattle.std.specs.Prelude.{ℕ, ◌+◌, ◌-◌, ◌^◌, ◌==◌, List, [], map, find, nat_lt, if◌then◌else◌}
use Rattle.std.specs.Prelude.{Option, None, Some, option_map}
use Rattle.flash_model.specs.Chip.{Fixed, unarmed}
use Rattle.flash_model.specs.Torn.{Cutting, with_pattern}
use Rattle.slice_flash.specs.declared.table.ArmedCut.{ArmedCut}
use Rattle.slice_flash.specs.declared.table.Left.{Left}
use Rattle.slice_flash.specs.declared.table.Left.TheVariants.{Keep, Done, Bytes}

-- The numbers of the writes that are to be interrupted.
abbrev pub numbers_in : List ArmedCut → List ℕ
numbers_in table = map (λ cut. cut.write) table

-- What the write of this number leaves if it is to be interrupted. The first row for it counts.
abbrev pub left_for : ℕ → List ArmedCut → Option Left
left_for number table = option_map (λ cut. cut.left) (find (λ cut. cut.write == number) table)

-- What the write after this number of writes leaves if it is to be interrupted. Numbers end at 2 ^
-- 64 - 1, and no later write is interrupted.
abbrev pub left_after : ℕ → List ArmedCut → Option Left
left_after writes table =
    if nat_lt writes (2 ^ 64 - 1) then left_for (writes + 1) table else None

-- What an interrupted write leaves in its range, given the old bytes and the new ones.
abbrev pub torn_bytes : Left → List ℕ → List ℕ → List ℕ
torn_bytes Keep old done = old
torn_bytes Done old done = done
torn_bytes (Bytes pattern) old done = with_pattern pattern.now old

-- What a write leaves in its range. A write that isn't interrupted leaves the new bytes.
abbrev pub left_of : Option Left → List ℕ → List ℕ → List ℕ
left_of None old done = done
left_of (Some left) old done = torn_bytes left old done

-- The kind of a row's cut, as a number of `Cutting`.
abbrev pub kind_of : Left → ℕ
kind_of Keep = 0
kind_of Done = 1
kind_of (Bytes pattern) = 3

abbrev pub pattern_of : Left → List ℕ
pattern_of (Bytes pattern) = pattern.now
pattern_of other = []

abbrev pub cutting_of : ArmedCut → Cutting
cutting_of cut = record {
  number = cut.write;
  kind = kind_of cut.left;
  pattern = pattern_of cut.left;
}

-- What no call changes of a flash with this table and these first bytes. The bytes are borrowed,
-- and the borrow has this name.
abbrev pub fixed_by : List ArmedCut → List ℕ → ℕ → Fixed
fixed_by table first name = record unarmed {
  numbers = numbers_in table;
  cuttings = map cutting_of table;
  first = first;
  name = name;
}
