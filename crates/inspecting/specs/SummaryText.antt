-- The texts of a summary.
use Rattle.std.specs.Prelude.{◌≡◌, ℕ, ◌^◌, ◌<◌, ◌≤◌, Bool, ◌&&◌, IsTrue, List, length, map, nat_le}
use Rattle.std.specs.Cmp.Lexicographic.{slice_cmp}
use Rattle.std.specs.List.{AllByRecursion, list_all}
use Rattle.std.specs.List.Sorted.{IsStrictlySortedBy}
use Rattle.std.specs.Ordering.{nat_cmp}
use Rattle.inspecting.specs.Fleet.{IsName}
use Rattle.inspecting.specs.Row.{Row, summary_text}
use Rattle.inspecting.specs.declared.fleet.row_line.ReadRow.{ReadRow}

-- Whether a key may have this byte: from a space (0x20) to `~` (0x7e).
abbrev pub is_key_byte : ℕ → Bool
is_key_byte b = nat_le 32 b && nat_le b 126

-- A key: some such bytes.
pub record IsKey (key : List ℕ) : Type 0 where
  pub some : 1 ≤ length key
  pub bytes : IsTrue (list_all is_key_byte key)

-- A row that has a text.
pub record FitsRow (row : Row) : Type 0 where
  pub some : 0 < row.count
  pub few : row.count < 2 ^ 64
  pub first : IsName row.first
  pub key : IsKey row.key

-- A text of a summary: its rows are sorted by the bytes of their keys, each key once.
pub record IsSummaryText (bytes : List ℕ) (rows : List Row) : Type 0 where
  pub each : AllByRecursion FitsRow rows
  pub sorted : IsStrictlySortedBy (slice_cmp nat_cmp) (map (λ row. row.key) rows)
  pub spelled : bytes ≡ summary_text rows

-- The row that was read.
abbrev pub read_row_of : ReadRow → Row
read_row_of read = record { count = read.count; first = read.first.now; key = read.key.now }
