-- The invariant of a loop that fills blank rows.
use Rattle.std.proofs.Common.{◌≡◌, ◌<◌, ◌≤◌, ℕ, List, Some, length, slice_get}

-- Before a place each item has its row, and from this place on the rows are blank.
abbrev pub AreFilledTo : {T R : Type 0} → (T → R → Type 0) → R → ℕ → ℕ → List T → List R → Type 0
AreFilledTo {T} {R} IsRow blank size place items rows = record {
  long : length rows ≡ size;
  each : (k : ℕ) (item : T) → k < place → slice_get items k ≡ Some item
      → (row : R) × (slice_get rows k ≡ Some row) × IsRow item row;
  rest : (k : ℕ) → place ≤ k → k < size → slice_get rows k ≡ Some blank;
}
