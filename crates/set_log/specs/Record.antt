-- What a record of the log says, and how it is spelled.
use Rattle.std.specs.Prelude.{◌≡◌, ℕ, ◌+◌, ◌<◌, ◌^◌, Bool, false, true, not, zero, suc, ◌&&◌, ◌==◌}
use Rattle.std.specs.Prelude.{nat_lt, nat_le, List, [], ◌∷◌, ◌++◌, length, drop, replicate, slice_index}
use Rattle.std.specs.Prelude.{Option, Some, None, if◌then◌else◌}
use Rattle.std.specs.List.{list_all}
use Rattle.std.specs.Str.{bytes_eq}
use Rattle.byteorder.specs.Endian.{little_bytes, little_number}
use Rattle.common.specs.Limits.{MOST_BOOTS_LEFT, MOST_IMAGES}
use Rattle.set_log.specs.declared.state.State.{State}
use Rattle.set_log.specs.declared.state.RecordKind.{RecordKind}
use Rattle.set_log.specs.declared.state.RecordKind.TheVariants.{Steady, Swap, Settle, Trial, Back, BackSettle}

-- The number of a kind in a record.
abbrev pub kind_number : RecordKind → ℕ
kind_number Steady = 1
kind_number Swap = 2
kind_number Settle = 3
kind_number Trial = 4
kind_number Back = 5
kind_number BackSettle = 6

-- The kind of a number.
abbrev pub kind_of : ℕ → Option RecordKind
kind_of n =
    if n == 1 then Some Steady else if n == 2 then Some Swap else if n == 3 then Some Settle
    else if n == 4 then Some Trial else if n == 5 then Some Back
    else if n == 6 then Some BackSettle else None

-- The state between upgrades, with this sequence number and these floors.
abbrev pub steady : ℕ → List ℕ → State
steady sequence floors = record {
  kind = Steady;
  mask = 0;
  permanent = false;
  sequence = sequence;
  floors = floors;
  left = 0;
}

-- Whether a kind may have this set, permanence and number of boots left.
abbrev pub kind_fits : RecordKind → ℕ → Bool → ℕ → Bool
kind_fits Steady mask permanent left = (mask == 0) && (not permanent && (left == 0))
kind_fits Swap mask permanent left = not (mask == 0) && (left == 0)
kind_fits Settle mask permanent left = not (mask == 0) && (left == 0)
kind_fits Trial mask permanent left = not (mask == 0) && nat_le left MOST_BOOTS_LEFT
kind_fits Back mask permanent left = not (mask == 0) && (left == 0)
kind_fits BackSettle mask permanent left = not (mask == 0) && (left == 0)

-- Whether a state is valid: a set of these images, what its kind asks for, and 0 as further floors.
abbrev pub fits : ℕ → State → Bool
fits images s =
    nat_lt s.mask (2 ^ images) && (kind_fits s.kind s.mask s.permanent s.left
    && list_all (λ floor. floor == 0) (drop images s.floors))

-- Numbers of 4 bytes each, one after the other, the least byte first.
abbrev pub words : List ℕ → List ℕ
words [] = []
words (w ∷ ws) = little_bytes 4 w ++ words ws

-- The first 8 bytes of a record: kind, set, permanence, boots left, and the sequence.
abbrev pub head_bytes : State → List ℕ
head_bytes s =
    (kind_number s.kind ∷ s.mask ∷ (if s.permanent then 1 else 0) ∷ s.left ∷ [])
    ++ little_bytes 4 s.sequence

-- The bytes of a record: the first 8, the floors, and 16 zeros.
unfoldable pub record_bytes : State → List ℕ
record_bytes s = head_bytes s ++ (words s.floors ++ replicate 16 0)

-- Bytes spell a state that is valid for this number of images.
pub record Spells (images : ℕ) (bytes : List ℕ) (s : State) : Type 0 where
  pub spelled : bytes ≡ record_bytes s
  pub kept : fits images s ≡ true

-- The sequence and the eight floors fit 4 bytes each, as in each state of a program.
pub record IsSized (s : State) : Type 0 where
  pub sequence : s.sequence < 2 ^ 32
  pub eight : length s.floors ≡ MOST_IMAGES
  pub floors : (i : ℕ) → i < MOST_IMAGES → slice_index s.floors i < 2 ^ 32

-- The n numbers of 4 bytes that are in bytes from an offset on.
abbrev pub words_at : ℕ → ℕ → List ℕ → List ℕ
words_at at zero bytes = []
words_at at (suc n) bytes = little_number 4 (drop at bytes) ∷ words_at (at + 4) n bytes

-- The state of this kind that bytes have, if they spell one.
unfoldable pub fields : RecordKind → List ℕ → State
fields kind bytes = record {
  kind = kind;
  mask = slice_index bytes 1;
  permanent = slice_index bytes 2 == 1;
  sequence = little_number 4 (drop 4 bytes);
  floors = words_at 8 MOST_IMAGES bytes;
  left = slice_index bytes 3;
}

-- A state, if it is valid and bytes spell it.
unfoldable pub checked : ℕ → List ℕ → State → Option State
checked images bytes s =
    if fits images s && bytes_eq bytes (record_bytes s) then Some s else None

-- The state that bytes spell, by the kind in them.
abbrev pub state_in : ℕ → List ℕ → Option RecordKind → Option State
state_in images bytes None = None
state_in images bytes (Some kind) = checked images bytes (fields kind bytes)

-- The state that bytes spell, if they spell one.
unfoldable pub state_from : ℕ → List ℕ → Option State
state_from images bytes = state_in images bytes (kind_of (slice_index bytes 0))
