-- The ring: a log of three sectors, numbered 0 to 2, of which the first follows the third. A sector
-- of e bytes has e / PLACE - 1 places of PLACE bytes, each for a record and its gate; its last 8
-- bytes are its closing unit.
use Rattle.std.specs.Prelude.{◌≡◌, ℕ, zero, suc, ◌+◌, ◌-◌, ◌*◌, ◌/◌, ◌%◌, ◌<◌, Bool, true, false, not, ◌&&◌}
use Rattle.std.specs.Prelude.{List, [], ◌∷◌, slice_range, Option, Some, None, if◌then◌else◌, find}
use Rattle.flash_model.specs.Chip.{Chip, IsErased}
use Rattle.flash_model.specs.Units.{are_erased}
use Rattle.set_log.specs.Layout.{GATE, PLACE, RECORD}

-- Whether n bytes of the log from an offset on are erased.
unfoldable pub reads_erased : List ℕ → ℕ → ℕ → Bool
reads_erased log at n = are_erased (slice_range log at (at + n))

-- How many places a sector of e bytes has.
abbrev pub places_in : ℕ → ℕ
places_in e = e / PLACE - 1

-- The last record whose gate is set, of the first n places from an offset on.
abbrev pub last_gated : List ℕ → ℕ → ℕ → Option (List ℕ)
last_gated log at zero = None
last_gated log at (suc n) =
    if reads_erased log (at + PLACE * n + GATE) 8 then last_gated log at n
    else Some (slice_range log (at + PLACE * n) (at + PLACE * n + RECORD))

-- The last record of a sector whose gate is set.
unfoldable pub last_of : ℕ → List ℕ → ℕ → Option (List ℕ)
last_of e log sector = last_gated log (sector * e) (places_in e)

-- Whether a sector is closed, not open: its closing unit, the last 8 bytes, is set.
unfoldable pub is_closed : ℕ → List ℕ → ℕ → Bool
is_closed e log sector = not (reads_erased log (sector * e + (e - 8)) 8)

-- The sector after this one in the ring.
abbrev pub next_of : ℕ → ℕ
next_of sector = (sector + 1) % 3

-- The sector before this one in the ring.
abbrev pub previous_of : ℕ → ℕ
previous_of sector = (sector + 2) % 3

-- Whether a sector is active: it is open, and the one before it is closed.
abbrev pub is_active : ℕ → List ℕ → ℕ → Bool
is_active e log sector = not (is_closed e log sector) && is_closed e log (previous_of sector)

-- The active sector, if there is one; there is at most one.
unfoldable pub active_of : ℕ → List ℕ → Option ℕ
active_of e log = find (λ sector. is_active e log sector) (0 ∷ 1 ∷ 2 ∷ [])

-- The last record of this sector whose gate is set, if there is a sector.
abbrev pub last_in : ℕ → List ℕ → Option ℕ → Option (List ℕ)
last_in e log None = None
last_in e log (Some sector) = last_of e log sector

-- The current record: the last one of the active sector whose gate is set.
unfoldable pub register : ℕ → List ℕ → Option (List ℕ)
register e log = last_in e log (active_of e log)

-- Whether the last place of a sector is erased, so a record fits after those that it has.
abbrev pub has_room : ℕ → List ℕ → ℕ → Bool
has_room e log sector = reads_erased log (sector * e + PLACE * (places_in e - 1)) PLACE

-- Whether a record fits in this sector, if there is one.
abbrev pub has_room_in : ℕ → List ℕ → Option ℕ → Bool
has_room_in e log None = false
has_room_in e log (Some sector) = has_room e log sector

-- Whether a place is free: the last one of the active sector is erased.
unfoldable pub has_free_place : ℕ → List ℕ → Bool
has_free_place e log = has_room_in e log (active_of e log)

-- A sector is the active one.
pub record IsActive (e : ℕ) (log : List ℕ) (sector : ℕ) : Type 0 where
  pub within : sector < 3
  pub stays_open : is_closed e log sector ≡ false
  pub follows_closed : is_closed e log (previous_of sector) ≡ true

-- From a place on, all places of a sector are erased.
pub record IsFree (e : ℕ) (log : Chip) (sector place : ℕ) : Type 0 where
  pub within : place < places_in e
  pub erased : IsErased log (sector * e + PLACE * place) (PLACE * (places_in e - place))
