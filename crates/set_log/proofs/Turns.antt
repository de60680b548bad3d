-- Which sector is active, and how writes change it.
use Rattle.std.proofs.Common.{◌≡◌, ◌≢◌, ◌⊎◌, ℕ, zero, suc, ◌+◌, ◌-◌, ◌*◌, ◌/◌, ◌<◌, ◌≤◌, Bool, true, false, not, ◌&&◌, List, Option, Some, None, if◌then◌else◌, arith, refl, sym, ◌∙◌, ap, inl, inr}
use Rattle.flash_model.specs.Chip.{Chip, IsErased, SameOutside}
use Rattle.flash_model.proofs.Frame.{products_apart}
use Rattle.set_log.specs.Ring.{active_of, is_active, is_closed, next_of, previous_of, last_in, last_of, register, has_room, has_room_in, has_free_place, places_in, IsActive}
use Rattle.set_log.proofs.Blank.{reads_erased_of, same_reads}
use Rattle.set_log.proofs.Last.{last_same}

both : (a b : Bool) → (not a && b) ≡ true → (a ≡ false) × (b ≡ true)
both true b is = let wrong : false ≡ true = is in absurd (cc wrong)
both false b is = (refl, is)

pass : (a : Bool) (x y : Option ℕ) → (if not a && false then x else y) ≡ y
pass true x y = refl
pass false x y = refl

-- The active sector is the only one.
pub active_is : (e : ℕ) (log : List ℕ) (sector : ℕ) → IsActive e log sector → active_of e log ≡ Some sector
unfolding active_of
active_is e log zero is = rw (is.stays_open, is.follows_closed) refl
active_is e log (suc zero) is = rw (is.stays_open, is.follows_closed) refl
active_is e log (suc (suc zero)) is = rw (is.stays_open, is.follows_closed) (pass (is_closed e log 0) (Some 0) (Some 2))
active_is e log (suc (suc (suc n))) is = absurd (omega (arith, is.within))

pub no_active : (e : ℕ) (log : List ℕ) → ((s : ℕ) → s < 3 → is_active e log s ≡ false) → active_of e log ≡ None
unfolding active_of
no_active e log none = rw (none 0 (omega arith), none 1 (omega arith), none 2 (omega arith)) refl

-- The current record is the last gated one of the active sector.
pub register_is : (e : ℕ) (log : List ℕ) (sector : ℕ) → IsActive e log sector → register e log ≡ last_of e log sector
unfolding register
register_is e log sector is = ap (last_in e log) (active_is e log sector is)

pub register_none : (e : ℕ) (log : List ℕ) → active_of e log ≡ None → register e log ≡ None
unfolding register
register_none e log none = ap (last_in e log) none

-- A place is free exactly if the last place of the active sector is erased.
pub free_is : (e : ℕ) (log : List ℕ) (sector : ℕ) → IsActive e log sector
    → has_free_place e log ≡ has_room e log sector
unfolding has_free_place
free_is e log sector is = ap (has_room_in e log) (active_is e log sector is)

-- The sectors of the ring: each differs from the next one and from the one before.
pub turn : (sector : ℕ) → sector < 3
    → (sector ≢ previous_of sector) × (sector ≢ next_of sector) × (previous_of sector ≢ next_of sector)
    × (next_of sector < 3) × (previous_of (next_of sector) ≡ sector)
turn zero lt =
    (λ eq. absurd (omega arith), λ eq. absurd (omega arith), λ eq. absurd (omega arith), omega arith, refl)
turn (suc zero) lt =
    (λ eq. absurd (omega arith), λ eq. absurd (omega arith), λ eq. absurd (omega arith), omega arith, refl)
turn (suc (suc zero)) lt =
    (λ eq. absurd (omega arith), λ eq. absurd (omega arith), λ eq. absurd (omega arith), omega arith, refl)
turn (suc (suc (suc n))) lt = absurd (omega arith)

-- A sector consists of whole places, and has at least two.
pub record HasPlaces (e : ℕ) : Type 0 where
  pub blocks : 64 * (e / 64) ≡ e
  pub room : 128 ≤ e

-- A write keeps the closing unit of a sector.
abbrev pub SparesClosing : ℕ → ℕ → ℕ → ℕ → Type 0
SparesClosing e sector at n = (sector * e + e ≤ at) ⊎ (at + n ≤ sector * e + (e - 8))

-- A write keeps the places of a sector.
abbrev pub SparesPlaces : ℕ → ℕ → ℕ → ℕ → Type 0
SparesPlaces e sector at n = (sector * e + (e - 64) ≤ at) ⊎ (at + n ≤ sector * e)

pub closed_same : (e sector at n : ℕ) (old new : Chip) → HasPlaces e → SameOutside at n old new
    → SparesClosing e sector at n → is_closed e new.bytes sector ≡ is_closed e old.bytes sector
unfolding is_closed
closed_same e sector at n old new sized same spares =
    ap not (same_reads (sector * e + (e - 8)) 8 old.bytes new.bytes same.size
    (λ k low high. grind (arith, same.before, same.after, sized.room)))

pub places_same : (e sector at n : ℕ) (old new : Chip) → HasPlaces e → SameOutside at n old new
    → SparesPlaces e sector at n → last_of e new.bytes sector ≡ last_of e old.bytes sector
unfolding last_of
places_same e sector at n old new sized same spares =
    last_same old.bytes new.bytes (sector * e) (places_in e) same.size
    (λ k low high. grind (arith, same.before, same.after, sized.blocks))

pub active_same : (e sector at n : ℕ) (old new : Chip) → HasPlaces e → IsActive e old.bytes sector
    → SameOutside at n old new → SparesClosing e sector at n → SparesClosing e (previous_of sector) at n
    → IsActive e new.bytes sector
active_same e sector at n old new sized is same own before = record {
  within = is.within;
  stays_open = closed_same e sector at n old new sized same own ∙ is.stays_open;
  follows_closed = closed_same e (previous_of sector) at n old new sized same before ∙ is.follows_closed;
}

-- A write in the next sector keeps the active one active.
pub active_by_next : (e sector : ℕ) (old new : Chip) → HasPlaces e → IsActive e old.bytes sector
    → SameOutside (next_of sector * e) e old new → IsActive e new.bytes sector
active_by_next e sector old new sized is same =
    let apart = turn sector is.within in
    active_same e sector (next_of sector * e) e old new sized is same
    (grind (arith, products_apart sector (next_of sector) e apart.1))
    (grind (arith, products_apart (previous_of sector) (next_of sector) e apart.2))

-- A write in the next sector keeps the current record.
pub register_by_next : (e sector : ℕ) (old new : Chip) → HasPlaces e → IsActive e old.bytes sector
    → SameOutside (next_of sector * e) e old new → register e new.bytes ≡ register e old.bytes
register_by_next e sector old new sized is same =
    let apart = turn sector is.within in
    register_is e new.bytes sector (active_by_next e sector old new sized is same)
    ∙ places_same e sector (next_of sector * e) e old new sized same
    (grind (arith, products_apart sector (next_of sector) e apart.1))
    ∙ sym (register_is e old.bytes sector is)

-- A write at a place of the active sector keeps it active.
pub active_by_place : (e sector place : ℕ) (old new : Chip) → HasPlaces e → IsActive e old.bytes sector
    → place < places_in e → SameOutside (sector * e + 64 * place) 64 old new → IsActive e new.bytes sector
active_by_place e sector place old new sized is lt same =
    let apart = turn sector is.within in
    let high : sector * e + 64 * place + 64 ≤ sector * e + (e - 64) = omega (arith, sized.blocks) in
    active_same e sector _ 64 old new sized is same (inr (omega arith))
    (grind (arith, products_apart sector (previous_of sector) e apart.0, sized.room))

-- Once the active sector is closed, the record of the next one is the current one.
pub closing_moves : (e sector : ℕ) (old new : Chip) → HasPlaces e → IsActive e old.bytes sector
    → is_closed e old.bytes (next_of sector) ≡ false → SameOutside (sector * e + (e - 8)) 8 old new
    → is_closed e new.bytes sector ≡ true → register e new.bytes ≡ last_of e old.bytes (next_of sector)
closing_moves e sector old new sized is free same closes =
    let apart = turn sector is.within in
    let away = products_apart sector (next_of sector) e apart.1 in
    let before : is_closed e new.bytes (previous_of (next_of sector)) ≡ true =
    ap (is_closed e new.bytes) apart.4 ∙ closes in
    register_is e new.bytes (next_of sector) (record {
      within = apart.3;
      stays_open = closed_same e (next_of sector) _ 8 old new sized same (grind (arith, away, sized.room)) ∙ free;
      follows_closed = before;
    })
    ∙ places_same e (next_of sector) _ 8 old new sized same (grind (arith, away, sized.room))

-- So the closing unit of the active sector decides which record is current.
pub closing_decides : (e sector : ℕ) (old new : Chip) → HasPlaces e → IsActive e old.bytes sector
    → is_closed e old.bytes (next_of sector) ≡ false → SameOutside (sector * e + (e - 8)) 8 old new
    → (register e new.bytes ≡ register e old.bytes)
    ⊎ (register e new.bytes ≡ last_of e old.bytes (next_of sector))
closing_decides e sector old new sized is free same = by _ refl
  where
    by : (closed : Bool) → is_closed e new.bytes sector ≡ closed → (register e new.bytes ≡ register e old.bytes)
        ⊎ (register e new.bytes ≡ last_of e old.bytes (next_of sector))
    by false stays =
        let apart = turn sector is.within in
        inl (register_is e new.bytes sector (record {
          within = is.within;
          stays_open = stays;
          follows_closed = closed_same e (previous_of sector) _ 8 old new sized same
              (grind (arith, products_apart sector (previous_of sector) e apart.0, sized.room))
              ∙ is.follows_closed;
        })
        ∙ places_same e sector _ 8 old new sized same (inl (omega (arith, sized.room)))
        ∙ sym (register_is e old.bytes sector is))
    by true closes = inr (closing_moves e sector old new sized is free same closes)

-- An erased sector is open.
pub erased_open : (e sector : ℕ) (log : Chip) → HasPlaces e → IsErased log (sector * e) e
    → is_closed e log.bytes sector ≡ false
unfolding is_closed
erased_open e sector log sized erased = ap not (reads_erased_of log (sector * e + (e - 8)) 8
    (record { each = λ k l h. erased.each k (omega arith) (omega (arith, sized.room)) }))
