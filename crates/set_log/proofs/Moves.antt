-- The current record of the log while records are written.
use Rattle.std.proofs.Common.{◌≡◌, ◌⊎◌, ℕ, ◌+◌, ◌-◌, ◌*◌, ◌<◌, true, false, List, Some, if◌then◌else◌, length, arith, refl, sym, ◌∙◌, ap, subst, inl, inr, ⊎_elim}
use Rattle.flash_model.specs.Chip.{Chip, IsErased, Reads, SameOutside}
use Rattle.flash_model.proofs.Frame.{product_le, same_outside_trans, same_outside_wider}
use Rattle.sector_map.specs.declared.layout.SectorMap.{SectorMap}
use Rattle.sector_map.specs.Part.{Log}
use Rattle.sector_map.specs.Map.{IsMap, IsLaidOut}
use Rattle.sector_map.proofs.PartBytes.{length_part}
use Rattle.set_log.specs.Ring.{is_closed, last_of, next_of, register, has_room, IsActive, IsFree}
use Rattle.set_log.specs.Log.{is_place_free, log_bytes, log_of, record_of}
use Rattle.set_log.proofs.Blank.{reads_erased_of}
use Rattle.set_log.proofs.Last.{Written}
use Rattle.set_log.proofs.Turns.{HasPlaces, active_by_next, active_by_place, closed_same, closing_decides, closing_moves, erased_open, free_is, places_same, register_by_next, register_is}

pub has_places : (map : SectorMap) → IsMap map → HasPlaces map.sector_size
has_places map fits = record {
  blocks = omega (arith, fits.sector.blocks);
  room = omega (arith, fits.sector.least);
}

-- A record that is written at a free place of the log.
pub written : (map : SectorMap) (sector place : ℕ) (body : List ℕ) (old mid new : Chip) → IsLaidOut map old
    → sector < 3 → IsFree map.sector_size (log_of map old) sector place
    → SameOutside (sector * map.sector_size + 64 * place) 56 (log_of map old) (log_of map mid)
    → Reads (log_of map mid) (sector * map.sector_size + 64 * place) body
    → SameOutside (sector * map.sector_size + 64 * place + 56) 8 (log_of map mid) (log_of map new)
    → length body ≡ 56
    → Written map.sector_size sector place body (log_of map old) (log_of map mid) (log_of map new)
written map sector place body old mid new laid lt free first reads last long = record {
  free = free;
  body_alone = first;
  reads = reads;
  gate_alone = last;
  long = long;
  inside = omega (
    arith,
    first.size,
    last.size,
    length_part map old Log laid,
    product_le sector 3 map.sector_size lt,
  );
}

-- The next sector was erased, and then a record was written at its first place.
pub record Moved (e sector next : ℕ) (old erased mid : Chip) : Type 0 where
  pub sized : HasPlaces e
  pub active : IsActive e old.bytes sector
  pub is_next : next ≡ next_of sector
  pub first : SameOutside (next * e) e old erased
  pub blank : IsErased erased (next * e) e
  pub second : SameOutside (next * e + 64 * 0) 64 erased mid

pub moved : (map : SectorMap) (sector next : ℕ) (old erased mid : Chip) → IsMap map
    → IsActive map.sector_size (log_bytes map old) sector → next ≡ next_of sector
    → SameOutside (next * map.sector_size) map.sector_size (log_of map old) (log_of map erased)
    → IsErased (log_of map erased) (next * map.sector_size) map.sector_size
    → SameOutside (next * map.sector_size + 64 * 0) 64 (log_of map erased) (log_of map mid)
    → Moved map.sector_size sector next (log_of map old) (log_of map erased) (log_of map mid)
moved map sector next old erased mid fits active is first blank second = record {
  sized = has_places map fits;
  active = active;
  is_next = is;
  first = first;
  blank = blank;
  second = second;
}

-- Until the active sector is closed, its record is the current one.
pub erased_keeps : (e sector next : ℕ) (old new : Chip) → HasPlaces e → IsActive e old.bytes sector
    → next ≡ next_of sector → SameOutside (next * e) e old new → register e new.bytes ≡ register e old.bytes
erased_keeps e sector next old new sized active is same =
    register_by_next e sector old new sized active (subst (λ s. SameOutside (s * e) e old new) is same)

pub moved_within : (e sector next : ℕ) (old erased mid : Chip) → Moved e sector next old erased mid
    → SameOutside (next * e) e old mid
moved_within e sector next old erased mid m = same_outside_trans (next * e) e old erased mid m.first
    (same_outside_wider _ 64 (next * e) e erased mid m.second (omega arith) (omega (arith, m.sized.room)))

pub moved_keeps : (e sector next : ℕ) (old erased mid : Chip) → Moved e sector next old erased mid
    → register e mid.bytes ≡ register e old.bytes
moved_keeps e sector next old erased mid m =
    erased_keeps e sector next old mid m.sized m.active m.is_next (moved_within e sector next old erased mid m)

pub moved_active : (e sector next : ℕ) (old erased mid : Chip) → Moved e sector next old erased mid
    → IsActive e mid.bytes sector
moved_active e sector next old erased mid m = active_by_next e sector old mid m.sized m.active
    (subst (λ s. SameOutside (s * e) e old mid) m.is_next (moved_within e sector next old erased mid m))

moved_open : (e sector next : ℕ) (old erased mid : Chip) → Moved e sector next old erased mid
    → is_closed e mid.bytes (next_of sector) ≡ false
moved_open e sector next old erased mid m =
    subst (λ s. is_closed e mid.bytes s ≡ false) m.is_next
    (closed_same e next _ 64 erased mid m.sized m.second (inr (omega (arith, m.sized.room)))
    ∙ erased_open e next erased m.sized m.blank)

-- If the closing unit is torn, the current record is the old one or the new one.
pub closing_torn : (e sector next : ℕ) (body : List ℕ) (old erased mid new : Chip)
    → Moved e sector next old erased mid → last_of e mid.bytes next ≡ Some body
    → SameOutside (sector * e + (e - 8)) 8 mid new
    → (register e new.bytes ≡ register e old.bytes) ⊎ (register e new.bytes ≡ Some body)
closing_torn e sector next body old erased mid new m stands same =
    ⊎_elim (λ kept. inl (kept ∙ moved_keeps e sector next old erased mid m))
    (λ moves. inr (moves ∙ subst (λ s. last_of e mid.bytes s ≡ Some body) m.is_next stands))
    (closing_decides e sector mid new m.sized (moved_active e sector next old erased mid m)
    (moved_open e sector next old erased mid m) same)

-- If the closing unit is set, the current record is the new one.
pub closing_done : (e sector next : ℕ) (body : List ℕ) (old erased mid new : Chip)
    → Moved e sector next old erased mid → last_of e mid.bytes next ≡ Some body
    → SameOutside (sector * e + (e - 8)) 8 mid new → is_closed e new.bytes sector ≡ true
    → register e new.bytes ≡ Some body
closing_done e sector next body old erased mid new m stands same closes =
    closing_moves e sector mid new m.sized (moved_active e sector next old erased mid m)
    (moved_open e sector next old erased mid m) same closes
    ∙ subst (λ s. last_of e mid.bytes s ≡ Some body) m.is_next stands

-- After a record is written at a free place of the active sector, the current one is the old one or
-- the new one.
pub place_torn : (map : SectorMap) (sector place : ℕ) (body : List ℕ) (old mid new : Chip) → mid ≡ old
    → IsMap map → IsActive map.sector_size (log_bytes map old) sector
    → IsFree map.sector_size (log_of map mid) sector place
    → SameOutside (sector * map.sector_size + 64 * place) 64 (log_of map mid) (log_of map new)
    → (last_of map.sector_size (log_bytes map new) sector ≡ last_of map.sector_size (log_bytes map mid) sector)
    ⊎ (last_of map.sector_size (log_bytes map new) sector ≡ Some body)
    → (record_of map new ≡ record_of map old) ⊎ (record_of map new ≡ Some body)
place_torn map sector place body old mid new eq fits active free same either =
    let same : SameOutside (sector * map.sector_size + 64 * place) 64 (log_of map old) (log_of map new) =
    subst (λ c. SameOutside (sector * map.sector_size + 64 * place) 64 (log_of map c) (log_of map new)) eq same in
    let still : last_of map.sector_size (log_bytes map mid) sector
    ≡ last_of map.sector_size (log_bytes map old) sector =
    ap (λ c. last_of map.sector_size (log_bytes map c) sector) eq in
    let now = register_is map.sector_size (log_bytes map new) sector
    (active_by_place map.sector_size sector place (log_of map old) (log_of map new) (has_places map fits) active
    free.within same) in
    let was = register_is map.sector_size (log_bytes map old) sector active in
    ⊎_elim (λ kept. inl (now ∙ kept ∙ still ∙ sym was)) (λ put. inr (now ∙ put)) either

-- At the end it is the new one.
pub place_put : (map : SectorMap) (sector place : ℕ) (body : List ℕ) (old mid new : Chip) → mid ≡ old
    → IsMap map → IsActive map.sector_size (log_bytes map old) sector
    → IsFree map.sector_size (log_of map mid) sector place
    → SameOutside (sector * map.sector_size + 64 * place) 64 (log_of map mid) (log_of map new)
    → last_of map.sector_size (log_bytes map new) sector ≡ Some body → record_of map new ≡ Some body
place_put map sector place body old mid new eq fits active free same put =
    let same : SameOutside (sector * map.sector_size + 64 * place) 64 (log_of map old) (log_of map new) =
    subst (λ c. SameOutside (sector * map.sector_size + 64 * place) 64 (log_of map c) (log_of map new)) eq same in
    register_is map.sector_size (log_bytes map new) sector
    (active_by_place map.sector_size sector place (log_of map old) (log_of map new) (has_places map fits) active
    free.within same) ∙ put

-- In a sector with a free place, the last place is erased.
pub room_of_free : (e sector place : ℕ) (log : Chip) → IsFree e log sector place → has_room e log.bytes sector ≡ true
room_of_free e sector place log free = reads_erased_of log _ 64 (record {
  each = λ k low high. free.erased.each k (omega (arith, free.within)) (omega (arith, free.within));
})

-- An append at a free place erases no sector.
pub erases_free : (map : SectorMap) (sector place n : ℕ) (old mid : Chip) → mid ≡ old
    → IsActive map.sector_size (log_bytes map old) sector → IsFree map.sector_size (log_of map mid) sector place
    → n ≡ mid.erases → n ≡ old.erases + (if is_place_free map old then 0 else 1)
erases_free map sector place n old mid eq active free is =
    let room : has_room map.sector_size (log_bytes map old) sector ≡ true =
    ap (λ c. has_room map.sector_size (log_bytes map c) sector) (sym eq)
    ∙ room_of_free map.sector_size sector place (log_of map mid) free in
    let told : is_place_free map old ≡ true = free_is map.sector_size (log_bytes map old) sector active ∙ room in
    is ∙ ap (λ c. c.erases) eq ∙ rw told (omega arith)

-- An append erases one sector if no place is free.
pub erases_full : (map : SectorMap) (sector n : ℕ) (old mid last : Chip) → mid ≡ old → last ≡ mid
    → IsActive map.sector_size (log_bytes map old) sector
    → has_room map.sector_size (log_bytes map mid) sector ≡ false
    → n ≡ last.erases + 1 → n ≡ old.erases + (if is_place_free map old then 0 else 1)
erases_full map sector n old mid last eq eq_last active full is =
    let room : has_room map.sector_size (log_bytes map old) sector ≡ false =
    ap (λ c. has_room map.sector_size (log_bytes map c) sector) (sym eq) ∙ full in
    let told : is_place_free map old ≡ false = free_is map.sector_size (log_bytes map old) sector active ∙ room in
    is ∙ ap (λ c. c.erases + 1) (eq_last ∙ eq) ∙ rw told refl

-- A new log: three erased sectors, a record in the first, and the third closed.
pub record Started (e : ℕ) (body : List ℕ) (erased mid : Chip) : Type 0 where
  pub sized : HasPlaces e
  pub blank : IsErased erased 0 (3 * e)
  pub first : SameOutside (0 * e + 64 * 0) 64 erased mid
  pub stands : last_of e mid.bytes 0 ≡ Some body

-- If the log is erased, so is each of its sectors.
pub sector_blank : (e sector : ℕ) (log : Chip) → IsErased log 0 (3 * e) → sector < 3 → IsErased log (sector * e) e
sector_blank e sector log blank lt = record {
  each = λ k low high. blank.each k (omega arith) (omega (arith, product_le sector 3 e lt));
}

pub third_open : (e : ℕ) (body : List ℕ) (erased mid : Chip) → Started e body erased mid
    → is_closed e mid.bytes 2 ≡ false
third_open e body erased mid s =
    closed_same e 2 _ 64 erased mid s.sized s.first (grind (arith, s.sized.room))
    ∙ erased_open e 2 erased s.sized (sector_blank e 2 erased s.blank (omega arith))

pub started : (e : ℕ) (body : List ℕ) (erased mid new : Chip) → Started e body erased mid
    → SameOutside (2 * e + (e - 8)) 8 mid new → is_closed e new.bytes 2 ≡ true → register e new.bytes ≡ Some body
started e body erased mid new s close closes =
    let first_open : is_closed e new.bytes 0 ≡ false =
    closed_same e 0 _ 8 mid new s.sized close (inl (omega arith))
    ∙ closed_same e 0 _ 64 erased mid s.sized s.first (inr (omega (arith, s.sized.room)))
    ∙ erased_open e 0 erased s.sized (sector_blank e 0 erased s.blank (omega arith)) in
    register_is e new.bytes 0 (record { within = omega arith; stays_open = first_open; follows_closed = closes })
    ∙ places_same e 0 _ 8 mid new s.sized close (inl (omega arith)) ∙ s.stands
