-- At which place a record is written, and which writes keep it.
use Rattle.std.proofs.Common.{◌≡◌, ◌⊎◌, ℕ, ◌+◌, ◌-◌, ◌*◌, ◌<◌, ◌≤◌, false, List, Option, Some, None, MatchOption, length, arith, sym, ◌∙◌, ap, subst, inl, inr, ⊎_elim}
use Rattle.std.proofs.lemmas.Bool.{cases_lt, false≢true}
use Rattle.flash_model.specs.Chip.{Chip, IsErased, Reads, SameOutside}
use Rattle.set_log.specs.Layout.{flag}
use Rattle.flash_model.proofs.Frame.{products_apart, reads_kept}
use Rattle.sector_map.specs.declared.layout.SectorMap.{SectorMap}
use Rattle.set_log.specs.Ring.{has_room, is_closed, next_of, places_in, previous_of, reads_erased, IsActive}
use Rattle.set_log.specs.Log.{is_place_free, log_bytes, log_of}
use Rattle.set_log.specs.Written.{HasClosingFlag, IsBesideNext, IsFirstFree, IsMovedOn, IsWritten}
use Rattle.set_log.proofs.Blank.{reads_erased_of}
use Rattle.set_log.proofs.Turns.{HasPlaces, active_is, closed_same, erased_open, free_is, turn}
use Rattle.set_log.proofs.Moves.{room_of_free, sector_blank}

-- A write beside a record keeps it.
pub stays_written : (e sector place at n : ℕ) (bytes : List ℕ) (old new : Chip)
    → IsWritten e old sector place bytes → length bytes ≡ 56 → SameOutside at n old new
    → (sector * e + 64 * place + 64 ≤ at) ⊎ (at + n ≤ sector * e + 64 * place)
    → IsWritten e new sector place bytes
stays_written e sector place at n bytes old new was long same apart = record {
  body = reads_kept _ at n bytes old new was.body same (⊎_elim
      (λ (low : sector * e + 64 * place + 64 ≤ at). inl (omega (arith, long)))
      (λ (high : at + n ≤ sector * e + 64 * place). inr high) apart);
  gate = reads_kept _ at n flag old new was.gate same (⊎_elim
      (λ (low : sector * e + 64 * place + 64 ≤ at). inl (omega arith))
      (λ (high : at + n ≤ sector * e + 64 * place). inr (omega arith)) apart);
}

-- A record with its gate is written.
pub written_there : (e sector place : ℕ) (bytes : List ℕ) (mid new : Chip)
    → Reads mid (sector * e + 64 * place) bytes → length bytes ≡ 56
    → SameOutside (sector * e + 64 * place + 56) 8 mid new
    → Reads new (sector * e + 64 * place + 56) flag → IsWritten e new sector place bytes
written_there e sector place bytes mid new body long same gate = record {
  body = reads_kept _ _ 8 bytes mid new body same (inl (omega (arith, long)));
  gate = gate;
}

-- If each case of a found place implies a weaker one, the weaker pair holds.
pub match_option : {P Q : Type 0} {f g : ℕ → Type 0} (found : Option ℕ) → (P → Q) → ((x : ℕ) → f x → g x)
    → MatchOption found P f → MatchOption found Q g
match_option None none some is = none is
match_option (Some x) none some is = some x is

-- If the last place of a sector isn't erased, the sector has no free place.
pub none_found : (e sector place : ℕ) (log : List ℕ) → place ≤ places_in e → places_in e ≤ place
    → reads_erased log (sector * e + 64 * (place - 1)) 64 ≡ false → has_room e log sector ≡ false
none_found e sector place log below above not_erased =
    let is : place ≡ places_in e = omega arith in
    ap (λ p. reads_erased log (sector * e + 64 * (p - 1)) 64) (sym is) ∙ not_erased

-- The first free place of a sector follows the last place that isn't erased.
pub first_found : (e sector place : ℕ) (log : Chip) → place < places_in e
    → IsErased log (sector * e + 64 * place) (64 * (places_in e - place))
    → reads_erased log.bytes (sector * e + 64 * (place - 1)) 64 ≡ false → IsFirstFree e log sector place
first_found e sector place log lt erased not_erased = record {
  free = record { within = lt; erased = erased };
  first = λ earlier before free. absurd (false≢true (sym not_erased ∙ reads_erased_of log _ 64 (record {
    each = λ k low high. free.erased.each k (omega arith) (omega arith);
  })));
}

-- At most one sector is active.
pub active_one : (e : ℕ) (log : List ℕ) (a b : ℕ) → IsActive e log a → IsActive e log b → a ≡ b
active_one e log a b first second =
    let same : Some a ≡ Some b = sym (active_is e log a first) ∙ active_is e log b second in cc

-- A sector has at most one first free place.
first_one : (e : ℕ) (log : Chip) (sector p q : ℕ) → IsFirstFree e log sector p → IsFirstFree e log sector q → p ≡ q
first_one e log sector p q a b = ⊎_elim
    (λ (lt : p < q). absurd (b.first p lt a.free))
    (λ (le : q ≤ p). ⊎_elim (λ (lt : q < p). absurd (a.first q lt b.free)) (λ (ge : p ≤ q). omega arith)
    (cases_lt q p)) (cases_lt p q)

-- A record at the first free place of the active sector, for each name of that place.
module _ (map : SectorMap) (old mid new : Chip) (same : mid ≡ old) (a p : ℕ)
    (active : IsActive map.sector_size (log_bytes map old) a)
    (found : IsFirstFree map.sector_size (log_of map mid) a p) where
  here : IsFirstFree map.sector_size (log_of map old) a p
  here = subst (λ chip. IsFirstFree map.sector_size (log_of map chip) a p) same found

  place_is : (s q : ℕ) → IsActive map.sector_size (log_bytes map old) s
      → IsFirstFree map.sector_size (log_of map old) s q → p ≡ q
  place_is s q is first =
      first_one map.sector_size (log_of map old) a p q here
      (subst (λ t. IsFirstFree map.sector_size (log_of map old) t q)
      (active_one map.sector_size (log_bytes map old) s a is active) first)

  pub put_within : SameOutside (a * map.sector_size + 64 * p) 64 (log_of map mid) (log_of map new)
      → (s q : ℕ) → IsActive map.sector_size (log_bytes map old) s
      → IsFirstFree map.sector_size (log_of map old) s q
      → SameOutside (s * map.sector_size + 64 * q) 64 (log_of map old) (log_of map new)
  put_within within s q is first =
      subst (λ t. SameOutside (t * map.sector_size + 64 * q) 64 (log_of map old) (log_of map new))
      (active_one map.sector_size (log_bytes map old) a s active is)
      (subst (λ t. SameOutside (a * map.sector_size + 64 * t) 64 (log_of map old) (log_of map new))
      (place_is s q is first)
      (subst (λ chip. SameOutside (a * map.sector_size + 64 * p) 64 (log_of map chip) (log_of map new)) same within))

  pub put_written : (bytes : List ℕ) → IsWritten map.sector_size (log_of map new) a p bytes
      → (s q : ℕ) → IsActive map.sector_size (log_bytes map old) s
      → IsFirstFree map.sector_size (log_of map old) s q
      → IsWritten map.sector_size (log_of map new) s q bytes
  put_written bytes written s q is first =
      subst (λ t. IsWritten map.sector_size (log_of map new) t q bytes)
      (active_one map.sector_size (log_bytes map old) a s active is)
      (subst (λ t. IsWritten map.sector_size (log_of map new) a t bytes) (place_is s q is first) written)

  pub not_full : is_place_free map old ≡ false → ⊥
  not_full full = false≢true (sym full ∙ free_is map.sector_size (log_bytes map old) a active
      ∙ room_of_free map.sector_size a p (log_of map old) here.free)

-- A record in the next sector if the active one is full.
module _ (map : SectorMap) (old mid new : Chip) (same : mid ≡ old) (a : ℕ)
    (active : IsActive map.sector_size (log_bytes map old) a) where
  pub no_place : (full : has_room map.sector_size (log_bytes map mid) a ≡ false) (s q : ℕ)
      → IsActive map.sector_size (log_bytes map old) s → IsFirstFree map.sector_size (log_of map old) s q → ⊥
  no_place full s q is first =
      let one = active_one map.sector_size (log_bytes map old) s a is active in
      let room = room_of_free map.sector_size s q (log_of map old) first.free in
      false≢true (sym full ∙ ap (λ chip. has_room map.sector_size (log_bytes map chip) a) same
      ∙ ap (λ t. has_room map.sector_size (log_bytes map old) t) (sym one) ∙ room)

  pub next_beside : IsBesideNext map.sector_size a (log_of map mid) (log_of map new)
      → (s : ℕ) → IsActive map.sector_size (log_bytes map old) s
      → IsBesideNext map.sector_size s (log_of map old) (log_of map new)
  next_beside beside s is =
      subst (λ t. IsBesideNext map.sector_size t (log_of map old) (log_of map new))
      (active_one map.sector_size (log_bytes map old) a s active is)
      (subst (λ chip. IsBesideNext map.sector_size a (log_of map chip) (log_of map new)) same beside)

  pub next_moved : (bytes : List ℕ) → IsMovedOn map.sector_size a bytes (log_of map new)
      → (s : ℕ) → IsActive map.sector_size (log_bytes map old) s
      → IsMovedOn map.sector_size s bytes (log_of map new)
  next_moved bytes moved s is = subst (λ t. IsMovedOn map.sector_size t bytes (log_of map new))
      (active_one map.sector_size (log_bytes map old) a s active is) moved

-- A write in the next sector keeps the active one, and the one before it.
pub beside_next : (e sector next : ℕ) (old new : Chip) → HasPlaces e → sector < 3 → next ≡ next_of sector
    → SameOutside (next * e) e old new → IsBesideNext e sector old new
beside_next e sector next old new sized lt is same =
    let apart = turn sector lt in
    let there = subst (λ s. SameOutside (s * e) e old new) is same in
    record {
      places = λ k low high. ⊎_elim
          (λ (l : sector * e + e ≤ next_of sector * e). there.before k (omega arith))
          (λ (r : next_of sector * e + e ≤ sector * e). there.after k (omega arith))
          (products_apart sector (next_of sector) e apart.1);
      before = λ k low high. ⊎_elim
          (λ (l : previous_of sector * e + e ≤ next_of sector * e). there.before k (omega arith))
          (λ (r : next_of sector * e + e ≤ previous_of sector * e). there.after k (omega arith))
          (products_apart (previous_of sector) (next_of sector) e apart.2);
    }

-- Closing the active sector changes only its closing unit.
pub beside_closed : (e sector : ℕ) (old mid new : Chip) → HasPlaces e → sector < 3 → IsBesideNext e sector old mid
    → SameOutside (sector * e + (e - 8)) 8 mid new → IsBesideNext e sector old new
beside_closed e sector old mid new sized lt beside same =
    let apart = turn sector lt in
    record {
      places = λ k low high. same.before k high ∙ beside.places k low high;
      before = λ k low high. ⊎_elim
          (λ (l : sector * e + e ≤ previous_of sector * e). same.after k (omega (arith, sized.room)))
          (λ (r : previous_of sector * e + e ≤ sector * e). same.before k (omega arith))
          (products_apart sector (previous_of sector) e apart.0) ∙ beside.before k low high;
    }

-- The log moved on.
pub moved_on : (e sector next : ℕ) (bytes : List ℕ) (mid new : Chip) → HasPlaces e → sector < 3
    → next ≡ next_of sector → IsWritten e mid next 0 bytes → length bytes ≡ 56
    → SameOutside (sector * e + (e - 8)) 8 mid new → HasClosingFlag e new sector → IsMovedOn e sector bytes new
moved_on e sector next bytes mid new sized lt is written long same closed =
    let apart = turn sector lt in
    let there = subst (λ s. IsWritten e mid s 0 bytes) is written in
    record {
      record_there = stays_written e (next_of sector) 0 _ 8 bytes mid new there long same (⊎_elim
          (λ (l : sector * e + e ≤ next_of sector * e). inr (omega (arith, sized.room)))
          (λ (r : next_of sector * e + e ≤ sector * e). inl (omega (arith, sized.room)))
          (products_apart sector (next_of sector) e apart.1));
      closed = closed;
    }

-- The third sector of a new log is open until its closing unit is set.
pub third_still_open : (e : ℕ) (erased mid : Chip) → HasPlaces e → IsErased erased 0 (3 * e)
    → SameOutside (0 * e + 64 * 0) 64 erased mid → is_closed e mid.bytes 2 ≡ false
third_still_open e erased mid sized blank first =
    closed_same e 2 _ 64 erased mid sized first (inr (omega (arith, sized.room)))
    ∙ erased_open e 2 erased sized (sector_blank e 2 erased blank (omega arith))
