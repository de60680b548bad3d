-- Laws about areas: the bytes of entries are read as these entries, and all entries that fit are
-- read.
use Rattle.std.proofs.Common.{◌≡◌, ℕ, zero, suc, ◌+◌, ◌-◌, ◌^◌, ◌<◌, ◌≤◌, ◌↔◌, Bool, true, false, cond, ltb, List, [], ◌∷◌, ◌++◌, length, take, drop, Option, Some, None, refl, sym, ap, subst, ◌∙◌, inl, inr, arith}
use Rattle.std.specs.List.{AllByRecursion}
use Rattle.std.specs.Option.{option_map_or}
use Rattle.std.proofs.lemmas.Bool.{cases_lt, ltb-false, le-ltb, lt-ltb}
use Rattle.std.proofs.lemmas.List.{append-nil, append_assoc, take-append-drop, drop-drop, drop_at, take_at, length-append, length-drop, length-take-le}
use Rattle.std.proofs.lemmas.Nat.{le_bytes_2}
use Rattle.byteorder.specs.Endian.{little_bytes, little_number}
use Rattle.byteorder.specs.Numbers.{little_from-lt, little_number-reads_back}
use Rattle.common.specs.Bytes.{IsBytes}
use Rattle.common.proofs.Bytes.{IsBytes-drop, IsBytes-take}
use Rattle.image_reading.specs.Area.{Entry, FitsEntry, entry_bytes, entries_bytes}
use Rattle.image_reading.specs.Fault.{IsFilled}
use Rattle.image_reading.specs.Reading.{value_size, entry_at, after_entry, first_entry, entries_within, rest_within, entries_of, rest_of}

-- ---- bytes

-- The bytes of the number in two bytes are these two.
pub little_bytes-little_number_2 : (bytes : List ℕ) → 2 ≤ length bytes → IsBytes bytes
    → little_bytes 2 (little_number 2 bytes) ≡ take 2 bytes
little_bytes-little_number_2 [] long fits = absurd (omega arith)
little_bytes-little_number_2 (a ∷ []) long fits = absurd (omega arith)
little_bytes-little_number_2 (a ∷ b ∷ bytes) long fits = le_bytes_2 (a ∷ b ∷ []) (little_number 2 (a ∷ b ∷ bytes))
    refl (IsBytes-take 2 (a ∷ b ∷ bytes) fits) (omega arith)

-- ---- the first entry

-- A test passed, and its result is a value.
passed : {A : Type 0} (b : Bool) (o : Option A) (y : A) → cond b None o ≡ Some y → (b ≡ false) × (o ≡ Some y)
passed true o y e = absurd cc
passed false o y e = (refl, e)

-- An entry that fits is found.
pub first_entry-fitting : (bytes : List ℕ) → 4 + value_size bytes ≤ length bytes
    → first_entry bytes ≡ Some (entry_at bytes, after_entry bytes)
unfolding first_entry
first_entry-fitting bytes long =
    let head : ltb (length bytes) 4 ≡ false = le-ltb _ _ (omega arith) in
    let whole : ltb (length bytes - 4) (value_size bytes) ≡ false = le-ltb _ _ (omega arith) in
    rw (head, whole) refl

-- An entry that is found fits.
found_fits : (bytes : List ℕ) (found : Entry × List ℕ) → first_entry bytes ≡ Some found
    → (4 + value_size bytes ≤ length bytes) × ((entry_at bytes, after_entry bytes) ≡ found)
unfolding first_entry
found_fits bytes found e =
    let head =
    passed (ltb (length bytes) 4)
    (cond (ltb (length bytes - 4) (value_size bytes)) None (Some (entry_at bytes, after_entry bytes))) found e in
    let whole =
    passed (ltb (length bytes - 4) (value_size bytes)) (Some (entry_at bytes, after_entry bytes)) found head.1 in
    let long : 4 ≤ length bytes = ltb-false _ _ head.0 in
    let longer : value_size bytes ≤ length bytes - 4 = ltb-false _ _ whole.0 in
    (omega arith, cc)

-- Fewer than four bytes have no entry.
pub first_entry-short : (bytes : List ℕ) → length bytes < 4 → first_entry bytes ≡ None
unfolding first_entry
first_entry-short bytes short = rw (lt-ltb (length bytes) 4 short) refl

-- Bytes that end before the value does have no entry.
pub first_entry-cut_off : (bytes : List ℕ) → length bytes < 4 + value_size bytes → first_entry bytes ≡ None
unfolding first_entry
first_entry-cut_off bytes short =
    elim (cases_lt (length bytes) 4) [
      | inl few ↦ rw (lt-ltb (length bytes) 4 few) refl
      | inr head ↦ rw (le-ltb (length bytes) 4 head, lt-ltb (length bytes - 4) (value_size bytes) (omega arith)) refl
    ]

-- The bytes after an entry are fewer.
pub first_entry-shorter : (bytes : List ℕ) (found : Entry × List ℕ) → first_entry bytes ≡ Some found
    → length found.1 < length bytes
first_entry-shorter bytes found e =
    let fits = found_fits bytes found e in
    let rest : after_entry bytes ≡ found.1 = ap (λ (f : Entry × List ℕ). f.1) fits.1 in
    omega (arith, length-drop (4 + value_size bytes) bytes, ap length rest, fits.0)

-- An entry and the bytes after it, part by part.
pub same_found : (kind own_kind : ℕ) (value own_value more own_more : List ℕ) → kind ≡ own_kind → value ≡ own_value
    → more ≡ own_more
    → ◌≡◌ {A = Option (Entry × List ℕ)} (Some (record { kind = kind; value = value }, more))
    (Some (record { kind = own_kind; value = own_value }, own_more))
same_found kind own_kind value own_value more own_more p q r = cc

-- The bytes of an entry are read as this entry, whatever follows.
pub first_entry-entry : (entry : Entry) (more : List ℕ) → FitsEntry entry
    → first_entry (entry_bytes entry ++ more) ≡ Some (entry, more)
first_entry-entry entry more fits =
    let kind : little_number 2 (entry_bytes entry ++ more) ≡ entry.kind =
    little_number-reads_back 2 entry.kind (little_bytes 2 (length entry.value) ++ entry.value ++ more)
    (omega (arith, fits.kind)) in
    let size : value_size (entry_bytes entry ++ more) ≡ length entry.value =
    little_number-reads_back 2 (length entry.value) (entry.value ++ more) (omega (arith, fits.value)) in
    let whole : length (entry_bytes entry ++ more) ≡ 4 + length (entry.value ++ more) = omega arith in
    let long : 4 + value_size (entry_bytes entry ++ more) ≤ length (entry_bytes entry ++ more) =
    omega (arith, size, whole, length-append entry.value more) in
    let value : take (value_size (entry_bytes entry ++ more)) (entry.value ++ more) ≡ entry.value =
    take_at entry.value more _ (sym size) in
    let rest : drop (4 + value_size (entry_bytes entry ++ more)) (entry_bytes entry ++ more) ≡ more =
    sym (drop-drop (value_size (entry_bytes entry ++ more)) 4 (entry_bytes entry ++ more))
    ∙ drop_at entry.value more _ (sym size) in
    first_entry-fitting (entry_bytes entry ++ more) long ∙ same_found _ _ _ _ _ _ kind value rest

-- Bytes are two bytes, two bytes, a value, and the bytes after it.
four_parts : (n : ℕ) (bytes : List ℕ)
    → (take 2 bytes ++ (take 2 (drop 2 bytes) ++ take n (drop 4 bytes))) ++ drop (4 + n) bytes ≡ bytes
four_parts n bytes =
    let after : drop (4 + n) bytes ≡ drop n (drop 4 bytes) = sym (drop-drop n 4 bytes) in
    let tail : take n (drop 4 bytes) ++ drop (4 + n) bytes ≡ drop 2 (drop 2 bytes) =
    ap (λ (t : List ℕ). take n (drop 4 bytes) ++ t) after ∙ take-append-drop n (drop 4 bytes)
    ∙ sym (drop-drop 2 2 bytes) in
    append_assoc (take 2 bytes) (take 2 (drop 2 bytes) ++ take n (drop 4 bytes)) (drop (4 + n) bytes)
    ∙ ap (λ (t : List ℕ). take 2 bytes ++ t)
    (append_assoc (take 2 (drop 2 bytes)) (take n (drop 4 bytes)) (drop (4 + n) bytes)
    ∙ ap (λ (t : List ℕ). take 2 (drop 2 bytes) ++ t) tail ∙ take-append-drop 2 (drop 2 bytes))
    ∙ take-append-drop 2 bytes

-- Bytes that are read as an entry are this entry's bytes, followed by the rest.
pub first_entry-parts : (bytes : List ℕ) (entry : Entry) (rest : List ℕ) → IsBytes bytes
    → first_entry bytes ≡ Some (entry, rest)
    → FitsEntry entry × (bytes ≡ entry_bytes entry ++ rest) × IsBytes rest × (length rest < length bytes)
first_entry-parts bytes entry rest fits e =
    let found = found_fits bytes (entry, rest) e in
    let long = found.0 in
    let size : length (take (value_size bytes) (drop 4 bytes)) ≡ value_size bytes =
    length-take-le (value_size bytes) (drop 4 bytes) (omega (arith, length-drop 4 bytes, long)) in
    let kind_bytes : little_bytes 2 (little_number 2 bytes) ≡ take 2 bytes =
    little_bytes-little_number_2 bytes (omega (arith, long)) fits in
    let size_bytes : little_bytes 2 (value_size bytes) ≡ take 2 (drop 2 bytes) =
    little_bytes-little_number_2 (drop 2 bytes) (omega (arith, long, length-drop 2 bytes))
    (IsBytes-drop 2 bytes fits) in
    let kind_fits = little_from-lt 0 2 bytes fits in
    let size_fits = little_from-lt 0 2 (drop 2 bytes) (IsBytes-drop 2 bytes fits) in
    let parts : entry_bytes (entry_at bytes) ++ after_entry bytes ≡ bytes =
    ap (λ (n : ℕ).
    (little_bytes 2 (little_number 2 bytes) ++ (little_bytes 2 n ++ take (value_size bytes) (drop 4 bytes))) ++
    after_entry bytes) size
    ∙ ap (λ (t : List ℕ). (t ++ (little_bytes 2 (value_size bytes) ++ take (value_size bytes) (drop 4 bytes))) ++
    after_entry bytes) kind_bytes
    ∙ ap (λ (t : List ℕ). (take 2 bytes ++ (t ++ take (value_size bytes) (drop 4 bytes))) ++ after_entry bytes)
    size_bytes
    ∙ four_parts (value_size bytes) bytes in
    let made : FitsEntry (entry_at bytes) =
    record { kind = omega (arith, kind_fits); value = omega (arith, size, size_fits) } in
    subst (λ (f : Entry × List ℕ). FitsEntry f.0 × (bytes ≡ entry_bytes f.0 ++ f.1) × IsBytes f.1
    × (length f.1 < length bytes)) found.1 (
      made,
      sym parts,
      IsBytes-drop (4 + value_size bytes) bytes fits,
      omega
          (arith, length-drop (4 + value_size bytes) bytes, long),
    )

-- ---- all entries

-- A walk over entries, with a limit on the number of steps: its value if no entry begins, and how
-- one more entry changes it.
module _ {A : Type 0} (walk : ℕ → List ℕ → A) (none : List ℕ → A) (more : Entry → A → A)
    (at_zero : (bytes : List ℕ) → walk zero bytes ≡ none bytes)
    (at_suc : (n : ℕ) (bytes : List ℕ) → walk (suc n) bytes
    ≡ option_map_or (λ found. more found.0 (walk n found.1)) (first_entry bytes) (none bytes)) where
  walk-none : (n : ℕ) (bytes : List ℕ) → first_entry bytes ≡ None → walk n bytes ≡ none bytes
  walk-none zero bytes e = at_zero bytes
  walk-none (suc n) bytes e =
      at_suc n bytes ∙ ap (λ o. option_map_or (λ found. more found.0 (walk n found.1)) o (none bytes)) e

  -- All limits that are at least the length give the same value.
  walk-same : (n m : ℕ) (bytes : List ℕ) → length bytes ≤ n → length bytes ≤ m → walk n bytes ≡ walk m bytes
  walk-same zero m bytes p q = at_zero bytes ∙ sym (walk-none m bytes (first_entry-short bytes (omega arith)))
  walk-same (suc n) zero bytes p q =
      walk-none (suc n) bytes (first_entry-short bytes (omega arith)) ∙ sym (at_zero bytes)
  walk-same (suc n) (suc m) bytes p q =
      at_suc n bytes
      ∙ (elim (first_entry bytes) as
      (λ o. first_entry bytes ≡ o
      → option_map_or (λ found. more found.0 (walk n found.1)) o (none bytes)
      ≡ option_map_or (λ found. more found.0 (walk m found.1)) o (none bytes)) [
        | None ↦ λ e. refl
        | Some found ↦ λ e.
            let shorter = first_entry-shorter bytes found e in
            ap (more found.0) (walk-same n m found.1 (omega arith) (omega arith))
      ] refl)
      ∙ sym (at_suc m bytes)

  -- The walk over all entries continues after the first one.
  walk-step : (bytes : List ℕ) → walk (length bytes) bytes
      ≡ option_map_or (λ found. more found.0 (walk (length found.1) found.1)) (first_entry bytes) (none bytes)
  walk-step bytes =
      walk-same (length bytes) (suc (length bytes)) bytes (omega arith) (omega arith)
      ∙ at_suc (length bytes) bytes
      ∙ (elim (first_entry bytes) as
      (λ o. first_entry bytes ≡ o
      → option_map_or (λ found. more found.0 (walk (length bytes) found.1)) o (none bytes)
      ≡ option_map_or (λ found. more found.0 (walk (length found.1) found.1)) o (none bytes)) [
        | None ↦ λ e. refl
        | Some found ↦ λ e.
            let shorter = first_entry-shorter bytes found e in
            ap (more found.0) (walk-same (length bytes) (length found.1) found.1 (omega arith) (omega arith))
      ] refl)

-- All entries are the first one followed by the entries after it.
pub entries_of-step : (bytes : List ℕ)
    → entries_of bytes ≡ option_map_or (λ found. found.0 ∷ entries_of found.1) (first_entry bytes) []
unfolding entries_within
entries_of-step = walk-step entries_within (λ b. []) (λ entry entries. entry ∷ entries) (λ b. refl) (λ n b. refl)

-- The bytes after all entries are the bytes after all entries after the first one.
pub rest_of-step : (bytes : List ℕ) → rest_of bytes ≡ option_map_or (λ found. rest_of found.1) (first_entry bytes) bytes
unfolding rest_within
rest_of-step = walk-step rest_within (λ b. b) (λ entry rest. rest) (λ b. refl) (λ n b. refl)

-- The same two if the first entry is known.
pub entries_of-first : (bytes : List ℕ) (entry : Entry) (rest : List ℕ) → first_entry bytes ≡ Some (entry, rest)
    → entries_of bytes ≡ entry ∷ entries_of rest
entries_of-first bytes entry rest e = entries_of-step bytes
    ∙ ap (λ o. option_map_or (λ found. found.0 ∷ entries_of found.1) o []) e

pub rest_of-first : (bytes : List ℕ) (entry : Entry) (rest : List ℕ) → first_entry bytes ≡ Some (entry, rest)
    → rest_of bytes ≡ rest_of rest
rest_of-first bytes entry rest e = rest_of-step bytes ∙ ap (λ o. option_map_or (λ found. rest_of found.1) o bytes) e

pub read_first : (bytes : List ℕ) (entry : Entry) (rest : List ℕ)
    → ◌≡◌ {A = Option (Entry × List ℕ)} (Some (entry, rest)) (first_entry bytes)
    → (entries_of bytes ≡ entry ∷ entries_of rest) × (rest_of rest ≡ rest_of bytes)
read_first bytes entry rest e =
    let found : first_entry bytes ≡ Some (entry, rest) = sym {a = Some (entry, rest)} e in
    (entries_of-first bytes entry rest found, sym (rest_of-first bytes entry rest found))

-- The same two if there is no entry.
pub entries_of-none : (bytes : List ℕ) → first_entry bytes ≡ None → entries_of bytes ≡ []
entries_of-none bytes e = entries_of-step bytes ∙ ap (λ o. option_map_or (λ found. found.0 ∷ entries_of found.1) o []) e

pub rest_of-none : (bytes : List ℕ) → first_entry bytes ≡ None → rest_of bytes ≡ bytes
rest_of-none bytes e = rest_of-step bytes ∙ ap (λ o. option_map_or (λ found. rest_of found.1) o bytes) e

-- Entries that were read, for each limit, are the bytes up to the rest.
entries_within-parts : (count : ℕ) (bytes : List ℕ) → IsBytes bytes
    → (bytes ≡ entries_bytes (entries_within count bytes) ++ rest_within count bytes)
    × AllByRecursion FitsEntry (entries_within count bytes)
unfolding entries_within rest_within
entries_within-parts zero bytes fits = (refl, tt)
entries_within-parts (suc count) bytes fits =
    elim (first_entry bytes) as (λ o. first_entry bytes ≡ o
    → (bytes ≡ entries_bytes (option_map_or (λ found. found.0 ∷ entries_within count found.1) o []) ++ option_map_or
    (λ found. rest_within count found.1) o bytes)
    × AllByRecursion FitsEntry (option_map_or (λ found. found.0 ∷ entries_within count found.1) o [])) [
      | None ↦ λ e. (refl, tt)
      | Some found ↦ λ e.
          let first = first_entry-parts bytes found.0 found.1 fits e in
          let others = entries_within-parts count found.1 first.2 in (
            first.1 ∙ ap (λ (t : List ℕ). entry_bytes found.0 ++ t) others.0
                ∙ sym (append_assoc (entry_bytes found.0) (entries_bytes (entries_within count found.1))
                (rest_within count found.1)),
            (first.0, others.1),
          )
    ] refl

-- Bytes are those of their entries, followed by the rest. Each of these entries fits its fields.
pub entries_of-parts : (bytes : List ℕ) → IsBytes bytes
    → (bytes ≡ entries_bytes (entries_of bytes) ++ rest_of bytes) × AllByRecursion FitsEntry (entries_of bytes)
entries_of-parts bytes fits = entries_within-parts (length bytes) bytes fits

-- The rest begins with no entry, for each limit that is at least the length.
first_entry-rest_within : (count : ℕ) (bytes : List ℕ) → length bytes ≤ count
    → first_entry (rest_within count bytes) ≡ None
unfolding rest_within
first_entry-rest_within zero bytes few = first_entry-short bytes (omega arith)
first_entry-rest_within (suc count) bytes few =
    elim (first_entry bytes) as
    (λ o. first_entry bytes ≡ o → first_entry (option_map_or (λ found. rest_within count found.1) o bytes) ≡ None) [
      | None ↦ λ e. e
      | Some found ↦ λ e.
          let shorter = first_entry-shorter bytes found e in
          first_entry-rest_within count found.1 (omega arith)
    ] refl

-- The rest begins with no entry.
pub first_entry-rest_of : (bytes : List ℕ) → IsBytes bytes → first_entry (rest_of bytes) ≡ None
first_entry-rest_of bytes fits = first_entry-rest_within (length bytes) bytes (omega arith)

-- The bytes of entries are read as these entries, with no rest.
pub entries_of-entries_bytes : (entries : List Entry) → AllByRecursion FitsEntry entries
    → (entries_of (entries_bytes entries) ≡ entries) × (rest_of (entries_bytes entries) ≡ [])
unfolding entries_within rest_within
entries_of-entries_bytes [] fits = (refl, refl)
entries_of-entries_bytes (entry ∷ entries) fits =
    let first = first_entry-entry entry (entries_bytes entries) fits.0 in
    let others = entries_of-entries_bytes entries fits.1 in (
      entries_of-first (entries_bytes (entry ∷ entries)) entry (entries_bytes entries) first
          ∙ ap (λ (t : List Entry). entry ∷ t) others.0,
      rest_of-first (entries_bytes (entry ∷ entries)) entry (entries_bytes entries) first ∙ others.1,
    )

-- If no rest is left, bytes are those of their entries.
entries_bytes-entries_of : (bytes : List ℕ) → IsBytes bytes → rest_of bytes ≡ []
    → entries_bytes (entries_of bytes) ≡ bytes
entries_bytes-entries_of bytes fits none = sym (append-nil (entries_bytes (entries_of bytes)))
    ∙ ap (λ (t : List ℕ). entries_bytes (entries_of bytes) ++ t) (sym none) ∙ sym (entries_of-parts bytes fits).0

-- Entries fill bytes exactly if no rest is left.
pub IsFilled-rest_of : (bytes : List ℕ) → IsBytes bytes → 4 + length bytes < 2 ^ 16
    → IsFilled bytes ↔ (rest_of bytes ≡ [])
IsFilled-rest_of bytes fits short = (
  λ filled. ap rest_of filled.2 ∙ (entries_of-entries_bytes filled.0 filled.1.each).1,
  λ none.
      let same = entries_bytes-entries_of bytes fits none in (
        entries_of bytes,
        record { each = (entries_of-parts bytes fits).1; whole = omega (arith, ap length same) },
        sym
            same,
      ),
)
