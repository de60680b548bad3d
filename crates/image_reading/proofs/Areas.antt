-- An area at a place: the numbers in its head, its entries, and the bytes that encode it.
use Rattle.std.proofs.Common.{◌≡◌, ℕ, zero, suc, ◌+◌, ◌-◌, ◌^◌, ◌<◌, ◌≤◌, List, ◌++◌, length, take, drop, Option, None, Some, inl, inr, refl, sym, ap, subst, ◌∙◌, arith}
use Rattle.std.proofs.lemmas.List.{take_at, take-append-drop, length-append, length-drop, length-take-le}
use Rattle.byteorder.specs.Endian.{little_bytes, little_number}
use Rattle.byteorder.specs.Numbers.{little_number-reads_back}
use Rattle.common.proofs.Items.{drop-from}
use Rattle.image_reading.specs.declared.error.ImageError.{ImageError}
use Rattle.image_reading.specs.Area.{Entry, FitsArea, area_bytes, area_size, entries_bytes}
use Rattle.common.specs.Bytes.{IsBytes}
use Rattle.common.proofs.Bytes.{IsBytes-drop}
use Rattle.image_reading.proofs.AreaLaws.{little_bytes-little_number_2}
use Rattle.image_header.specs.declared.header.Header.{Header}
use Rattle.image_reading.specs.declared.error.ImageError.TheVariants.{BadTlvSize}
use Rattle.image_reading.specs.Area.{protected_magic, unprotected_magic}
use Rattle.image_reading.specs.Checks.{AllPass, FailsWith}
use Rattle.image_reading.specs.Fault.{HasWholeArea, IsArea, IsAreaFault, IsFilled, IsTotal, area_checks, protected_checks, magic_at, total_at, entries_at}

-- The area of these entries is at a place.
pub record IsAreaOf (bytes : List ℕ) (place magic : ℕ) (entries : List Entry) : Type 0 where
  pub head : place + 4 ≤ length bytes
  pub magic_is : magic_at bytes place ≡ magic
  pub total : total_at bytes place ≡ 4 + length (entries_bytes entries)
  pub within : place + total_at bytes place ≤ length bytes
  pub entries_are : entries_at bytes place ≡ entries_bytes entries

-- The first two bytes are those of the number in them.
first_number : (bytes : List ℕ) → IsBytes bytes → 2 ≤ length bytes
    → bytes ≡ little_bytes 2 (little_number 2 bytes) ++ drop 2 bytes
first_number bytes fits long = sym
    (ap (λ (x : List ℕ). x ++ drop 2 bytes) (little_bytes-little_number_2 bytes long fits) ∙ take-append-drop 2 bytes)

-- The bytes of an area and the bytes after it.
area_bytes-append : (magic total : ℕ) (entries : List Entry) (rest : List ℕ)
    → total ≡ 4 + length (entries_bytes entries)
    → little_bytes 2 magic ++ (little_bytes 2 total ++ (entries_bytes entries ++ rest)) ≡ area_bytes magic entries ++
    rest
area_bytes-append magic total entries rest e = ap
    (λ (k : ℕ). little_bytes 2 magic ++ (little_bytes 2 k ++ (entries_bytes entries ++ rest))) e

-- The bytes at the place of an area are the area's bytes and the bytes after it.
pub drop-area : (bytes : List ℕ) (place magic : ℕ) (entries : List Entry) → IsBytes bytes
    → IsAreaOf bytes place magic entries
    → drop place bytes ≡ area_bytes magic entries ++ drop (place + total_at bytes place) bytes
drop-area bytes place magic entries fits area =
    let head : drop place bytes ≡ little_bytes 2 (magic_at bytes place) ++ drop (place + 2) bytes =
    first_number (drop place bytes) (IsBytes-drop place bytes fits) (omega (arith, area.head, length-drop place bytes))
    ∙ ap (λ (x : List ℕ). little_bytes 2 (magic_at bytes place) ++ x) (drop-from 2 place (place + 2) bytes refl) in
    let size : drop (place + 2) bytes ≡ little_bytes 2 (total_at bytes place) ++ drop (place + 4) bytes =
    first_number (drop (place + 2) bytes) (IsBytes-drop (place + 2) bytes fits)
    (omega (arith, area.head, length-drop (place + 2) bytes))
    ∙ ap (λ (x : List ℕ). little_bytes 2 (total_at bytes place) ++ x)
    (drop-from 2 (place + 2) (place + 4) bytes (omega arith)) in
    let rest : drop (place + 4) bytes ≡ entries_bytes entries ++ drop (place + total_at bytes place) bytes =
    sym (take-append-drop (total_at bytes place - 4) (drop (place + 4) bytes))
    ∙ ap (λ (x : List ℕ). x ++ drop (total_at bytes place - 4) (drop (place + 4) bytes)) area.entries_are
    ∙ ap (λ (x : List ℕ). entries_bytes entries ++ x)
    (drop-from (total_at bytes place - 4) (place + 4) (place + total_at bytes place) bytes
    (omega (arith, area.total))) in
    head
    ∙ ap (λ (x : List ℕ). little_bytes 2 (magic_at bytes place) ++ x)
    (size ∙ ap (λ (x : List ℕ). little_bytes 2 (total_at bytes place) ++ x) rest)
    ∙ area_bytes-append (magic_at bytes place) (total_at bytes place) entries
    (drop (place + total_at bytes place) bytes) area.total
    ∙ ap (λ (k : ℕ). area_bytes k entries ++ drop (place + total_at bytes place) bytes) area.magic_is

-- An area is at the place of its bytes.
pub area_from_bytes : (bytes rest : List ℕ) (place magic : ℕ) (entries : List Entry) → magic < 2 ^ 16
    → FitsArea entries → place ≤ length bytes
    → drop place bytes ≡ area_bytes magic entries ++ rest → IsAreaOf bytes place magic entries
area_from_bytes bytes rest place magic entries small fits near e =
    let size = 4 + length (entries_bytes entries) in
    let magic_is : magic_at bytes place ≡ magic =
    ap (little_number 2) e
    ∙ little_number-reads_back 2 magic (little_bytes 2 size ++ (entries_bytes entries ++ rest))
    (omega (arith, small)) in
    let behind : drop (place + 2) bytes ≡ little_bytes 2 size ++ (entries_bytes entries ++ rest) =
    sym (drop-from 2 place (place + 2) bytes refl) ∙ ap (drop 2) e in
    let total : total_at bytes place ≡ size =
    ap (little_number 2) behind
    ∙ little_number-reads_back 2 size (entries_bytes entries ++ rest) (omega (arith, fits.whole)) in
    let after : drop (place + 4) bytes ≡ entries_bytes entries ++ rest =
    sym (drop-from 4 place (place + 4) bytes refl) ∙ ap (drop 4) e in
    let len : length bytes - (place + 4) ≡ length (entries_bytes entries) + length rest =
    sym (length-drop (place + 4) bytes) ∙ ap length after ∙ length-append (entries_bytes entries) rest in
    let whole : length bytes - place ≡ 4 + (length (entries_bytes entries) + length rest) =
    sym (length-drop place bytes) ∙ ap length e ∙ omega (arith, length-append (entries_bytes entries) rest) in
    record {
      head = omega (arith, whole, near);
      magic_is = magic_is;
      total = total;
      within = omega (arith, whole, near, total);
      entries_are = ap (take (total_at bytes place - 4)) after
          ∙ take_at (entries_bytes entries) rest (total_at bytes place - 4) (omega (arith, total));
    }

-- An area that passes its checks is that of its entries.
pub area_of_entries : (bytes : List ℕ) (place magic : ℕ) (expected : Option ℕ) (entries : List Entry)
    → IsArea bytes place magic expected → 4 ≤ total_at bytes place → entries_at bytes place ≡ entries_bytes entries
    → IsAreaOf bytes place magic entries
area_of_entries bytes place magic expected entries area long e =
    let head : place + 4 ≤ length bytes = area.0.0.0.0 in
    let within : place + total_at bytes place ≤ length bytes = area.0.1 in
    let behind = drop (place + 4) bytes in
    let len : length (entries_at bytes place) ≡ total_at bytes place - 4 =
    length-take-le (total_at bytes place - 4) behind (omega (arith, within, head, length-drop (place + 4) bytes)) in
    record {
      head = head;
      magic_is = area.0.0.0.1;
      total = omega (arith, len, ap length e, long);
      within = within;
      entries_are = e;
    }

-- An area of entries passes the checks.
pub area_passes : (bytes : List ℕ) (place magic : ℕ) (expected : Option ℕ) (entries : List Entry)
    → IsAreaOf bytes place magic entries → FitsArea entries → IsTotal expected (area_size entries)
    → IsArea bytes place magic expected
area_passes bytes place magic expected entries area fits allowed =
    let total = subst (IsTotal expected) (sym area.total) allowed in
    ((((area.head, area.magic_is), total), area.within), (entries, fits, area.entries_are))

-- The checks of an area, one by one.
pub area_row : (bytes : List ℕ) (place magic : ℕ) (expected : Option ℕ) → IsArea bytes place magic expected
    → AllPass (area_checks bytes place magic (IsTotal expected))
area_row bytes place magic expected area =
    (area.0.0.0.0, (area.0.0.0.1, (area.0.0.1, (area.0.1, (area.1, tt)))))

-- If entries don't fill an area that passes the checks of its head, that is its fault.
pub not_filled_fault : (bytes : List ℕ) (place magic : ℕ) (expected : Option ℕ)
    → HasWholeArea bytes place magic expected → (IsFilled (entries_at bytes place) → ⊥)
    → IsAreaFault bytes place magic expected BadTlvSize
not_filled_fault bytes place magic expected whole not_filled =
    inr (whole.0.0.0, inr (whole.0.0.1, inr (whole.0.1, inr (whole.1, inl (not_filled, refl)))))

-- ---- the areas of an image with a header

-- The place of the protected area of an image with this header.
abbrev pub protected_place : Header → ℕ
protected_place header = header.header_size + header.body_size

-- The place of the unprotected area of an image with this header.
abbrev pub unprotected_place : Header → ℕ
unprotected_place header = header.header_size + header.body_size + header.protected_size

-- The protected area is absent, or passes its checks.
abbrev pub HasProtectedArea : List ℕ → Header → Type 0
HasProtectedArea bytes header =
    AllPass (protected_checks bytes (protected_place header) header.protected_size)

-- The unprotected area passes its checks.
abbrev pub HasUnprotectedArea : List ℕ → Header → Type 0
HasUnprotectedArea bytes header =
    IsArea bytes (unprotected_place header) unprotected_magic None

-- A protected area that is there or absent passes its checks.
pub protected_passes : (bytes : List ℕ) (place size : ℕ)
    → (0 < size → IsArea bytes place protected_magic (Some size)) → AllPass (protected_checks bytes place size)
protected_passes bytes place zero area = tt
protected_passes bytes place (suc n) area = area_row bytes place protected_magic (Some (suc n)) (area (omega arith))

-- A protected area that is there fails its checks if the area does.
pub protected_fails : (bytes : List ℕ) (place size : ℕ) (fault : ImageError) → 0 < size
    → IsAreaFault bytes place protected_magic (Some size) fault → FailsWith (protected_checks bytes place size) fault
protected_fails bytes place zero fault some failed = absurd (omega (arith, some))
protected_fails bytes place (suc n) fault some failed = failed

-- The magic number of an area is read from its bytes.
pub magic_read : (bytes area : List ℕ) (place magic : ℕ) → area ≡ drop place bytes → magic ≡ little_number 2 area
    → magic_at bytes place ≡ magic
magic_read bytes area place magic at is = ap (little_number 2) (sym at) ∙ sym is

-- The length of an area is read from its bytes.
total_read : (bytes area : List ℕ) (place total : ℕ) → area ≡ drop place bytes
    → total ≡ little_number 2 (drop 2 area) → total_at bytes place ≡ total
total_read bytes area place total at is =
    ap (little_number 2) (sym (drop-from 2 place (place + 2) bytes refl))
    ∙ ap (λ (x : List ℕ). little_number 2 (drop 2 x)) (sym at) ∙ sym is

-- Both numbers are read from the first four bytes.
pub head_read : (bytes area : List ℕ) (place magic total : ℕ) → area ≡ drop place bytes → magic ≡ little_number 2 area
    → total ≡ little_number 2 (drop 2 area) → (magic_at bytes place ≡ magic) × (total_at bytes place ≡ total)
head_read bytes area place magic total at magic_is total_is =
    (magic_read bytes area place magic at magic_is, total_read bytes area place total at total_is)

-- What was read of an area: its magic number, its length, and the bytes of its entries.
pub record AreaRead (bytes : List ℕ) (place magic total : ℕ) (entries : List ℕ) : Type 0 where
  pub magic_is : magic_at bytes place ≡ magic
  pub total_is : total_at bytes place ≡ total
  pub entries_are : entries ≡ entries_at bytes place

pub area_read : (bytes area behind entries : List ℕ) (place magic total size : ℕ) → area ≡ drop place bytes
    → magic ≡ little_number 2 area → total ≡ little_number 2 (drop 2 area) → size ≡ total
    → behind ≡ drop 4 area → entries ≡ take (size - 4) behind → AreaRead bytes place magic size entries
area_read bytes area behind entries place magic total size at magic_is total_is size_is behind_is entries_is =
    let size_at : total_at bytes place ≡ size = total_read bytes area place total at total_is ∙ sym size_is in
    let behind_at : behind ≡ drop (place + 4) bytes =
    behind_is ∙ ap (drop 4) at ∙ drop-from 4 place (place + 4) bytes refl in
    record {
      magic_is = magic_read bytes area place magic at magic_is;
      total_is = size_at;
      entries_are = entries_is ∙ ap (take (size - 4)) behind_at
          ∙ ap (λ (n : ℕ). take (n - 4) (drop (place + 4) bytes)) (sym size_at);
    }
