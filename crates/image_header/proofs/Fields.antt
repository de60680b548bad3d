-- The fields of a header, written and read one by one.
use Rattle.std.proofs.Common.{◌≡◌, ℕ, ◌+◌, ◌≤◌, List, [], ◌++◌, length, take, drop, drop-cons, slice_index, add-one, ◌%◌, refl, sym, ap, ◌∙◌, arith}
use Rattle.std.proofs.Math.Nat.{mod-eq_of_lt}
use Rattle.std.proofs.lemmas.List.{drop_all, length-take, length-drop, take-append-drop, drop-drop}
use Rattle.std.proofs.lemmas.Nat.{le_bytes_2, le_bytes_4}
use Rattle.byteorder.specs.Endian.{little_bytes, little_number}
use Rattle.byteorder.specs.Numbers.{little_from-take}
use Rattle.common.specs.Bytes.{IsBytes}
use Rattle.common.proofs.Bytes.{IsBytes-drop, IsBytes-take}
use Rattle.image_header.specs.declared.header.Header.{Header}
use Rattle.image_header.specs.Header.{BeginsWith, FitsHeader, field_bytes, header_magic}

-- The first n bytes have nothing after byte n.
pub drop-take_same : (n : ℕ) (bytes : List ℕ) → drop n (take n bytes) ≡ []
drop-take_same n bytes = drop_all n (take n bytes) (omega (arith, length-take n bytes))

-- The bytes from place k on are n bytes and those after them.
drop-part : (k n : ℕ) (bytes part : List ℕ) → part ≡ take n (drop k bytes) → drop k bytes ≡ part ++ drop (k + n) bytes
drop-part k n bytes part e =
    sym (take-append-drop n (drop k bytes)) ∙ rw (e, drop-drop n k bytes) refl

-- One byte, and the bytes after it.
pub drop-number_1 : (k : ℕ) (bytes : List ℕ) → k + 1 ≤ length bytes → IsBytes bytes
    → drop k bytes ≡ little_bytes 1 (slice_index bytes k) ++ drop (k + 1) bytes
drop-number_1 k bytes within fits =
    let byte : slice_index bytes k % 256 ≡ slice_index bytes k = mod-eq_of_lt (fits k) in
    rw (byte, add-one) (drop-cons bytes k 0 (omega arith))

-- The bytes of the number in two bytes are these two.
little_bytes-little_number_2 : (bytes : List ℕ) → IsBytes bytes → length bytes ≡ 2
    → little_bytes 2 (little_number 2 bytes) ≡ bytes
little_bytes-little_number_2 bytes fits size = le_bytes_2 bytes (little_number 2 bytes) size fits (omega arith)

-- The bytes of the number in four bytes are these four.
pub little_bytes-little_number_4 : (bytes : List ℕ) → IsBytes bytes → length bytes ≡ 4
    → little_bytes 4 (little_number 4 bytes) ≡ bytes
little_bytes-little_number_4 bytes fits size = le_bytes_4 bytes (little_number 4 bytes) size fits (omega arith)

-- A number of n bytes, and the bytes after it, if n bytes are those of the number in them.
drop-number : (n : ℕ)
    → ((part : List ℕ) → IsBytes part → length part ≡ n → little_bytes n (little_number n part) ≡ part)
    → (k x : ℕ) (bytes : List ℕ) → k + n ≤ length bytes → IsBytes bytes
    → x ≡ little_number n (take n (drop k bytes)) → drop k bytes ≡ little_bytes n x ++ drop (k + n) bytes
drop-number n back k x bytes within fits e =
    let part = take n (drop k bytes) in
    let whole : length part ≡ n = omega (arith, length-take n (drop k bytes), length-drop k bytes) in
    let bounded = IsBytes-take n (drop k bytes) (IsBytes-drop k bytes fits) in
    drop-part k n bytes (little_bytes n x) (ap (little_bytes n) e ∙ back part bounded whole)

pub drop-number_2 : (k x : ℕ) (bytes : List ℕ) → k + 2 ≤ length bytes → IsBytes bytes
    → x ≡ little_number 2 (take 2 (drop k bytes)) → drop k bytes ≡ little_bytes 2 x ++ drop (k + 2) bytes
drop-number_2 = drop-number 2 little_bytes-little_number_2

pub drop-number_4 : (k x : ℕ) (bytes : List ℕ) → k + 4 ≤ length bytes → IsBytes bytes
    → x ≡ little_number 4 (take 4 (drop k bytes)) → drop k bytes ≡ little_bytes 4 x ++ drop (k + 4) bytes
drop-number_4 = drop-number 4 little_bytes-little_number_4

-- Bytes begin with a header if they begin with the magic number, followed by the header's fields.
pub BeginsWith-fields : (bytes : List ℕ) (header : Header) → 32 ≤ length bytes → IsBytes bytes
    → little_number 4 bytes ≡ header_magic → FitsHeader header → drop 4 bytes ≡ field_bytes header ++ drop 32 bytes
    → BeginsWith bytes header
BeginsWith-fields bytes header long bounded magic fits fields =
    let read = sym magic ∙ sym (little_from-take 0 4 4 bytes (omega arith)) in
    let first = drop-number_4 0 header_magic bytes (omega arith) bounded read in
    record {
      fits = fits;
      rest = drop 32 bytes;
      parts = first ∙ ap (λ (rest : List ℕ). little_bytes 4 header_magic ++ rest) fields;
    }
