-- The first check that fails of bytes that are not an intact image.
use Rattle.std.specs.Prelude.{◌≡◌, ◌≢◌, ℕ, zero, ◌+◌, ◌-◌, ◌≤◌, List, [], ◌∷◌, ◌++◌, length, take, drop, Option, Some, None}
use Rattle.byteorder.specs.Endian.{little_number}
use Rattle.image_header.specs.declared.header.Header.{Header}
use Rattle.image_header.specs.declared.error.HeaderError.{HeaderError}
use Rattle.image_header.specs.declared.error.HeaderError.TheVariants as header_fault
use Rattle.image_header.specs.Header.{BeginsWith, HasKnownFlags, IsAccepted, header_magic}
use Rattle.image_reading.specs.declared.error.ImageError.{ImageError}
use Rattle.image_reading.specs.declared.error.ImageError.TheVariants.{Short, BadMagic, BadHeaderSize, UnsupportedFlags, Truncated, BadTlvMagic, BadTlvSize, TrailingBytes}
use Rattle.image_reading.specs.Area.{Entry, FitsArea, entries_bytes, protected_magic, unprotected_magic}
use Rattle.image_reading.specs.Checks.{Check, FailsWith}
use Rattle.image_reading.specs.Image.{BeginsWithImage, Image, entry_checks}

-- ---- the checks

-- The checks before the header's fields can be read.
abbrev pub head_checks : List ℕ → List Check
head_checks bytes =
    (32 ≤ length bytes, Short) ∷ (little_number 4 bytes ≡ header_magic, BadMagic) ∷ []

-- The length in the head of an area at a place.
abbrev pub total_at : List ℕ → ℕ → ℕ
total_at bytes place = little_number 2 (drop (place + 2) bytes)

-- Entries fill these bytes exactly.
abbrev pub IsFilled : List ℕ → Type 0
IsFilled bytes = (entries : List Entry) × FitsArea entries × (bytes ≡ entries_bytes entries)

-- The checks of an area at a place, in order: its head, magic number, length, end and entries.
abbrev pub area_checks : List ℕ → ℕ → ℕ → (ℕ → Type 0) → List Check
area_checks bytes place magic IsLength =
    (place + 4 ≤ length bytes, Truncated)
    ∷ (little_number 2 (drop place bytes) ≡ magic, BadTlvMagic)
    ∷ (IsLength (total_at bytes place), BadTlvSize)
    ∷ (place + total_at bytes place ≤ length bytes, Truncated)
    ∷ (IsFilled (take (total_at bytes place - 4) (drop (place + 4) bytes)), BadTlvSize) ∷ []

-- The checks of a protected area, which has the length in the header, or is absent if that is 0.
abbrev pub protected_checks : List ℕ → ℕ → ℕ → List Check
protected_checks bytes place zero = []
protected_checks bytes place size =
    area_checks bytes place protected_magic (λ total. (total ≡ size) × (4 ≤ total))

-- The checks of an image with this header, in order: the header's fields, then both areas.
abbrev pub part_checks : List ℕ → Header → List Check
part_checks bytes header =
    (32 ≤ header.header_size, BadHeaderSize) ∷ (HasKnownFlags header, UnsupportedFlags)
    ∷ protected_checks bytes (header.header_size + header.body_size) header.protected_size
    ++ area_checks bytes (header.header_size + header.body_size + header.protected_size)
    unprotected_magic (λ total. 4 ≤ total)

-- The first check that fails of bytes that are to be an image: before the header's fields, in the
-- header and the areas, or of the entries and then of what follows the image.
pub data IsFirstFault (bytes : List ℕ) (fault : ImageError) : Type 0 where
  in_head : FailsWith (head_checks bytes) fault → IsFirstFault bytes fault
  in_parts : (header : Header) → BeginsWith bytes header
      → FailsWith (part_checks bytes header) fault → IsFirstFault bytes fault
  in_entries : (image : Image) (trailing : List ℕ) → BeginsWithImage bytes image trailing
      → FailsWith (entry_checks image ++ (trailing ≡ [], TrailingBytes) ∷ []) fault
      → IsFirstFault bytes fault

-- The first check that fails of bytes that are to begin with an image: anything may follow it.
abbrev pub IsFrontFault : List ℕ → ImageError → Type 0
IsFrontFault bytes fault = IsFirstFault bytes fault × (fault ≢ TrailingBytes)

-- ---- what the steps of reading find

-- The fault of an image whose header has this fault.
abbrev pub image_fault : HeaderError → ImageError
image_fault header_fault.Short = Short
image_fault header_fault.BadMagic = BadMagic
image_fault header_fault.BadHeaderSize = BadHeaderSize
image_fault header_fault.UnsupportedFlags = UnsupportedFlags

-- The magic number in the head of an area at a place.
abbrev pub magic_at : List ℕ → ℕ → ℕ
magic_at bytes place = little_number 2 (drop place bytes)

-- The bytes of the entries of an area at a place: those after its head, up to its length.
abbrev pub entries_at : List ℕ → ℕ → List ℕ
entries_at bytes place = take (total_at bytes place - 4) (drop (place + 4) bytes)

-- The length that an area names is at least 4 and, if one is expected, that one.
abbrev pub IsTotal : Option ℕ → ℕ → Type 0
IsTotal None total = 4 ≤ total
IsTotal (Some size) total = (total ≡ size) × (4 ≤ total)

-- The area has a right head, and doesn't pass the end of the bytes.
abbrev pub HasWholeArea : List ℕ → ℕ → ℕ → Option ℕ → Type 0
HasWholeArea bytes place magic expected =
    (((place + 4 ≤ length bytes) × (magic_at bytes place ≡ magic))
    × IsTotal expected (total_at bytes place)) × (place + total_at bytes place ≤ length bytes)

-- The area has a right head, doesn't pass the end of the bytes, and entries fill it.
abbrev pub IsArea : List ℕ → ℕ → ℕ → Option ℕ → Type 0
IsArea bytes place magic expected =
    HasWholeArea bytes place magic expected × IsFilled (entries_at bytes place)

-- The first check of an area that fails.
abbrev pub IsAreaFault : List ℕ → ℕ → ℕ → Option ℕ → ImageError → Type 0
IsAreaFault bytes place magic expected fault =
    FailsWith (area_checks bytes place magic (IsTotal expected)) fault

-- Bytes begin with this header, and it is accepted.
abbrev pub BeginsAccepted : List ℕ → Header → Type 0
BeginsAccepted bytes header = BeginsWith bytes header × IsAccepted header
