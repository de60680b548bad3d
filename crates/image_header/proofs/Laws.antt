-- Laws about headers, for the crates above.
use Rattle.std.specs.Prelude.{◌≡◌, ℕ, ◌^◌, ◌<◌, ◌≤◌, List, ◌++◌, length, drop, refl}
use Rattle.std.proofs.Common.{sym, ap, ◌∙◌, arith}
use Rattle.byteorder.specs.Endian.{little_bytes, little_number}
use Rattle.byteorder.specs.Numbers.{little_number-reads_back}
use Rattle.image_header.specs.declared.header.Header.{Header}
use Rattle.image_header.specs.Header.{header_magic, header_bytes, BeginsWith}

-- A header has 32 bytes.
pub length-header_bytes : (header : Header) → length (header_bytes header) ≡ 32
length-header_bytes header = refl

-- The rest is the bytes from byte 32 on.
pub header_bytes-rest : (bytes : List ℕ) (header : Header) (h : BeginsWith bytes header) → h.rest ≡ drop 32 bytes
header_bytes-rest bytes header h = sym (ap (drop 32) h.parts)

-- Bytes that begin with a header have length 32 or more.
pub BeginsWith-length : (bytes : List ℕ) (header : Header) → BeginsWith bytes header → 32 ≤ length bytes
BeginsWith-length bytes header h =
    let e : length bytes ≡ length (header_bytes header ++ h.rest) = ap length h.parts in
    omega arith

-- The header in the first 32 bytes, if they hold one.
abbrev header_at : List ℕ → Header
header_at bytes = record {
  load_address = little_number 4 (drop 4 bytes);
  header_size = little_number 2 (drop 8 bytes);
  protected_size = little_number 2 (drop 10 bytes);
  body_size = little_number 4 (drop 12 bytes);
  flags = little_number 4 (drop 16 bytes);
  version = record {
    major = little_number 1 (drop 20 bytes);
    minor = little_number 1 (drop 21 bytes);
    revision = little_number 2 (drop 22 bytes);
    build = little_number 4 (drop 24 bytes);
  };
  pad = little_number 4 (drop 28 bytes);
}

-- A number in bytes is the number that is read there.
little_number-drop : (n k x : ℕ) (bytes rest : List ℕ) → x < 256 ^ n → drop k bytes ≡ little_bytes n x ++ rest
    → little_number n (drop k bytes) ≡ x
little_number-drop n k x bytes rest fits e = ap (little_number n) e ∙ little_number-reads_back n x rest fits

-- The only header with which bytes may begin.
header_at-BeginsWith : (bytes : List ℕ) (header : Header) → BeginsWith bytes header → header_at bytes ≡ header
header_at-BeginsWith bytes header h =
    rw (
      little_number-drop 4 4 header.load_address bytes _ h.fits.load_address (ap (drop 4) h.parts),
      little_number-drop 2 8 header.header_size bytes _ h.fits.header_size (ap (drop 8) h.parts),
      little_number-drop 2 10 header.protected_size bytes _ h.fits.protected_size (ap (drop 10) h.parts),
      little_number-drop 4 12 header.body_size bytes _ h.fits.body_size (ap (drop 12) h.parts),
      little_number-drop 4 16 header.flags bytes _ h.fits.flags (ap (drop 16) h.parts),
      little_number-drop 1 20 header.version.major bytes _ h.fits.version.major (ap (drop 20) h.parts),
      little_number-drop 1 21 header.version.minor bytes _ h.fits.version.minor (ap (drop 21) h.parts),
      little_number-drop 2 22 header.version.revision bytes _ h.fits.version.revision (ap (drop 22) h.parts),
      little_number-drop 4 24 header.version.build bytes _ h.fits.version.build (ap (drop 24) h.parts),
      little_number-drop 4 28 header.pad bytes _ h.fits.pad (ap (drop 28) h.parts),
    ) refl

-- Bytes begin with at most one header.
pub header-unique : (bytes : List ℕ) (first second : Header) → BeginsWith bytes first → BeginsWith bytes second
    → first ≡ second
header-unique bytes first second a b = sym (header_at-BeginsWith bytes first a) ∙ header_at-BeginsWith bytes second b

-- Bytes that begin with a header begin with the magic number.
pub BeginsWith-magic : (bytes : List ℕ) (header : Header) → BeginsWith bytes header
    → little_number 4 bytes ≡ header_magic
BeginsWith-magic bytes header h = ap (little_number 4) h.parts
