-- The header of MCUboot's image format (its `struct image_header`).
use Rattle.std.specs.Prelude.{◌≡◌, ◌≢◌, ℕ, ◌^◌, ◌<◌, ◌≤◌, List, ◌++◌, length, bit_or}
use Rattle.byteorder.specs.Endian.{little_bytes, little_number}
use Rattle.version_order.specs.declared.version.Version.{Version}
use Rattle.version_order.specs.VersionText.{FitsFields}
use Rattle.image_header.specs.declared.header.Header.{Header}
use Rattle.image_header.specs.declared.error.HeaderError.{HeaderError}
use Rattle.image_header.specs.declared.error.HeaderError.TheVariants.{Short, BadMagic, BadHeaderSize, UnsupportedFlags}

-- The magic number of an image (`IMAGE_MAGIC`).
abbrev pub header_magic : ℕ
header_magic = 0x96f3b83d

-- The 8 bytes of a version: major, minor, revision, build.
abbrev pub version_bytes : Version → List ℕ
version_bytes version = little_bytes 1 version.major ++ (little_bytes 1 version.minor
    ++ (little_bytes 2 version.revision ++ little_bytes 4 version.build))

-- The 28 bytes of a header after its magic number.
abbrev pub field_bytes : Header → List ℕ
field_bytes header = little_bytes 4 header.load_address
    ++ (little_bytes 2 header.header_size ++ (little_bytes 2 header.protected_size
    ++ (little_bytes 4 header.body_size ++ (little_bytes 4 header.flags
    ++ (version_bytes header.version ++ little_bytes 4 header.pad)))))

-- The 32 bytes of a header.
abbrev pub header_bytes : Header → List ℕ
header_bytes header = little_bytes 4 header_magic ++ field_bytes header

-- Each number of a header fits its field.
pub record FitsHeader (header : Header) : Type 0 where
  pub load_address : header.load_address < 2 ^ 32
  pub header_size : header.header_size < 2 ^ 16
  pub protected_size : header.protected_size < 2 ^ 16
  pub body_size : header.body_size < 2 ^ 32
  pub flags : header.flags < 2 ^ 32
  pub version : FitsFields header.version
  pub pad : header.pad < 2 ^ 32

-- The accepted flags, all set: position independent, not bootable, fixed in read-only memory
-- (`IMAGE_F_PIC`, `IMAGE_F_NON_BOOTABLE`, `IMAGE_F_ROM_FIXED`).
abbrev pub accepted_flags : ℕ
accepted_flags = 0x111

-- Only accepted flags are set.
abbrev pub HasKnownFlags : Header → Type 0
HasKnownFlags header = bit_or header.flags accepted_flags ≡ accepted_flags

-- Bytes begin with this header, whatever follows it.
pub record BeginsWith (bytes : List ℕ) (header : Header) : Type 0 where
  pub fits : FitsHeader header
  pub rest : List ℕ
  pub parts : bytes ≡ header_bytes header ++ rest

-- A header is accepted: it has at least 32 bytes and only accepted flags.
pub record IsAccepted (header : Header) : Type 0 where
  pub long : 32 ≤ header.header_size
  pub known : HasKnownFlags header

-- A header would be accepted but for its flags.
pub record HasUnknownFlags (header : Header) : Type 0 where
  pub long : 32 ≤ header.header_size
  pub unknown : HasKnownFlags header → ⊥

-- The first check of a header that fails; `BeginsWith` includes the length and the magic number.
abbrev pub IsHeaderFault : List ℕ → HeaderError → Type 0
IsHeaderFault bytes Short = length bytes < 32
IsHeaderFault bytes BadMagic = (32 ≤ length bytes) × (little_number 4 bytes ≢ header_magic)
IsHeaderFault bytes BadHeaderSize =
    (header : Header) × BeginsWith bytes header × (header.header_size < 32)
IsHeaderFault bytes UnsupportedFlags =
    (header : Header) × BeginsWith bytes header × HasUnknownFlags header
