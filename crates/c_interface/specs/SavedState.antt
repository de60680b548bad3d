-- The saved state of a device, and the device that it restores.
use Rattle.std.specs.Prelude.{◌≡◌, ℕ, ◌-◌, ◌≤◌, ◌==◌, Bool, true, false, if◌then◌else◌}
use Rattle.std.specs.Prelude.{List, ◌++◌, length, map, replicate, take, slice_index_or, Option, Some, None}
use Rattle.flash_model.specs.Chip.{Chip}
use Rattle.sector_map.specs.declared.layout.SectorMap.{SectorMap}
use Rattle.sector_map.specs.Map.{IsLaidOut}
use Rattle.common.specs.declared.kind.Kind.{Kind}
use Rattle.common.specs.declared.kind.Kind.TheVariants.{Test, Permanent}
use Rattle.upload.specs.View.{view}
use Rattle.upload.specs.Sessions.{AllClosed, AllOpenAt, upload_at}
use Rattle.upload.specs.declared.sessions.Upload.{Upload}
use Rattle.flash_contents.specs.Holding.{DeviceView}
use Rattle.c_interface.specs.DeviceCall.{DeviceCall, Piece}
use Rattle.c_interface.specs.declared.saved_state.SavedState.{SavedState}
use Rattle.c_interface.specs.declared.saved_state.SavedUpload.{SavedUpload}

-- The kind of a number.
abbrev pub saved_kind : ℕ → Option Kind
saved_kind number =
    if number == 1 then Some Test else if number == 2 then Some Permanent else None

-- The number of a kind.
abbrev pub number_of_kind : Kind → ℕ
number_of_kind Test = 1
number_of_kind Permanent = 2

-- A row saves an open upload.
pub record IsSavedIn (row : SavedUpload) (upload : Upload) : Type 0 where
  pub is_open : row.is_open ≡ 1
  pub size : upload.size ≡ row.size
  pub digest : upload.digest ≡ row.digest
  pub kind : saved_kind row.kind ≡ Some upload.kind
  pub received : upload.received ≡ row.received
  pub few : row.held_length ≤ 8
  pub held : upload.held.items ≡ take row.held_length row.held

-- A row saves an upload, or that none is open.
abbrev pub SavesUpload : SavedUpload → Option Upload → Type 0
SavesUpload row None = row.is_open ≡ 0
SavesUpload row (Some upload) = IsSavedIn row upload

-- A row of no upload: all zero.
abbrev pub no_row : SavedUpload
no_row = record {
  size = 0;
  received = 0;
  is_open = 0;
  kind = 0;
  held_length = 0;
  unused = 0;
  held = replicate 8 0;
  digest = replicate 32 0;
}

-- The row that a call writes for an upload, or for none. Each byte that the upload doesn't need is
-- 0: the unused one, and those after the held bytes.
abbrev pub row_of : Option Upload → SavedUpload
row_of None = no_row
row_of (Some upload) = record {
  size = upload.size;
  received = upload.received;
  is_open = 1;
  kind = number_of_kind upload.kind;
  held_length = length upload.held.items;
  unused = 0;
  held = upload.held.items ++ replicate (8 - length upload.held.items) 0;
  digest = upload.digest;
}

-- Rows save a table of uploads.
abbrev pub SaveUploads : List SavedUpload → List (Option Upload) → Type 0
SaveUploads rows sessions =
    (i : ℕ) → SavesUpload (slice_index_or rows i no_row) (upload_at sessions i)

-- The saved state is a booted device with these uploads. They may not match the flash.
pub record IsSavedWith (saved : SavedState) (sessions : List (Option Upload)) : Type 0 where
  pub booted : saved.is_booted ≡ 1
  pub each : SaveUploads saved.uploads sessions

-- The saved state is a booted device with these uploads, and they match the flash.
pub record IsSavedBooted (map : SectorMap) (chip : Chip) (saved : SavedState)
    (sessions : List (Option Upload)) : Type 0 where
  pub rows : IsSavedWith saved sessions
  pub open rows use *
  pub stands : AllOpenAt (view map chip) sessions

-- Whether a call adds bytes to an upload.
abbrev pub is_piece : DeviceCall → Bool
is_piece (Piece image more) = true
is_piece other = false

-- A call takes these uploads from the saved state of a booted device. They match the flash, unless
-- the call is a piece: it takes them unchecked.
pub record IsTakenBy (call : DeviceCall) (map : SectorMap) (chip : Chip) (saved : SavedState)
    (sessions : List (Option Upload)) : Type 0 where
  pub rows : IsSavedWith saved sessions
  pub open rows use *
  pub stands : is_piece call ≡ false → AllOpenAt (view map chip) sessions

-- The device that a saved state restores, if these uploads may be taken from it: a booted one with
-- such uploads; or one that isn't booted and has no uploads, if there are none to take.
pub data IsRestored (may_take : List (Option Upload) → Type 0) (device : DeviceView)
    : Type 0 where
  Booted : device.up ≡ true → may_take device.sessions → IsRestored may_take device
  NotBooted : device.up ≡ false → AllClosed device.sessions
      → ((sessions : List (Option Upload)) → may_take sessions → ⊥)
      → IsRestored may_take device

-- The saved state over a flash is this device: a booted one with the saved uploads, if they match
-- the flash; else one that isn't booted and has no uploads.
abbrev pub IsSaved : SectorMap → SavedState → DeviceView → Type 0
IsSaved map saved device = IsRestored (IsSavedBooted map device.flash saved) device

-- A call is made on this device. It is the one that the saved state over the flash is, unless the
-- call is a piece: then the device is booted even if the saved uploads don't match the flash.
abbrev pub IsSavedFor : DeviceCall → SectorMap → SavedState → DeviceView → Type 0
IsSavedFor call map saved device = IsRestored (IsTakenBy call map device.flash saved) device

-- A flash with power that has these bytes, in sectors of the map's size.
pub record IsFlashOf (map : SectorMap) (bytes : List ℕ) (chip : Chip) : Type 0 where
  pub laid_out : IsLaidOut map chip
  pub has : chip.bytes ≡ bytes
  pub on : chip.is_on ≡ true

-- Bytes and a saved state are this device.
pub record IsDeviceOf (map : SectorMap) (bytes : List ℕ) (state : SavedState) (device : DeviceView)
    : Type 0 where
  pub flash : IsFlashOf map bytes device.flash
  pub saved : IsSaved map state device

-- Bytes and a saved state are the device on which a call is made.
pub record IsDeviceFor (call : DeviceCall) (map : SectorMap) (bytes : List ℕ) (state : SavedState)
    (device : DeviceView) : Type 0 where
  pub flash : IsFlashOf map bytes device.flash
  pub saved : IsSavedFor call map state device

-- If the saved state is a booted device, its uploads match the flash of these bytes.
abbrev pub IsMatched : SectorMap → List ℕ → SavedState → Type 0
IsMatched map bytes saved =
    (chip : Chip) → IsFlashOf map bytes chip → (sessions : List (Option Upload))
    → IsSavedWith saved sessions → AllOpenAt (view map chip) sessions

-- The saved state of a device that isn't booted: all zero.
abbrev pub no_device : SavedState
no_device = record { is_booted = 0; unused = replicate 3 0; uploads = replicate 8 no_row }

-- The saved state that a call writes for a device with this table of uploads. If the device isn't
-- booted, it is all zero.
abbrev pub saved_as : List (Option Upload) → Bool → SavedState
saved_as sessions true =
    record { is_booted = 1; unused = replicate 3 0; uploads = map row_of sessions }
saved_as sessions false = no_device

-- A saved state is exactly that of a device with these uploads. If it is booted, its rows save them.
pub record SavesDevice (saved : SavedState) (sessions : List (Option Upload)) (is_booted : Bool)
    : Type 0 where
  pub exact : saved ≡ saved_as sessions is_booted
  pub each : is_booted ≡ true → SaveUploads saved.uploads sessions

-- A saved state is that of a device that isn't booted.
abbrev pub IsNotBooted : SavedState → Type 0
IsNotBooted saved = saved ≡ no_device

-- The device that a call left has these bytes and this saved state. Its flash may be off.
pub record IsLeftIn (map : SectorMap) (bytes : List ℕ) (state : SavedState) (device : DeviceView)
    : Type 0 where
  pub laid_out : IsLaidOut map device.flash
  pub has : device.flash.bytes ≡ bytes
  pub saves : SavesDevice state device.sessions device.up
