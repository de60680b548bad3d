-- Fleets: devices by name, each with the lines of its table.
use Rattle.std.specs.Prelude.{◌≡◌, ℕ, ◌<◌, ◌≤◌, Bool, ◌&&◌, IsTrue, List, [], ◌∷◌, ◌++◌, length, codes, nat_le}
use Rattle.std.specs.List.{AllByRecursion, flat_map, list_all}
use Rattle.common.specs.Lines.{◌␣◌, lines_of}

-- Whether a name may have this byte: from `!` (0x21) to `~` (0x7e).
abbrev pub is_name_byte : ℕ → Bool
is_name_byte b = nat_le 33 b && nat_le b 126

-- A name of a device: 1 to 255 such bytes.
pub record IsName (name : List ℕ) : Type 0 where
  pub some : 1 ≤ length name
  pub few : length name ≤ 255
  pub bytes : IsTrue (list_all is_name_byte name)

-- A line begins the device of this name.
pub record BeginsDevice (line name : List ℕ) : Type 0 where
  pub spelled : line ≡ codes "device" ␣ name
  pub named : IsName name

-- A line begins no device.
abbrev pub BeginsNone : List ℕ → Type 0
BeginsNone line = (name : List ℕ) → BeginsDevice line name → ⊥

-- A device: its name, and the lines of its table.
pub record Device : Type 0 where
  pub name : List ℕ
  pub table : List (List ℕ)

-- Its name is one, and no line of its table begins a device.
pub record IsDevice (device : Device) : Type 0 where
  pub named : IsName device.name
  pub table : AllByRecursion BeginsNone device.table

-- The lines of a device in a fleet: the one that begins it, and those of its table.
abbrev pub device_lines : Device → List (List ℕ)
device_lines device = (codes "device" ␣ device.name) ∷ device.table

-- A device with one more line of its table.
abbrev pub with_line : Device → List ℕ → Device
with_line device line = record { name = device.name; table = device.table ++ line ∷ [] }

-- The lines after those of some devices: the next device begins, or there are none.
abbrev pub BeginsNext : List (List ℕ) → Type 0
BeginsNext [] = Unit {0}
BeginsNext (line ∷ lines) = (name : List ℕ) × BeginsDevice line name

-- The lines begin with these devices. The table of each is complete: after it the next device
-- begins, or the lines end.
pub record BeginWith (lines : List (List ℕ)) (devices : List Device) : Type 0 where
  pub each : AllByRecursion IsDevice devices
  pub rest : List (List ℕ)
  pub split : lines ≡ flat_map device_lines devices ++ rest
  pub complete : 0 < length devices → BeginsNext rest

-- A text of a fleet: its lines are those of the devices, one after the other.
pub record IsFleetText (bytes : List ℕ) (devices : List Device) : Type 0 where
  pub each : AllByRecursion IsDevice devices
  pub lines : lines_of bytes ≡ flat_map device_lines devices
