-- When a flash can be provisioned, and what provisioning leaves on it.
use Rattle.std.specs.Prelude.{◌≡◌, ℕ, ◌<◌, ◌≤◌, Bool, true, false, List, length, Option, Some, None, Result, Ok, Err}
use Rattle.std.specs.Prelude.{slice_get, slice_index, OnOk, IsErrOf}
use Rattle.flash_model.specs.Chip.{Chip, IsCut, IsUncut}
use Rattle.flash_model.specs.declared.error.FlashError.TheVariants as flash
use Rattle.sector_map.specs.declared.layout.SectorMap.{SectorMap}
use Rattle.sector_map.specs.declared.layout.Side.{Side}
use Rattle.sector_map.specs.declared.layout.Side.TheVariants.{Primary}
use Rattle.sector_map.specs.Part.{Part, Slot, TrailerOf, Scratch, Log}
use Rattle.flash_model.specs.Units.{are_erased}
use Rattle.trailer.specs.Fields.{erased_fields, fields_at, trailer_bytes}
use Rattle.set_log.specs.Log.{state_of}
use Rattle.set_log.specs.declared.state.RecordKind.TheVariants.{Steady}
use Rattle.set_log.specs.declared.state.State.{State}
use Rattle.image_reading.specs.declared.desc.Desc.{Desc}
use Rattle.image_reading.specs.Image.{BeginsIntact, IsIntact}
use Rattle.image_reading.specs.Slot.{slot_bytes}
use Rattle.reports.specs.declared.table.Table.{Table}
use Rattle.reports.specs.declared.table.Image.{Image}
use Rattle.reports.specs.declared.table.Request.TheVariants as request
use Rattle.reports.specs.Combination.{IsValid, running_set}
use Rattle.machine.specs.Device.{DeviceState}
use Rattle.common.specs.Bytes.{Starts}
use Rattle.machine.specs.Finish.{IsImage}
use Rattle.upload.specs.Steady.{IsSteadyAt}
use Rattle.upload.specs.View.{view}
use Rattle.machine.specs.Boots.{IsAllSound, IsSound}
use Rattle.machine.specs.States.{entry_of}
use Rattle.machine.specs.declared.error.Fault.{Fault}
use Rattle.flash_contents.specs.declared.finding.Reading.{Reading}
use Rattle.flash_contents.specs.declared.finding.Reading.TheVariants.{Read, DamagedAt}
use Rattle.machine.specs.declared.error.Fault.TheVariants as no

-- What provisioning writes: all trailers and the log.
abbrev pub provided : Part → Bool
provided (Slot image side) = false
provided (TrailerOf image side) = true
provided Scratch = false
provided Log = true

-- All trailers, and nothing else.
abbrev pub any_trailer : Part → Bool
any_trailer (Slot image side) = false
any_trailer (TrailerOf image side) = true
any_trailer Scratch = false
any_trailer Log = false

-- ---- what is found

-- The bytes of the primary slot of image i.
abbrev pub running_bytes : SectorMap → Chip → ℕ → List ℕ
running_bytes map chip i = slot_bytes map chip i Primary

-- Bytes begin with an intact image.
abbrev pub HoldsImage : List ℕ → Type 0
HoldsImage whole = (description : Desc) × BeginsIntact whole description

-- The row of the image that a slot begins with: no request, and its own counter as the floor.
pub record IsRunningRow (whole : List ℕ) (row : Image) : Type 0 where
  pub description : Desc
  pub begins : BeginsIntact whole description
  pub running : row.running ≡ entry_of description
  pub request : row.request ≡ request.None
  pub floor : row.floor ≡ description.counter

-- The rows of the first n images, by what their primary slots begin with.
pub record AreRunningRows (map : SectorMap) (chip : Chip) (n : ℕ) (rows : List Image)
    : Type 0 where
  pub count : length rows ≡ n
  pub each : (i : ℕ) (row : Image) → slice_get rows i ≡ Some row
      → IsRunningRow (running_bytes map chip i) row

-- The table of the intact images that all primary slots begin with, without requests.
abbrev pub IsRunningTable : SectorMap → Chip → Table → Type 0
IsRunningTable map chip table = AreRunningRows map chip map.images table.images.items

-- Image i is the lowest whose primary slot doesn't begin with an intact image.
pub record IsFirstDamaged (map : SectorMap) (chip : Chip) (i : ℕ) : Type 0 where
  pub there : i < map.images
  pub damaged : HoldsImage (running_bytes map chip i) → ⊥
  pub lower : (j : ℕ) → j < i → HoldsImage (running_bytes map chip j)

-- All primary slots begin with intact images, but these don't meet their dependencies and groups.
abbrev pub IsInvalidThere : SectorMap → Chip → Type 0
IsInvalidThere map chip =
    (table : Table) × IsRunningTable map chip table × (IsValid table running_set → ⊥)

-- All primary slots begin with intact images, which meet their dependencies and groups.
abbrev pub IsValidThere : SectorMap → Chip → Type 0
IsValidThere map chip =
    (table : Table) × IsRunningTable map chip table × IsValid table running_set

-- ---- what is left

-- The state after provisioning: the images that the primary slots begin with run, nothing is
-- requested or on trial, and the floors are their counters, 0 past the last image.
pub record IsFirstState (map : SectorMap) (chip : Chip) (s : DeviceState) : Type 0 where
  pub images : s.images ≡ map.images
  pub running : (i : ℕ) → i < map.images → (bytes : List ℕ) × (s.running i ≡ Some bytes)
      × Starts (running_bytes map chip i) bytes × IsImage bytes
  pub request : (i : ℕ) → s.request i ≡ None
  pub trial : s.trial ≡ None
  pub sequence : s.sequence ≡ 0
  pub floors : (i : ℕ) (bytes : List ℕ) (description : Desc) → i < map.images
      → s.running i ≡ Some bytes → IsIntact bytes description
      → slice_index s.floors i ≡ description.counter
  pub rest : (i : ℕ) → map.images ≤ i → slice_index s.floors i ≡ 0

-- The new flash is at rest in the first state of what ran on the old one, and that state is sound.
abbrev pub IsProvisioned : SectorMap → Chip → Chip → Type 0
IsProvisioned map old new = (s : DeviceState) × IsFirstState map old s
    × IsSteadyAt (view map new) s × IsSound s × IsAllSound s

-- ---- what is answered

-- What each refusal of provisioning says of the old flash, and what it leaves.
abbrev pub RefusesMaking : SectorMap → Chip → Chip → Fault → Type 0
RefusesMaking map old new (no.RunningDamaged i) = IsFirstDamaged map old i × (new ≡ old)
RefusesMaking map old new no.InvalidSet = IsInvalidThere map old × (new ≡ old)
RefusesMaking map old new (no.Flash flash.Cut) = IsValidThere map old × IsCut old new
RefusesMaking map old new (no.Flash flash.Off) = (old.is_on ≡ false) × (new ≡ old)
RefusesMaking map old new other = ⊥

-- What each result of provisioning says of the old flash, and what it leaves.
abbrev pub AnswersMaking : SectorMap → Chip → Chip → Result Unit Fault → Type 0
AnswersMaking map old new (Ok done) =
    IsValidThere map old × IsProvisioned map old new × IsUncut old new
AnswersMaking map old new (Err fault) = RefusesMaking map old new fault

-- The floors are the counters of the running images of these rows, and 0 past the last.
pub record AreCounters (rows : List Image) (floors : List ℕ) : Type 0 where
  pub each : (i : ℕ) (row : Image) → slice_get rows i ≡ Some row
      → slice_index floors i ≡ row.running.counter
  pub rest : (i : ℕ) → length rows ≤ i → slice_index floors i ≡ 0

-- ---- the steps

-- The row of the image that a slot begins with, or None if it begins with no intact image.
abbrev pub IsRowThere : List ℕ → Option Image → Type 0
IsRowThere whole (Some row) = IsRunningRow whole row
IsRowThere whole None = HoldsImage whole → ⊥

-- What reading all primary slots finds: the table, or the lowest image that isn't intact.
abbrev pub IsReadThere : SectorMap → Chip → Reading → Type 0
IsReadThere map chip (Read table) = IsRunningTable map chip table
IsReadThere map chip (DamagedAt i) = IsFirstDamaged map chip i

-- All primary slots begin with intact and valid images, and these are their counters.
abbrev pub HasCounters : SectorMap → Chip → List ℕ → Type 0
HasCounters map chip floors = (table : Table) × IsRunningTable map chip table
    × IsValid table running_set × AreCounters table.images.items floors

-- The result of checking a flash that is only read: the running counters, or the refusal.
abbrev pub IsJudged : SectorMap → Chip → Result (List ℕ) Fault → Type 0
IsJudged map chip (Ok floors) = HasCounters map chip floors
IsJudged map chip (Err fault) = RefusesMaking map chip chip fault

-- The trailer of an image's side is erased, byte for byte, and its fields read as erased.
pub record IsTrailerErased (map : SectorMap) (chip : Chip) (image : ℕ) (side : Side)
    : Type 0 where
  pub bytes : are_erased (trailer_bytes map chip image side) ≡ true
  pub fields : fields_at map chip image side ≡ erased_fields

-- Both trailers of each image below n are erased.
abbrev pub AreCleared : SectorMap → Chip → ℕ → Type 0
AreCleared map chip n =
    (i : ℕ) → i < n → (side : Side) → IsTrailerErased map chip i side

-- The first log record of a device: at rest, with sequence 0 and these floors.
abbrev pub first_record : List ℕ → State
first_record floors = record {
  kind = Steady;
  mask = 0;
  permanent = false;
  left = 0;
  sequence = 0;
  floors = floors;
}

-- All trailers are erased, and the log has its first record.
pub record IsBegunAfresh (map : SectorMap) (floors : List ℕ) (chip : Chip) : Type 0 where
  pub cleared : AreCleared map chip map.images
  pub log : state_of map chip ≡ Some (first_record floors)

-- The device is provisioned, or power failed.
abbrev pub IsDoneOrCut : Result Unit Fault → Type 0
IsDoneOrCut (Ok done) = Unit {0}
IsDoneOrCut (Err fault) = fault ≡ no.Flash flash.Cut

-- How provisioning ends: `Ok` without a power cut, `Cut` after one, `Off` on a flash that is off.
pub record EndsMaking (result : Result Unit Fault) (old new : Chip) : Type 0 where
  pub asleep : old.is_on ≡ false → new ≡ old
  pub uncut : OnOk result (IsUncut old new)
  pub cut : IsErrOf result (no.Flash flash.Cut) → IsCut old new
  pub off : IsErrOf result (no.Flash flash.Off) → old.is_on ≡ false
