-- When a flash and a device hold a state.
use Rattle.std.specs.Prelude.{◌≡◌, ◌⊎◌, ℕ, ◌<◌, Bool, true, false, List, Option, Some, None}
use Rattle.flash_model.specs.Chip.{Chip}
use Rattle.sector_map.specs.declared.layout.SectorMap.{SectorMap}
use Rattle.sector_map.specs.declared.layout.Side.TheVariants.{Primary, Secondary}
use Rattle.common.specs.Masks.{is_member}
use Rattle.trailer.specs.declared.kinds.Magic.TheVariants.{Good, Unset}
use Rattle.trailer.specs.Settled.{IsSettled}
use Rattle.set_log.specs.declared.state.RecordKind.{RecordKind}
use Rattle.set_log.specs.declared.state.RecordKind.TheVariants as log
use Rattle.swap_scratch.specs.Swap.{IsSwapAt}
use Rattle.reports.specs.declared.table.Table.{Table}
use Rattle.upload.specs.declared.sessions.Upload.{Upload}
use Rattle.upload.specs.View.{View, view}
use Rattle.machine.specs.Device.{DeviceState, Machine, Trial}
use Rattle.upload.specs.Steady.{IsFront, IsImageAt, IsSteadyAt, logged}
use Rattle.upload.specs.Sessions.{AllClosed, HasSessions}
use Rattle.machine.specs.States.{wanted_bytes}
use Rattle.machine.specs.Boots.{IsDecision, GoesBack}

-- ---- at rest

-- An image is on trial on the flash, whatever its secondary trailer holds.
pub record IsTriedAt (w : View) (s : DeviceState) (trial : Trial) (i : ℕ) : Type 0 where
  pub running : IsFront (w.slot i Primary) (s.running i)
  pub old : IsFront (w.slot i Secondary) (Some (trial.old i))
  pub confirmed : (w.trailer i Primary).image_ok ≡ trial.confirmed i
  pub good : (w.trailer i Primary).magic ≡ Good
  pub copied : (w.trailer i Primary).copy_done ≡ true

-- A trial is on the flash, whatever the secondary trailers of its set hold.
pub record IsTrialOpen (w : View) (s : DeviceState) (t : Trial) : Type 0 where
  pub trial : s.trial ≡ Some t
  pub images : w.images ≡ s.images
  -- Permanence means nothing in the record of a trial: it may say either.
  pub permanent : Bool
  pub log : w.log ≡ Some (logged log.Trial t.set permanent t.left s)
  pub within : (i : ℕ) → is_member t.set i ≡ true → i < s.images
  pub tried : (i : ℕ) → is_member t.set i ≡ true → IsTriedAt w s t i
  -- Nothing is requested for the set.
  pub gone : (i : ℕ) → is_member t.set i ≡ true → s.request i ≡ None
  pub others : (i : ℕ) → i < s.images → is_member t.set i ≡ false → IsImageAt w s i

-- A trial is at rest on the flash: the secondary trailers of its set have no magic.
pub record IsTrialAt (w : View) (s : DeviceState) (trial : Trial) : Type 0 where
  pub opened : IsTrialOpen w s trial
  pub unset : (i : ℕ) → is_member trial.set i ≡ true
      → (w.trailer i Secondary).magic ≡ Unset

-- What a flash holds while the device is booted: a state at rest, without a trial or with one.
abbrev pub IsAtRest : View → DeviceState → Type 0
IsAtRest w s = IsSteadyAt w s ⊎ ((trial : Trial) × IsTrialAt w s trial)

-- ---- an upgrade

-- A decision is recorded, its swap under way: x was in the primary slots, y in the secondary ones.
pub record IsSwapping (map : SectorMap) (chip : Chip) (s : DeviceState) (table : Table)
    (mask : ℕ) (permanent : Bool) (x y : ℕ → List ℕ) : Type 0 where
  pub trial : s.trial ≡ None
  pub images : (view map chip).images ≡ s.images
  pub log : (view map chip).log ≡ Some (logged log.Swap mask permanent 0 s)
  pub decision : IsDecision s table mask permanent
  pub place : IsSwapAt map chip Primary mask x y
  pub ran : (i : ℕ) → is_member mask i ≡ true → IsFront (x i) (s.running i)
  pub asked : (i : ℕ) → is_member mask i ≡ true → IsFront (y i) (wanted_bytes (s.request i))
  pub others : (i : ℕ) → i < s.images → is_member mask i ≡ false
      → IsImageAt (view map chip) s i

-- The set of a decision is swapped, and the record is of this kind: still Swap, or Settle.
pub record IsSwapped (w : View) (s : DeviceState) (table : Table) (kind : RecordKind) (mask : ℕ)
    (permanent : Bool) : Type 0 where
  pub trial : s.trial ≡ None
  pub images : w.images ≡ s.images
  pub log : w.log ≡ Some (logged kind mask permanent 0 s)
  pub decision : IsDecision s table mask permanent
  pub ran : (i : ℕ) → is_member mask i ≡ true → IsFront (w.slot i Secondary) (s.running i)
  pub asked : (i : ℕ) → is_member mask i ≡ true
      → IsFront (w.slot i Primary) (wanted_bytes (s.request i))
  pub others : (i : ℕ) → i < s.images → is_member mask i ≡ false → IsImageAt w s i

-- The trailers of image i are settled, with `image_ok` exactly if permanent.
pub record IsSettledAt (w : View) (i : ℕ) (permanent : Bool) : Type 0 where
  pub both : IsSettled permanent (w.trailer i Primary) (w.trailer i Secondary)

-- The trailers of each image of a set are settled.
pub record AreSettled (w : View) (mask : ℕ) (permanent : Bool) : Type 0 where
  pub each : (i : ℕ) → i < w.images → is_member mask i ≡ true → IsSettledAt w i permanent

-- ---- a revert

-- A revert is recorded, its swap under way: x was primary, and y, the old images, secondary.
pub record IsSwappingBack (map : SectorMap) (chip : Chip) (s : DeviceState) (trial : Trial)
    (x y : ℕ → List ℕ) : Type 0 where
  pub goes : GoesBack s trial
  pub images : (view map chip).images ≡ s.images
  -- Permanence means nothing in this record: it may say either.
  pub permanent : Bool
  pub log : (view map chip).log ≡ Some (logged log.Back trial.set permanent 0 s)
  pub within : (i : ℕ) → is_member trial.set i ≡ true → i < s.images
  pub place : IsSwapAt map chip Secondary trial.set x y
  pub old : (i : ℕ) → is_member trial.set i ≡ true → IsFront (y i) (Some (trial.old i))
  pub others : (i : ℕ) → i < s.images → is_member trial.set i ≡ false
      → IsImageAt (view map chip) s i

-- The set of a trial is swapped back, and the record is of this kind: still Back, or BackSettle.
pub record IsSwappedBack (w : View) (s : DeviceState) (trial : Trial) (kind : RecordKind)
    : Type 0 where
  pub goes : GoesBack s trial
  pub images : w.images ≡ s.images
  -- Permanence means nothing in these records: it may say either.
  pub permanent : Bool
  pub log : w.log ≡ Some (logged kind trial.set permanent 0 s)
  pub within : (i : ℕ) → is_member trial.set i ≡ true → i < s.images
  pub old : (i : ℕ) → is_member trial.set i ≡ true
      → IsFront (w.slot i Primary) (Some (trial.old i))
  pub others : (i : ℕ) → i < s.images → is_member trial.set i ≡ false → IsImageAt w s i

-- ---- what a flash and a device hold

-- A flash holds a state, at rest or during a boot; the log's record says how far the boot got.
pub data Stands (map : SectorMap) (chip : Chip) (s : DeviceState) : Type 0 where
  Rests : IsSteadyAt (view map chip) s → Stands map chip s
  Tries : (trial : Trial) → IsTrialAt (view map chip) s trial → Stands map chip s
  Swaps : (table : Table) (mask : ℕ) (permanent : Bool) (x y : ℕ → List ℕ)
      → IsSwapping map chip s table mask permanent x y → Stands map chip s
  Settles : (table : Table) (mask : ℕ) (permanent : Bool)
      → IsSwapped (view map chip) s table log.Settle mask permanent → Stands map chip s
  Opens : (trial : Trial) → GoesBack s trial → IsTrialOpen (view map chip) s trial
      → Stands map chip s
  SwapsBack : (trial : Trial) (x y : ℕ → List ℕ) → IsSwappingBack map chip s trial x y
      → Stands map chip s
  SettlesBack : (trial : Trial) → IsSwappedBack (view map chip) s trial log.BackSettle
      → Stands map chip s

-- The state of a device: its flash, its table of uploads, and whether it is booted.
pub record DeviceView : Type 0 where
  pub flash : Chip
  pub sessions : List (Option Upload)
  pub up : Bool

-- A device holds a state: its flash and uploads do; booted it is at rest, else no upload is open.
pub record Holds (map : SectorMap) (d : DeviceView) (m : Machine) : Type 0 where
  pub stands : Stands map d.flash m.kept
  pub is_booted : m.is_booted ≡ d.up
  pub rest : m.is_booted ≡ true → IsAtRest (view map d.flash) m.kept
  pub open_ones : HasSessions (view map d.flash) d.sessions m.session
  pub closed : m.is_booted ≡ false → AllClosed d.sessions
