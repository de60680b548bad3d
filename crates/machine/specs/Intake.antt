-- The steps of a machine that takes a manifest, a piece, the end of an upload, or a withdrawal.
use Rattle.std.specs.Prelude.{◌≡◌, ℕ, true, false, List, Some, None, Result, Ok, Err, Bool}
use Rattle.sector_map.specs.declared.layout.SectorMap.{SectorMap}
use Rattle.flash_model.specs.declared.error.FlashError.TheVariants as flash
use Rattle.manifest.specs.declared.identity.Identity.{Identity}
use Rattle.manifest.specs.declared.manifest.Manifest.{Manifest}
use Rattle.manifest.specs.Fault.{IsManifest, IsRefusal}
use Rattle.machine.specs.declared.upload_error.UploadError.{UploadError}
use Rattle.machine.specs.declared.upload_error.UploadError.TheVariants as upload
use Rattle.machine.specs.Device.{Machine, Trial}
use Rattle.machine.specs.Accepted.{Accepts}
use Rattle.machine.specs.States.{asleep}
use Rattle.machine.specs.declared.error.Fault.TheVariants as no
use Rattle.machine.specs.declared.reply.Reply.{Reply}
use Rattle.machine.specs.declared.reply.Reply.TheVariants.{Done, Refused}

-- What a device is made with: its map, its identity, and how many boots a trial has, 1 to 7.
pub record Setup : Type 0 where
  pub map : SectorMap
  pub identity : Identity
  pub boots : ℕ

-- A device takes uploads: it is booted, and nothing is on trial.
pub record IsReady (m : Machine) : Type 0 where
  pub up : m.is_booted ≡ true
  pub rest : m.kept.trial ≡ None

-- Whether the flash stopped a call, by a power cut or because it was off.
abbrev pub is_flash : {T : Type 0} → Result T UploadError → Bool
is_flash (Err (upload.Flash error)) = true
is_flash other = false

-- The step of an upload call, by its result.
abbrev pub Row : Type 1
Row = Result Unit UploadError → Machine → Type 0

-- A complete step of uploads: the refusals of the device come first, then those of the upload.
abbrev pub Uploads : Row → Machine → Reply → Machine → Type 0
Uploads row m Done next = IsReady m × row (Ok tt) next
Uploads row m (Refused no.NotBooted) next = (m.is_booted ≡ false) × (next ≡ m)
Uploads row m (Refused no.OnTrial) next = (m.is_booted ≡ true)
    × ((trial : Trial) × (m.kept.trial ≡ Some trial)) × (next ≡ m)
Uploads row m (Refused (no.Upload error)) next =
    IsReady m × (is_flash {T = Unit} (Err error) ≡ false) × row (Err error) next
Uploads row m other next = ⊥

-- An interrupted step of uploads: the sessions end, and the device isn't booted.
abbrev pub IsUploadsCut : Row → Machine → Machine → Type 0
IsUploadsCut row m next = IsReady m
    × ((mid : Machine) × row (Err (upload.Flash flash.Cut)) mid × (next ≡ asleep mid.kept))

-- ---- manifests

-- The bytes are a manifest for this device, and the step is how it accepts or refuses that.
abbrev pub TakesManifest : Setup → Machine → List ℕ → Row
TakesManifest setup m bytes result next = (manifest : Manifest)
    × IsManifest setup.identity bytes manifest
    × Accepts setup.map m manifest.sequence manifest.components.items result next

-- A manifest arrives: refusals of the device come first, then of the manifest, then of the upload.
-- If memory runs out while its text is read, nothing changes.
abbrev pub TakesText : Setup → Machine → List ℕ → Reply → Machine → Type 0
TakesText setup m bytes (Refused (no.Manifest fault)) next =
    IsReady m × IsRefusal setup.identity bytes fault × (next ≡ m)
TakesText setup m bytes (Refused no.NoMemory) next = IsReady m × (next ≡ m)
TakesText setup m bytes reply next = Uploads (TakesManifest setup m bytes) m reply next
