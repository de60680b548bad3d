-- The step of a machine that finishes an upload.
use Rattle.std.specs.Prelude.{◌≡◌, ◌≢◌, ◌⊎◌, ℕ, List, length, Some, None, Result, Ok, Err}
use Rattle.sha2.specs.Sha256.{sha256}
use Rattle.flash_model.specs.declared.error.FlashError.TheVariants as flash
use Rattle.image_reading.specs.Fault.{IsFirstFault}
use Rattle.machine.specs.declared.upload_error.UploadError.{UploadError}
use Rattle.machine.specs.declared.upload_error.UploadError.TheVariants as no
use Rattle.machine.specs.Device.{Machine, Session, Wanted, closed}
use Rattle.machine.specs.Piece.{with_session}
use Rattle.machine.specs.Withdrawal.{with_request}
use Rattle.image_reading.specs.declared.desc.Desc.{Desc}
use Rattle.image_reading.specs.Image.{IsIntact}

-- Bytes are an intact image.
abbrev pub IsImage : List ℕ → Type 0
IsImage bytes = (description : Desc) × IsIntact bytes description

-- The request for the image of a finished upload.
abbrev pub asked : Session → Wanted
asked session = record { bytes = Some session.received; kind = session.kind }

-- An upload has its length and digest (SHA-256, FIPS 180-4), and is an intact image.
pub record IsGoodUpload (session : Session) : Type 0 where
  pub size : length session.received ≡ session.size
  pub digest : sha256 session.received ≡ session.digest
  pub image : IsImage session.received

-- An upload has the length that the manifest gives.
abbrev pub HasSize : Session → Type 0
HasSize session = length session.received ≡ session.size

-- A session ends: its image is requested, or the first check that fails is returned. If the flash
-- stops the call, the length was right, nothing was requested, and all sessions end; a power cut
-- may leave a good upload requested, and nothing else changed.
abbrev pub Finishes : Machine → ℕ → Session → Result Unit UploadError → Machine → Type 0
Finishes m i session (Ok done) next = IsGoodUpload session × (next ≡ with_session
    (record m { kept = with_request m.kept i (Some (asked session)) }) i None)
Finishes m i session (Err no.SizeWrong) next =
    (HasSize session → ⊥) × (next ≡ with_session m i None)
Finishes m i session (Err no.DigestWrong) next = HasSize session
    × (sha256 session.received ≢ session.digest) × (next ≡ with_session m i None)
Finishes m i session (Err (no.NotAnImage fault)) next =
    (HasSize session × (sha256 session.received ≡ session.digest))
    × IsFirstFault session.received fault × (next ≡ with_session m i None)
Finishes m i session (Err (no.Flash flash.Cut)) next = HasSize session × (m.kept.request i ≡ None)
    × ((next ≡ closed m m.kept) ⊎ (IsGoodUpload session
    × (next ≡ closed m (with_request m.kept i (Some (asked session))))))
Finishes m i session (Err (no.Flash flash.Off)) next =
    HasSize session × (m.kept.request i ≡ None) × (next ≡ closed m m.kept)
Finishes m i session other next = ⊥

-- An image's upload is finished: it has no session, or that is finished.
abbrev pub FinishRow : Machine → ℕ → Result Unit UploadError → Machine → Type 0
FinishRow m i result next =
    ((m.session i ≡ None) × (result ≡ Err no.NoSession) × (next ≡ m))
    ⊎ ((session : Session) × (m.session i ≡ Some session) × Finishes m i session result next)
