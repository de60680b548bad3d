-- Open uploads, on the flash and in a table.
use Rattle.std.specs.Prelude.{◌≡◌, ℕ, ◌+◌, ◌*◌, ◌<◌, ◌≤◌, ◌==◌, true, List, ◌++◌, length, replicate}
use Rattle.std.specs.Prelude.{Option, Some, None, slice_index_or, if◌then◌else◌}
use Rattle.sector_map.specs.declared.layout.Side.TheVariants.{Secondary}
use Rattle.trailer.specs.Fields.{erased_fields}
use Rattle.upload.specs.View.{View}
use Rattle.machine.specs.Device.{Session, Machine}
use Rattle.upload.specs.Steady.{IsSteadyAt}
use Rattle.upload.specs.declared.sessions.Upload.{Upload}

-- The upload of an image in a table.
abbrev pub upload_at : List (Option Upload) → ℕ → Option Upload
upload_at sessions i = slice_index_or sessions i None

-- A table with another upload for one image.
abbrev pub IsWith : ℕ → Option Upload → List (Option Upload) → List (Option Upload) → Type 0
IsWith i upload old new =
    (j : ℕ) → upload_at new j ≡ (if j == i then upload else upload_at old j)

-- No upload is open.
abbrev pub AllClosed : List (Option Upload) → Type 0
AllClosed sessions = (j : ℕ) → upload_at sessions j ≡ None

-- A slot holds these bytes, and is erased after them.
pub record IsWritten (slot front : List ℕ) : Type 0 where
  pub left : ℕ
  pub is : slot ≡ front ++ replicate left 0xff

-- An open upload on the flash: these complete units are written in the slot, the rest of it and the
-- trailer are erased, and the bytes of an incomplete unit are held back.
pub record IsUploadAt (w : View) (i : ℕ) (upload : Upload) (written : List ℕ) : Type 0 where
  pub there : i < w.images
  pub units : (k : ℕ) × (length written ≡ 8 * k)
  pub slot : IsWritten (w.slot i Secondary) written
  pub trailer : w.trailer i Secondary ≡ erased_fields
  pub few : length upload.held.items < 8
  pub count : upload.received ≡ length written + length upload.held.items
  pub fits : upload.received ≤ upload.size
  pub room : upload.size ≤ length (w.slot i Secondary)

-- An upload is open on the flash, whatever was written of it.
abbrev pub IsOpenAt : View → ℕ → Upload → Type 0
IsOpenAt w i upload = (written : List ℕ) × IsUploadAt w i upload written

-- Each upload of a table is open on the flash.
abbrev pub AllOpenAt : View → List (Option Upload) → Type 0
AllOpenAt w sessions =
    (i : ℕ) (upload : Upload) → upload_at sessions i ≡ Some upload → IsOpenAt w i upload

-- The session of an upload of which these bytes were written.
abbrev pub session_of : Upload → List ℕ → Session
session_of upload written = record {
  size = upload.size;
  digest = upload.digest;
  kind = upload.kind;
  received = written ++ upload.held.items;
}

-- An upload of the table, open on the flash, is the session of an image; or there is neither.
abbrev pub HasSession : View → ℕ → Option Upload → Option Session → Type 0
HasSession w i None None = Unit
HasSession w i (Some upload) (Some session) =
    (written : List ℕ) × IsUploadAt w i upload written × (session ≡ session_of upload written)
HasSession w i upload session = ⊥

-- The sessions of a device are the uploads of a table.
pub record HasSessions (w : View) (sessions : List (Option Upload)) (session : ℕ → Option Session)
    : Type 0 where
  pub each : (i : ℕ) → HasSession w i (upload_at sessions i) (session i)

-- A device is booted, at rest without a trial, and has these sessions.
pub record IsUpAt (w : View) (sessions : List (Option Upload)) (m : Machine) : Type 0 where
  pub up : m.is_booted ≡ true
  pub rest : IsSteadyAt w m.kept
  pub open_ones : HasSessions w sessions m.session
