-- The step of a machine that takes a piece of an upload.
use Rattle.std.specs.Prelude.{◌≡◌, ℕ, ◌+◌, ◌<◌, ◌≤◌, ◌==◌, List, ◌++◌, length, Option, Some, None, Result, Ok, Err, if◌then◌else◌}
use Rattle.machine.specs.declared.upload_error.UploadError.{UploadError}
use Rattle.machine.specs.declared.upload_error.UploadError.TheVariants as no
use Rattle.machine.specs.Device.{Machine, Session, closed}

-- The machine with another session of an image.
abbrev pub with_session : Machine → ℕ → Option Session → Machine
with_session m i session = record m { session = λ j. if j == i then session else m.session j }

-- A session that received these bytes too.
abbrev pub appended : Session → List ℕ → Session
appended session bytes = record session { received = session.received ++ bytes }

-- The bytes fit in what is left of a session.
abbrev pub HasRoom : Session → List ℕ → Type 0
HasRoom session bytes = length session.received + length bytes ≤ session.size

-- The bytes are appended; or the image has no session; or they exceed its size, and the session
-- ends. If the flash stops the call, they fit in a session, all sessions end, and nothing kept
-- changes: nothing was requested for the image.
abbrev pub Pieces : Machine → ℕ → List ℕ → Result Unit UploadError → Machine → Type 0
Pieces m i bytes (Ok done) next = (session : Session) × (m.session i ≡ Some session)
    × HasRoom session bytes × (next ≡ with_session m i
    (Some (record session { received = session.received ++ bytes })))
Pieces m i bytes (Err no.NoSession) next = (m.session i ≡ None) × (next ≡ m)
Pieces m i bytes (Err no.TooMuch) next = (session : Session) × (m.session i ≡ Some session)
    × (session.size < length session.received + length bytes)
    × (next ≡ with_session m i None)
Pieces m i bytes (Err (no.Flash error)) next = (session : Session) × (m.session i ≡ Some session)
    × HasRoom session bytes × (m.kept.request i ≡ None) × (next ≡ closed m m.kept)
Pieces m i bytes other next = ⊥
