-- What a piece of an upload leaves on the flash.
use Rattle.std.specs.Prelude.{◌≡◌, ℕ, List}
use Rattle.upload.specs.View.{View}
use Rattle.upload.specs.Sessions.{IsUploadAt, session_of}
use Rattle.upload.specs.declared.sessions.Upload.{Upload}
use Rattle.machine.specs.Piece.{appended}

-- An upload that is open on the flash received these bytes, and is open there.
abbrev pub TakesMore : View → View → ℕ → Upload → Upload → List ℕ → Type 0
TakesMore old new i before after bytes = (written : List ℕ) → IsUploadAt old i before written
    → (more : List ℕ) × IsUploadAt new i after more
    × (session_of after more ≡ appended (session_of before written) bytes)
