-- Files that a command reads, apart from the one that it replaces.
use Rattle.std.proofs.Common.{ℕ, List, Bool}
use Rattle.std.specs.Borrow.{Bor}
use Rattle.std.proofs.KnownBytes.{Keeps-trans}
use Rattle.host.specs.Doings.{KeepsApart}
use Rattle.host.specs.Input.{FileBytes, KeepsFiles}
use Rattle.device_commands.specs.ProvisionEnd.{AreOthers, KeepsWords}

-- If all files were kept, those that arguments name were.
pub KeepsWords-kept : (words : List (Bor (List ℕ))) (old new : FileBytes) → KeepsFiles old new → KeepsWords words old new
KeepsWords-kept words old new kept = λ place word at differs. kept word.now

-- If then a file apart from those was replaced, those that arguments name were still kept.
pub KeepsWords-apart : (words : List (Bor (List ℕ))) (apart : List ℕ → Bool) (old mid new : FileBytes)
    → KeepsFiles old mid → AreOthers apart words → KeepsApart apart mid new → KeepsWords words old new
KeepsWords-apart words apart old mid new kept others after = λ place word at differs.
    Keeps-trans (old word.now) (mid word.now) (new word.now) (kept word.now)
    (after word.now (others place word at differs))
