-- What a host did besides reading: how it opened files of flashes, and which names it said are of
-- different files.
use Rattle.std.specs.Prelude.{◌≡◌, ◌≢◌, ℕ, List, Option, None, IfSome, IsTrue, Bool}
use Rattle.std.specs.Io.KnownBytes.{Keeps}
use Rattle.host.specs.Input.{FileBytes}
use Rattle.host.specs.declared.host.Access.{Access}
use Rattle.host.specs.declared.host.Access.TheVariants.{Read}
use Rattle.host.specs.declared.source.Source.{Source}
use Rattle.host.specs.declared.source.Source.TheVariants.{StandardInput, File}

-- How a host opened files of flashes: for what it opened the last one, if that is known, and how
-- often it opened one to be written.
pub record Openings : Type 0 where
  pub last : Option Access
  pub to_write : ℕ

-- Nothing is known of an opened file, and none was opened to be written.
abbrev pub no_openings : Openings
no_openings = record { last = None; to_write = 0 }

-- The file of a flash was opened for `access`. If that is `Read`, none was opened to be written.
pub record IsOpenedFor (access : Access) (old new : Openings) : Type 0 where
  pub last : IfSome new.last (λ known. known ≡ access)
  pub to_read : access ≡ Read → new.to_write ≡ old.to_write

-- The host said that two names are of different files, in either order.
abbrev pub AreApart : (List ℕ → List ℕ → Bool) → List ℕ → List ℕ → Type 0
AreApart apart one other = IsTrue (apart one other) × IsTrue (apart other one)

-- The source isn't the file of this name, also if it is read by another name. Nothing is said of
-- standard input.
abbrev pub IsApartFrom : (List ℕ → List ℕ → Bool) → List ℕ → Source → Type 0
IsApartFrom apart name StandardInput = Unit {0}
IsApartFrom apart name (File other) = (other.now ≢ name) × IsTrue (apart name other.now)

-- Each file that the host said isn't the replaced one keeps its known contents.
abbrev pub KeepsApart : (List ℕ → Bool) → FileBytes → FileBytes → Type 0
KeepsApart apart old new = (other : List ℕ) → IsTrue (apart other) → Keeps (old other) (new other)

-- The file that is read keeps its known contents.
abbrev pub KeepsSource : Source → FileBytes → FileBytes → Type 0
KeepsSource StandardInput old new = Unit {0}
KeepsSource (File name) old new = Keeps (old name.now) (new name.now)
