-- What a host is known to hold: the rest of its standard input, and the contents of its files.
use Rattle.std.specs.Prelude.{◌≡◌, ◌≢◌, ℕ, ◌+◌, ◌<◌, ◌≤◌, Bool, List, false, length, Option, IfSome, codes, slice_range, true}
use Rattle.std.specs.Io.KnownBytes.{Keeps}
use Rattle.host.specs.declared.source.Source.{Source}
use Rattle.host.specs.declared.source.Source.TheVariants.{StandardInput, File}

-- A word names this source: `-` is standard input, and any other word is the name of a file.
abbrev pub IsNamed : List ℕ → Source → Type 0
IsNamed word StandardInput = word ≡ codes "-"
IsNamed word (File name) = (word ≢ codes "-") × (name.now ≡ word)

-- Whether a source is standard input.
abbrev pub is_standard_input : Source → Bool
is_standard_input StandardInput = true
is_standard_input (File name) = false

-- Two words name these two sources.
abbrev pub AreNamed : List ℕ → List ℕ → Source → Source → Type 0
AreNamed first second one other = IsNamed first one × IsNamed second other

-- The contents of the files of a host by their names, as far as they are known.
abbrev pub FileBytes : Type 0
FileBytes = List ℕ → Option (List ℕ)

-- If the contents are known, they are these bytes.
abbrev pub IsKnownAs : Option (List ℕ) → List ℕ → Type 0
IsKnownAs known bytes = IfSome known (λ held. bytes ≡ held)

-- These are exactly `count` bytes. If the contents are known, they are those from `from` on.
pub record IsKnownPart (known : Option (List ℕ)) (from count : ℕ) (part : List ℕ) : Type 0 where
  pub many : length part ≡ count
  pub there : IfSome known (λ held. from + count ≤ length held)
  pub same : IfSome known (λ held. part ≡ slice_range held from (from + count))

-- If the contents are known, they end before the `count` bytes from `from` on do.
abbrev pub LacksPart : Option (List ℕ) → ℕ → ℕ → Type 0
LacksPart known from count = IfSome known (λ held. length held < from + count)

-- Each file keeps its known contents.
abbrev pub KeepsFiles : FileBytes → FileBytes → Type 0
KeepsFiles old new = (name : List ℕ) → Keeps (old name) (new name)

-- These bytes are all that a source holds: the rest of standard input, or the file of its name.
abbrev pub Gives : Source → Option (List ℕ) → FileBytes → List ℕ → Type 0
Gives StandardInput input file bytes = IsKnownAs input bytes
Gives (File name) input file bytes = IsKnownAs (file name.now) bytes

-- The bytes that a source holds, as far as they are known.
abbrev pub held_by : Source → Option (List ℕ) → FileBytes → Option (List ℕ)
held_by StandardInput input file = input
held_by (File name) input file = file name.now

-- These are the bytes of two sources that are read one after the other. Nothing is said of the
-- second source if the first is standard input.
abbrev pub GiveBoth : Source → Source → Option (List ℕ) → FileBytes
    → List ℕ → List ℕ → Type 0
GiveBoth StandardInput second input file first_bytes second_bytes =
    Gives StandardInput input file first_bytes
GiveBoth (File name) second input file first_bytes second_bytes =
    Gives (File name) input file first_bytes × Gives second input file second_bytes

-- What a host keeps when a source is read: if the source is a file, everything that is known.
abbrev pub KeepsOthers : Source → Option (List ℕ) → FileBytes
    → Option (List ℕ) → FileBytes → Type 0
KeepsOthers StandardInput input file new_input new_file = Unit {0}
KeepsOthers (File name) input file new_input new_file =
    Keeps input new_input × KeepsFiles file new_file
