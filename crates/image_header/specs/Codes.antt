-- The number and the name of each kind of refused header.
use Rattle.std.specs.Prelude.{ℕ, List, codes}
use Rattle.image_header.specs.declared.error.HeaderError.{HeaderError}
use Rattle.image_header.specs.declared.error.HeaderError.TheVariants.{Short, BadMagic, BadHeaderSize, UnsupportedFlags}

-- The number of a kind.
abbrev pub code_of : HeaderError → ℕ
code_of Short = 1
code_of BadMagic = 2
code_of BadHeaderSize = 3
code_of UnsupportedFlags = 4

-- The name of a kind.
abbrev pub name_of : HeaderError → List ℕ
name_of Short = codes "Short"
name_of BadMagic = codes "BadMagic"
name_of BadHeaderSize = codes "BadHeaderSize"
name_of UnsupportedFlags = codes "UnsupportedFlags"
