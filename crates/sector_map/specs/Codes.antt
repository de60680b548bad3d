-- The number and the name of each error of sizes that make no map.
use Rattle.std.specs.Prelude.{ℕ, List, codes}
use Rattle.sector_map.specs.declared.error.MapError.{MapError}
use Rattle.sector_map.specs.declared.error.MapError.TheVariants.{BadSector, BadCount, TrailerFull, TooLarge}

-- The number of an error.
abbrev pub code_of : MapError → ℕ
code_of BadSector = 1
code_of BadCount = 2
code_of TrailerFull = 3
code_of TooLarge = 4

-- The name of an error, as it is printed.
abbrev pub name_of : MapError → List ℕ
name_of BadSector = codes "BadSector"
name_of BadCount = codes "BadCount"
name_of TrailerFull = codes "TrailerFull"
name_of TooLarge = codes "TooLarge"
