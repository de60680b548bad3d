-- The number and the name of each refusal.
use Rattle.std.specs.Prelude.{ℕ, ◌-◌, List, [], ◌∷◌, codes, get_or}
use Rattle.manifest.specs.declared.error.ManifestError.{ManifestError}
use Rattle.manifest.specs.declared.error.ManifestError.TheVariants.{NotJson, BadKey, BadValue, WrongVendor, WrongClass, NoComponent, RepeatedComponent, NoMemory}

-- The number of a kind. The lowest refusal that applies is the error.
abbrev pub code_of : ManifestError → ℕ
code_of NotJson = 1
code_of BadKey = 2
code_of BadValue = 3
code_of WrongVendor = 4
code_of WrongClass = 5
code_of NoComponent = 6
code_of RepeatedComponent = 7
code_of NoMemory = 8

-- The names of the kinds, as programs print them, in the order of their numbers.
abbrev pub names : List (List ℕ)
names =
    codes "NotJson" ∷ codes "BadKey" ∷ codes "BadValue" ∷ codes "WrongVendor" ∷ codes "WrongClass"
    ∷ codes "NoComponent" ∷ codes "RepeatedComponent" ∷ codes "NoMemory" ∷ []

-- The name of a kind, as programs print it.
abbrev pub name_of : ManifestError → List ℕ
name_of kind = get_or names (code_of kind - 1) []
