-- The number and the name of each reason why a device refuses a call.
use Rattle.std.specs.Prelude.{ℕ, ◌-◌, List, [], ◌∷◌, codes, get_or}
use Rattle.machine.specs.declared.error.Fault.{Fault}
use Rattle.machine.specs.declared.error.Fault.TheVariants.{NotBooted, OnTrial, NotOnTrial, NotProvisioned}
use Rattle.machine.specs.declared.error.Fault.TheVariants.{RunningDamaged, InvalidSet, Flash, NoMemory, Manifest}
use Rattle.machine.specs.declared.error.Fault.TheVariants.{Upload}

-- The number of a kind.
abbrev pub code_of : Fault → ℕ
code_of NotBooted = 1
code_of OnTrial = 2
code_of NotOnTrial = 3
code_of NotProvisioned = 4
code_of (RunningDamaged image) = 5
code_of InvalidSet = 6
code_of (Flash error) = 7
code_of NoMemory = 8
code_of (Manifest error) = 9
code_of (Upload error) = 10

-- The names of the kinds, as programs print them, in the order of their numbers.
abbrev pub names : List (List ℕ)
names =
    codes "NotBooted" ∷ codes "OnTrial" ∷ codes "NotOnTrial" ∷ codes "NotProvisioned"
    ∷ codes "RunningDamaged" ∷ codes "InvalidSet" ∷ codes "Flash" ∷ codes "NoMemory"
    ∷ codes "Manifest" ∷ codes "Upload" ∷ []

-- The name of a kind, as it is printed.
abbrev pub name_of : Fault → List ℕ
name_of kind = get_or names (code_of kind - 1) []
