-- The words of several sources, and the bytes of these sources.
use Rattle.std.specs.Prelude.{ℕ, List, [], ◌∷◌, Option, map}
use Rattle.std.specs.Borrow.{Bor}
use Rattle.host.specs.declared.source.Source.{Source}
use Rattle.host.specs.declared.source.Source.TheVariants.{StandardInput, File}
use Rattle.host.specs.Input.{FileBytes, Gives}

-- The words that these references lead to.
abbrev pub names_of : List (Bor (List ℕ)) → List (List ℕ)
names_of words = map (λ word. word.now) words

-- These are the bytes of sources that are read one after the other. Nothing is said of the sources
-- after standard input.
abbrev pub GiveEach : List Source → Option (List ℕ) → FileBytes → List (List ℕ) → Type 0
GiveEach [] input file [] = Unit {0}
GiveEach [] input file (bytes ∷ more) = ⊥
GiveEach (source ∷ rest) input file [] = ⊥
GiveEach (StandardInput ∷ rest) input file (bytes ∷ more) = Gives StandardInput input file bytes
GiveEach (File name ∷ rest) input file (bytes ∷ more) =
    Gives (File name) input file bytes × GiveEach rest input file more
