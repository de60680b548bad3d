-- Laws of sources that are read one after the other.
use Rattle.std.proofs.Common.{ℕ, List, [], ◌∷◌, Bool, Option, None, Some, refl, ◌∙◌}
use Rattle.std.specs.Io.KnownBytes.{Keeps}
use Rattle.host.specs.declared.source.Source.{Source}
use Rattle.host.specs.declared.source.Source.TheVariants.{StandardInput, File}
use Rattle.host.specs.Input.{FileBytes, GiveBoth, Gives, IsKnownAs, KeepsFiles, KeepsOthers}
use Rattle.host.specs.Doings.{IsApartFrom, KeepsApart, KeepsSource}
use Rattle.host.specs.Inputs.{GiveEach}

-- If known contents were kept, what is known after the call was known before it.
pub IsKnownAs-kept : (old new : Option (List ℕ)) (bytes : List ℕ)
    → Keeps old new → IsKnownAs new bytes → IsKnownAs old bytes
IsKnownAs-kept None new bytes kept known = tt
IsKnownAs-kept (Some xs) None bytes kept known = absurd kept
IsKnownAs-kept (Some xs) (Some ys) bytes kept known = known ∙ kept

-- If a call kept everything, a source gives the same bytes before and after it.
pub Gives-kept : (source : Source) (input new_input : Option (List ℕ)) (file new_file : FileBytes)
    (bytes : List ℕ) → Keeps input new_input → KeepsFiles file new_file
    → Gives source new_input new_file bytes → Gives source input file bytes
Gives-kept StandardInput input new_input file new_file bytes input_kept files_kept given =
    IsKnownAs-kept input new_input bytes input_kept given
Gives-kept (File name) input new_input file new_file bytes input_kept files_kept given =
    IsKnownAs-kept (file name.now) (new_file name.now) bytes (files_kept name.now) given

-- Two sources are read one after the other.
pub GiveBoth-read : (first second : Source) (input mid_input : Option (List ℕ))
    (file mid_file : FileBytes) (bytes more : List ℕ)
    → Gives first input file bytes → KeepsOthers first input file mid_input mid_file
    → Gives second mid_input mid_file more → GiveBoth first second input file bytes more
GiveBoth-read StandardInput second input mid_input file mid_file bytes more given kept then = given
GiveBoth-read (File name) second input mid_input file mid_file bytes more given kept then =
    (given, Gives-kept second input mid_input file mid_file more kept.0 kept.1 then)

-- If a call kept everything, several sources give the same bytes before and after it.
pub GiveEach-kept : (sources : List Source) (input new_input : Option (List ℕ))
    (file new_file : FileBytes) (contents : List (List ℕ)) → Keeps input new_input
    → KeepsFiles file new_file → GiveEach sources new_input new_file contents
    → GiveEach sources input file contents
GiveEach-kept [] input new_input file new_file [] input_kept files_kept given = tt
GiveEach-kept [] input new_input file new_file (bytes ∷ more) input_kept files_kept given = given
GiveEach-kept (source ∷ rest) input new_input file new_file [] input_kept files_kept given = given
GiveEach-kept (StandardInput ∷ rest) input new_input file new_file (bytes ∷ more) input_kept files_kept given =
    Gives-kept StandardInput input new_input file new_file bytes input_kept files_kept given
GiveEach-kept (File name ∷ rest) input new_input file new_file (bytes ∷ more) input_kept files_kept given = (
  Gives-kept (File name) input new_input file new_file bytes input_kept files_kept given.0,
  GiveEach-kept rest input new_input file new_file more input_kept files_kept given.1,
)

-- A source is read, and then the others.
pub GiveEach-read : (source : Source) (rest : List Source) (input mid_input : Option (List ℕ))
    (file mid_file : FileBytes) (bytes : List ℕ) (more : List (List ℕ))
    → Gives source input file bytes → KeepsOthers source input file mid_input mid_file
    → GiveEach rest mid_input mid_file more → GiveEach (source ∷ rest) input file (bytes ∷ more)
GiveEach-read StandardInput rest input mid_input file mid_file bytes more given kept then = given
GiveEach-read (File name) rest input mid_input file mid_file bytes more given kept then =
    (given, GiveEach-kept rest input mid_input file mid_file more kept.0 kept.1 then)

-- A single source is read.
pub GiveEach-one : (source : Source) (input : Option (List ℕ)) (file : FileBytes) (bytes : List ℕ)
    → Gives source input file bytes → GiveEach (source ∷ []) input file (bytes ∷ [])
GiveEach-one StandardInput input file bytes given = given
GiveEach-one (File name) input file bytes given = (given, tt)

-- What two calls kept one after the other is kept by both together.
pub kept_twice : (known mid new : Option (List ℕ)) → Keeps known mid → Keeps mid new → Keeps known new
kept_twice None mid new first second = tt
kept_twice (Some xs) None new first second = absurd first
kept_twice (Some xs) (Some ys) None first second = second
kept_twice (Some xs) (Some ys) (Some zs) first second = second ∙ first

pub kept_itself : (known : Option (List ℕ)) → Keeps known known
kept_itself None = tt
kept_itself (Some xs) = refl

pub KeepsFiles-itself : (files : FileBytes) → KeepsFiles files files
KeepsFiles-itself files = λ name. kept_itself (files name)

pub KeepsFiles-twice : (old mid new : FileBytes) → KeepsFiles old mid → KeepsFiles mid new
    → KeepsFiles old new
KeepsFiles-twice old mid new first second =
    λ name. kept_twice (old name) (mid name) (new name) (first name) (second name)

-- If a call kept all files, it kept the file that is read, and the files apart from a name.
pub KeepsSource-kept : (source : Source) (old new : FileBytes) → KeepsFiles old new
    → KeepsSource source old new
KeepsSource-kept StandardInput old new kept = tt
KeepsSource-kept (File name) old new kept = kept name.now

-- If a replaced file isn't the source, the source keeps its contents.
pub KeepsSource-apart : (source : Source) (name : List ℕ) (apart : List ℕ → List ℕ → Bool)
    (old mid new : FileBytes) → KeepsFiles old mid → IsApartFrom apart name source
    → KeepsApart (apart name) mid new → KeepsSource source old new
KeepsSource-apart StandardInput name apart old mid new kept other after = tt
KeepsSource-apart (File word) name apart old mid new kept other after =
    kept_twice (old word.now) (mid word.now) (new word.now) (kept word.now) (after word.now other.1)
