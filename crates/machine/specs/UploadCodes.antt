-- The number and the name of each reason why an upload is refused.
use Rattle.std.specs.Prelude.{ℕ, ◌-◌, List, [], ◌∷◌, codes, get_or}
use Rattle.machine.specs.declared.upload_error.UploadError.{UploadError}
use Rattle.machine.specs.declared.upload_error.UploadError.TheVariants.{OldSequence, TooBig, NoSession, TooMuch, SizeWrong, DigestWrong, NotAnImage, WrongPrecursor, NothingRequested, Flash, NoMemory}

-- The number of a kind.
abbrev pub code_of : UploadError → ℕ
code_of OldSequence = 1
code_of TooBig = 2
code_of NoSession = 3
code_of TooMuch = 4
code_of SizeWrong = 5
code_of DigestWrong = 6
code_of (NotAnImage fault) = 7
code_of WrongPrecursor = 8
code_of NothingRequested = 9
code_of (Flash error) = 10
code_of NoMemory = 11

-- The names of the kinds, as programs print them, in the order of their numbers.
abbrev pub names : List (List ℕ)
names =
    codes "OldSequence" ∷ codes "TooBig" ∷ codes "NoSession" ∷ codes "TooMuch" ∷ codes "SizeWrong"
    ∷ codes "DigestWrong" ∷ codes "NotAnImage" ∷ codes "WrongPrecursor" ∷ codes "NothingRequested"
    ∷ codes "Flash" ∷ codes "NoMemory" ∷ []

-- The name of a kind, as it is printed.
abbrev pub name_of : UploadError → List ℕ
name_of kind = get_or names (code_of kind - 1) []
