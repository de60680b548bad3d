-- The numbers and the names of the errors of an image and of a slot.
use Rattle.std.specs.Prelude.{ℕ, ◌-◌, List, [], ◌∷◌, codes, get_or}
use Rattle.image_reading.specs.declared.error.ImageError.{ImageError}
use Rattle.image_reading.specs.declared.error.ImageError.TheVariants as image_error
use Rattle.image_reading.specs.declared.error.SlotError.{SlotError}
use Rattle.image_reading.specs.declared.error.SlotError.TheVariants as slot_error

-- The number of an image's error. The checks are made in another order: that of `IsFirstFault`.
abbrev pub code_of : ImageError → ℕ
code_of image_error.Short = 1
code_of image_error.BadMagic = 2
code_of image_error.BadHeaderSize = 3
code_of image_error.UnsupportedFlags = 4
code_of image_error.Truncated = 5
code_of image_error.BadTlvMagic = 6
code_of image_error.BadTlvSize = 7
code_of image_error.NoDigest = 8
code_of image_error.TwoDigests = 9
code_of image_error.BadDigest = 10
code_of image_error.BadDependency = 11
code_of image_error.TooManyDependencies = 12
code_of image_error.TrailingBytes = 13
code_of image_error.BadCounter = 14
code_of image_error.TooManyGroups = 15

-- The names of an image's errors, as programs print them, in the order of their numbers.
abbrev pub names : List (List ℕ)
names =
    codes "Short" ∷ codes "BadMagic" ∷ codes "BadHeaderSize" ∷ codes "UnsupportedFlags"
    ∷ codes "Truncated" ∷ codes "BadTlvMagic" ∷ codes "BadTlvSize" ∷ codes "NoDigest"
    ∷ codes "TwoDigests" ∷ codes "BadDigest" ∷ codes "BadDependency" ∷ codes "TooManyDependencies"
    ∷ codes "TrailingBytes" ∷ codes "BadCounter" ∷ codes "TooManyGroups" ∷ []

-- The name of an image's error.
abbrev pub name_of : ImageError → List ℕ
name_of kind = get_or names (code_of kind - 1) []

-- The number of a slot's error.
abbrev pub slot_code_of : SlotError → ℕ
slot_code_of (slot_error.Image fault) = 1
slot_code_of (slot_error.Flash error) = 2
slot_code_of slot_error.NoMemory = 3

-- The name of a slot's error.
abbrev pub slot_name_of : SlotError → List ℕ
slot_name_of (slot_error.Image fault) = codes "Image"
slot_name_of (slot_error.Flash error) = codes "Flash"
slot_name_of slot_error.NoMemory = codes "NoMemory"
