-- What arguments give, according to the matches that `clap` returns for them.
use Rattle.std.specs.Prelude.{◌≡◌, ℕ, Bool, false, List, Option, Some, None, Vec, codes, count_by, if◌then◌else◌, map, option_map}
use Rattle.std.specs.Borrow.{Bor}
use Rattle.std.specs.Option.{option_map_or}
use Rattle.std.specs.Str.{bytes_eq}
use Rattle.clap.specs.Words.{Row, Text, all_of, first_of, subcommand_of}
use Rattle.clap.specs.declared.error.kind.ErrorKind.{ErrorKind}
use Rattle.clap.specs.declared.error.kind.ErrorKind.TheVariants.{ArgumentConflict, InvalidValue}
use Rattle.command_line.specs.Commands.{bootswap}

-- The matches of a subcommand have this name for an argument.
abbrev pub IsNamed : List Row → Text → Text → Type 0
IsNamed rows argument name = first_of argument rows ≡ Some name

-- The matches of a subcommand have the names of these images.
abbrev pub HasImages : {A : Type 0} → List Row → Option (Vec (Bor Text) A) → Type 0
HasImages rows found =
    option_map (λ images. map (λ image. image.now) images.items) found ≡ all_of (codes "IMAGE") rows

-- Whether the matches have an option without a value.
abbrev pub is_given : Text → List Row → Bool
is_given argument rows = option_map_or (bytes_eq (codes "true")) (first_of argument rows) false

-- Whether the matches of the named subcommand have `--explain`.
abbrev pub has_explain : Option (Text × List Row) → Bool
has_explain None = false
has_explain (Some named) = is_given (codes "explain") named.1

-- Whether the arguments have `--explain`.
abbrev pub is_explained : List Text → Bool
is_explained words = has_explain (subcommand_of bootswap words)

-- Whether the matches of the named subcommand have `--json`.
abbrev pub has_json : Option (Text × List Row) → Bool
has_json None = false
has_json (Some named) = is_given (codes "json") named.1

-- Whether the arguments have `--json`.
abbrev pub is_json : List Text → Bool
is_json words = has_json (subcommand_of bootswap words)

-- The value that was found has the property. If none was found, none has it.
abbrev pub Finds : {T : Type 0} → (T → Type 0) → Option T → Type 0
Finds IsSo None = (one : _) → IsSo one → ⊥
Finds IsSo (Some found) = IsSo found

-- Whether this is the name of standard input, `-`.
abbrev pub is_standard_input : Bor Text → Bool
is_standard_input name = bytes_eq name.now (codes "-")

-- The number of names that are standard input.
abbrev pub standard_inputs : List (Bor Text) → ℕ
standard_inputs names = count_by is_standard_input names

-- The fault of an order that writes standard input or reads it twice.
abbrev pub misuse_kind : Bool → Bool → Option ErrorKind
misuse_kind is_written is_twice =
    if is_written then Some InvalidValue else (if is_twice then Some ArgumentConflict else None)
