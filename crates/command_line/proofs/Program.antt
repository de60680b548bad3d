-- Laws of the program as `clap` knows it, and of the results of parsing by it.
use Rattle.std.proofs.Common.{◌≡◌, List, [], refl, rules, subst, true}
use Rattle.std.specs.Prelude.{Err, IfErr, IfOk, Ok, Result}
use Rattle.clap.specs.Faults.{is_simple_and_free}
use Rattle.clap.specs.Simple.{is_simple}
use Rattle.clap.specs.Words.{App, FailsBy, HasKind, HasMatchesOf, Text, fault_of, subcommand_of, subcommand_rows_of}
use Rattle.clap.specs.declared.error.Error.{Error}
use Rattle.clap.specs.declared.parser.matches.ArgMatches.{ArgMatches}
use Rattle.command_line.specs.Commands.{bootswap}

is_simple_program : is_simple bootswap ≡ true
is_simple_program = refl

is_free_program : is_simple_and_free bootswap ≡ true
is_free_program = refl

-- The subcommand that is parsed is the one that `clap` defines.
pub subcommand_found : (app : App) (words : List Text) (parsed : Result ArgMatches Error) → app ≡ bootswap
    → IfOk parsed (HasMatchesOf app words)
    → IfOk parsed (λ found. subcommand_rows_of found ≡ subcommand_of bootswap words)
subcommand_found app words (Ok found) same matches =
    let of_program = subst (λ (a : App). HasMatchesOf a words found) same matches in
    (of_program is_simple_program).1
subcommand_found app words (Err error) same matches = matches

error_of : {T : Type 0} (words : List Text) (parsed : Result T Error) → FailsBy (fault_of bootswap words) parsed
    → IfErr parsed (HasKind (fault_of bootswap words))
error_of words (Ok value) fails = search rules
error_of words (Err error) fails = fails

-- Parsing fails as `clap` defines, or out of memory.
pub fault_found : {T : Type 0} (app : App) (words : List Text) (parsed : Result T Error) → app ≡ bootswap
    → (is_simple_and_free app ≡ true → FailsBy (fault_of app words) parsed)
    → IfErr parsed (HasKind (fault_of bootswap words))
fault_found app words parsed same kinds =
    let of_program = subst (λ (a : App). is_simple_and_free a ≡ true → FailsBy (fault_of a words) parsed) same kinds in
    error_of words parsed (of_program is_free_program)

untroubled : {T : Type 0} (words : List Text) (parsed : Result T Error) → FailsBy (fault_of bootswap words) parsed
    → IfOk parsed (λ _. fault_of bootswap words ≡ [])
untroubled words (Ok value) fails = fails
untroubled words (Err error) fails = search rules

-- Parsing succeeds only if `clap` defines no fault.
pub none_found : {T : Type 0} (app : App) (words : List Text) (parsed : Result T Error) → app ≡ bootswap
    → (is_simple_and_free app ≡ true → FailsBy (fault_of app words) parsed)
    → IfOk parsed (λ _. fault_of bootswap words ≡ [])
none_found app words parsed same kinds =
    let of_program = subst (λ (a : App). is_simple_and_free a ≡ true → FailsBy (fault_of a words) parsed) same kinds in
    untroubled words parsed (of_program is_free_program)
