use Rattle.std.proofs.Common.{◌≡◌, ◌∙◌, [], ap, map, sym}
use Rattle.std.specs.Prelude.{option_map, unwrap_or}
use Rattle.clap.specs.Words.{found_of, rows_of}
use Rattle.command_line.specs.Orders.{texts_at}
use Rattle.arguments.proofs.word_values.values_in.Goals as goal

-- The words that were found are those that the matches have for the argument.
pub returns-in-Some : goal.returns-in-Some
returns-in-Some g c =
    let said : texts_at c.args.argument.now (rows_of (found_of c.args.names.now)) ≡ map (λ word. word.now) c.in-Some.words.now =
    ap (λ found. unwrap_or found []) (sym c.names_in.ensures
    ∙ ap (option_map (λ found. map (λ word. word.now) found.now)) c.in-Some.is) in
    rw said c.values_of.ensures
