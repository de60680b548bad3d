use Rattle.std.proofs.Common.{◌≡◌, ◌∙◌, ap, map}
use Rattle.std.specs.List.{AllZip}
use Rattle.command_line.specs.Orders.{IsNumber, words_of}
use Rattle.arguments.proofs.Found.{found_items}
use Rattle.arguments.proofs.device_words.numbers_in.Goals as goal

-- The words are those of the text.
pub returns : goal.returns
returns c =
    let said : map (λ word. word.now) c.deref.result.now ≡ words_of c.args.text.now =
    ap (λ words. map (λ word. word.now) words) c.deref.ensures.value ∙ c.in_ok-words.ensures in
    found_items (AllZip IsNumber (words_of c.args.text.now)) c.values_of.result (rw said at c.values_of.ensures)
