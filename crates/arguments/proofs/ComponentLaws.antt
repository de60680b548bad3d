-- The number of files that words name.
use Rattle.std.proofs.Common.{◌≡◌, ◌+◌, ◌∙◌, Bool, List, [], ◌∷◌, ◌++◌, ap, codes, false, length, length-append, refl, suc, sym, true}
use Rattle.clap.specs.Words.{Row, Text}
use Rattle.command_line.specs.Orders.{AreComponents, SaysComponents, texts_at}
use Rattle.command_line.specs.declared.orders.NewComponent.{NewComponent}

-- Each word names one file.
same_count : (kind : Bool) (words : List Text) (some others : List NewComponent)
    → AreComponents kind words some → AreComponents kind words others → length some ≡ length others
same_count kind [] [] [] said also = refl
same_count kind [] [] (y ∷ others) said also = absurd also
same_count kind [] (x ∷ some) others said also = absurd said
same_count kind (word ∷ words) [] others said also = absurd said
same_count kind (word ∷ words) (x ∷ some) [] said also = absurd also
same_count kind (word ∷ words) (x ∷ some) (y ∷ others) said also =
    ap suc (same_count kind words some others said.1 also.1)

-- The matches name exactly as many files as were found.
pub as_many : (rows : List Row) (tests permanent more found all : List NewComponent)
    → AreComponents false (texts_at (codes "test") rows) tests
    → AreComponents true (texts_at (codes "permanent") rows) permanent
    → more ≡ permanent → found ≡ tests ++ more
    → SaysComponents rows all → length all ≡ length found
as_many rows tests permanent more found all are_tests are_permanent same adds says =
    let one = same_count false _ says.tests tests says.are_tests are_tests in
    let two = same_count true _ says.permanent permanent says.are_permanent are_permanent in
    ap (λ files. length files) says.all ∙ length-append says.tests says.permanent
    ∙ ap (λ n. n + length says.permanent) one ∙ ap (λ n. length tests + n) two
    ∙ sym (ap (λ files. length files) adds ∙ ap (λ files. length (tests ++ files)) same ∙ length-append tests permanent)
