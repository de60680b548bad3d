use Rattle.std.proofs.Common.{arith}
use Rattle.arguments.proofs.ComponentLaws.{as_many}
use Rattle.arguments.proofs.manifest_words.all_components_in.Goals as goal

-- If no file was found, the matches name none.
pub returns-then-count-eq0 : goal.returns-then-count-eq0
returns-then-count-eq0 c = λ one says.
    let all = as_many _ _ _ _ _ one (rw c.in-Some.is at c.in_ok-components.ensures) (rw c.in-Some-2.is at c.in_ok-permanent.ensures)
    c.deref.ensures.value c.in_ok-extend_from_slice.ensures.items says in
    absurd (omega (arith, c.if-count-eq0.true, c.len-count.ensures, all, says.some))

-- If too many files were found, the matches name too many.
pub returns-then-count-gt-MOST_IMAGES : goal.returns-then-count-gt-MOST_IMAGES
returns-then-count-gt-MOST_IMAGES c = λ one says.
    let all = as_many _ _ _ _ _ one (rw c.in-Some.is at c.in_ok-components.ensures) (rw c.in-Some-2.is at c.in_ok-permanent.ensures)
    c.deref.ensures.value c.in_ok-extend_from_slice.ensures.items says in
    absurd (omega (arith, c.if-count-gt-MOST_IMAGES.true, c.len-count.ensures, all, says.most))
