-- The answer of `make-image`, before and after a flush.
use Rattle.std.proofs.Common.{◌≡◌, ℕ, List, Option, subst}
use Rattle.std.proofs.KnownBytes.{Appends-kept}
use Rattle.std.specs.Io.KnownBytes.{Keeps}
use Rattle.command_line.specs.declared.orders.NewImage.{NewImage}
use Rattle.host.specs.declared.answer.Answer.{Answer}
use Rattle.host.specs.declared.answer.Answer.TheVariants.{Done}
use Rattle.host.specs.declared.source.Source.{Source}
use Rattle.host.specs.Input.{FileBytes}
use Rattle.creating.specs.NewImageEnd.{AnswersMade, AnswersNewImage}

-- A flush after the answer changes nothing.
pub AnswersNewImage-kept : (source : Source) (asked : NewImage) (input : Option (List ℕ))
    (files : FileBytes) (held old mid new : Option (List ℕ))
    → AnswersNewImage Done source asked input files held old mid → Keeps mid new
    → AnswersNewImage Done source asked input files held old new
AnswersNewImage-kept source asked input files held old mid new answered kept =
    let made = answered.2 in
    (answered.0, answered.1, (made.0, made.1, made.2, Appends-kept old mid new _ made.3 kept))

-- Images with the same body have the same answer.
pub AnswersMade-same : (answer : Answer) (asked : NewImage) (one other : List ℕ)
    (held old new : Option (List ℕ)) → one ≡ other → AnswersMade answer asked one held old new
    → AnswersMade answer asked other held old new
AnswersMade-same answer asked one other held old new same made =
    subst (λ body. AnswersMade answer asked body held old new) same made
