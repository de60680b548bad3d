use Rattle.std.proofs.Common.{rules, ◌∙◌, subst}
use Rattle.flash_contents.specs.Wear.{IsSetFound, IsSetIn}
use Rattle.machine.proofs.Answered.{no_members}
use Rattle.boot_core.specs.Found.{StartsFound}
use Rattle.boot_core.proofs.Undecided.{decided_in}
use Rattle.boot_core.proofs.deciding.reply_to.Goals as goal

pub returns-in-Decided : goal.returns-in-Decided
returns-in-Decided c = λ table report. record {
  is = search rules;
  set = search rules;
  moved = search rules;
  some = λ s mask found is some none.
      let set : IsSetIn mask report = subst (λ f. IsSetFound mask f) (decided_in table report _ c.in-Decided.is) is in
      some (no_members mask (λ i. set.each i ∙ none i));
  told = search rules;
  starts = λ w starts. subst (λ f. StartsFound w f) (decided_in table report _ c.in-Decided.is) starts;
}
