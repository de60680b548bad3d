use Rattle.std.proofs.Common.{refl, sym, ◌∙◌}
use Rattle.std.proofs.lemmas.Bool.{false≢true}
use Rattle.boot_core.proofs.Repeats.{first_alone, once_by_first, others_once}
use Rattle.boot_core.proofs.intake.+name_each_once.Goals as goal

pub returns-then-name_others : goal.returns-then-name_others
returns-then-name_others t c = (
  λ yes. once_by_first _ _ c.in-len1-up.len_at_least (c.if-name_others.ensures.0 refl) (c.name_each_once.ensures.0 yes),
  λ once. c.name_each_once.ensures.1 (others_once _ c.in-len1-up.len_at_least once),
)

pub returns-else-name_others : goal.returns-else-name_others
returns-else-name_others t c = (
  λ yes. absurd (false≢true (sym c.if-name_others.false ∙ yes)),
  λ once. c.name_others.ensures.1 (first_alone _ _ c.in-len1-up.len_at_least once),
)
