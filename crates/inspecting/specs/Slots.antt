-- The answer of `slots`.
use Rattle.std.specs.Prelude.{Option, None, Some}
use Rattle.host.specs.declared.answer.Answer.{Answer}
use Rattle.host.specs.declared.answer.Answer.TheVariants.{Done, Refused}
use Rattle.inspecting.specs.declared.slots_found.NextDecision.{NextDecision}
use Rattle.inspecting.specs.declared.slots_found.NextDecision.TheVariants.{Decided, Damaged, Invalid}

-- The answer if the next boot would decide this. It is `Refused` if the boot would be refused.
abbrev pub answer_to : Option NextDecision → Answer
answer_to None = Done
answer_to (Some (Decided table report)) = Done
answer_to (Some (Damaged image slot)) = Refused
answer_to (Some (Invalid table)) = Refused
