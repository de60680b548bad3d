-- How a command ends: its answer or its refusal, and the exit status of each.
use Rattle.std.specs.Prelude.{◌≡◌, ◌⊎◌, ℕ, Result, Ok, Err}
use Rattle.host.specs.declared.answer.Answer.{Answer}
use Rattle.host.specs.declared.answer.Answer.TheVariants.{Done, Refused, Cut}
use Rattle.host.specs.declared.error.Refusal.{Refusal}
use Rattle.host.specs.declared.error.Refusal.TheVariants.{CannotWrite, FlashFile}

abbrev pub status_of_answer : Answer → ℕ
status_of_answer Done = 0
status_of_answer Refused = 1
status_of_answer Cut = 3

abbrev pub status_of_refusal : Refusal → ℕ
status_of_refusal (FlashFile error) = 4
status_of_refusal other = 1

abbrev pub status_of : Result Answer Refusal → ℕ
status_of (Ok answer) = status_of_answer answer
status_of (Err refusal) = status_of_refusal refusal

-- A command with this outcome ends with its status, or with 1.
abbrev pub Ends : Result Answer Refusal → ℕ → Type 0
Ends outcome status = (status ≡ status_of outcome) ⊎ (status ≡ 1)

-- A command that makes a file ended before it replaced the file. So the result is neither `Done` nor
-- that the answer could not be written.
abbrev pub EndsUnmade : Result Answer Refusal → Type 0
EndsUnmade (Ok Done) = ⊥
EndsUnmade (Ok Refused) = Unit {0}
EndsUnmade (Ok Cut) = Unit {0}
EndsUnmade (Err CannotWrite) = ⊥
EndsUnmade (Err refusal) = Unit {0}
