-- The exit status after arguments that give no order.
use Rattle.std.specs.Prelude.{◌≡◌, ◌⊎◌, ℕ, Bool, List, false, if◌then◌else◌, true}
use Rattle.clap.specs.Words.{IsAmong, Text, fault_of, kind_of}
use Rattle.clap.specs.declared.error.kind.ErrorKind.{ErrorKind}
use Rattle.clap.specs.declared.error.kind.ErrorKind.TheVariants.{DisplayHelp, DisplayVersion}
use Rattle.command_line.specs.Commands.{bootswap}
use Rattle.command_line.specs.declared.error.OrderError.{OrderError}
use Rattle.command_line.specs.declared.error.OrderError.TheVariants.{Usage, NoMemory}

-- An answer of `clap` of this kind is help or the version.
abbrev pub is_help : ErrorKind → Bool
is_help DisplayHelp = true
is_help DisplayVersion = true
is_help _ = false

-- The arguments ask for help or the version: one of the answers that `clap` defines for them is
-- that.
pub record AskHelp (words : List Text) : Type 0 where
  pub kind : ErrorKind
  pub among : IsAmong kind (fault_of bootswap words)
  pub helps : is_help kind ≡ true

-- The status after arguments that give no order, once their answer is written: 0 after help and the
-- version, 2 after a fault, and 1 if memory ran out.
abbrev pub status_of_error : OrderError → ℕ
status_of_error (Usage answer) = if is_help (kind_of answer) then 0 else 2
status_of_error NoMemory = 1

-- The status after a fault in the arguments that was written, or after lack of memory instead.
abbrev pub status_of_fault : OrderError → ℕ
status_of_fault (Usage answer) = 2
status_of_fault NoMemory = 1

-- A program with this answer ends with its status, or with 1 if a write failed or memory ran out
-- while the answer was written.
abbrev pub EndsWords : OrderError → ℕ → Type 0
EndsWords error status = (status ≡ status_of_error error) ⊎ (status ≡ 1)
