-- The number and the name of each reason why arguments give no order.
use Rattle.std.specs.Prelude.{ℕ, List, codes}
use Rattle.command_line.specs.declared.error.OrderError.{OrderError}
use Rattle.command_line.specs.declared.error.OrderError.TheVariants.{Usage, NoMemory}

-- The number of a kind.
abbrev pub code_of : OrderError → ℕ
code_of (Usage answer) = 1
code_of NoMemory = 2

-- The name of a kind.
abbrev pub name_of : OrderError → List ℕ
name_of (Usage answer) = codes "Usage"
name_of NoMemory = codes "NoMemory"
