-- The errors of arguments that give no order.
use Rattle.std.specs.Prelude.{◌≡◌, ◌⊎◌, List, [], Some}
use Rattle.clap.specs.Words.{IsAmong, Text, fault_of}
use Rattle.clap.specs.declared.error.kind.ErrorKind.{ErrorKind}
use Rattle.clap.specs.declared.error.kind.ErrorKind.TheVariants.{ArgumentConflict, InvalidValue, MissingRequiredArgument, MissingSubcommand}
use Rattle.command_line.specs.Commands.{bootswap}
use Rattle.command_line.specs.Faults.{IsAnswered}
use Rattle.command_line.specs.Orders.{IsOrder, misuse_of}
use Rattle.command_line.specs.declared.error.OrderError.{OrderError}
use Rattle.command_line.specs.declared.orders.Order.{Order}

-- The kinds of faults of arguments that give no order: a value isn't valid, a file isn't named, two
-- options exclude each other, or there is no subcommand.
abbrev pub IsKindOfNoOrder : ErrorKind → Type 0
IsKindOfNoOrder kind =
    (kind ≡ InvalidValue) ⊎ (kind ≡ MissingSubcommand) ⊎ (kind ≡ MissingRequiredArgument)
    ⊎ (kind ≡ ArgumentConflict)

-- Why arguments result in an error of this kind. Either `clap` finds a fault in them, or they ask
-- for help or the version. Or `clap` accepts them, and they give no order, or their order misuses
-- standard input.
pub data IsFault (words : List Text) (kind : ErrorKind) : Type 0 where
  of_clap : IsAmong kind (fault_of bootswap words) → IsFault words kind
  no_order : fault_of bootswap words ≡ [] → ((order : Order) → IsOrder words order → ⊥)
      → IsKindOfNoOrder kind → IsFault words kind
  misuse : (order : Order) → fault_of bootswap words ≡ [] → IsOrder words order
      → misuse_of order ≡ Some kind → IsFault words kind

-- The error of arguments that give no order.
abbrev pub IsRefusal : List Text → OrderError → Type 0
IsRefusal words error = IsAnswered (IsFault words) error
