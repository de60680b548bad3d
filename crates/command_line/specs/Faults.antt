-- The answers to arguments that give no order.
use Rattle.std.specs.Prelude.{◌≡◌, ◌≢◌, List, [], Some, ⊤}
use Rattle.clap.specs.Words.{IsAmong, Text, fault_of, kind_of}
use Rattle.clap.specs.declared.error.Error.{Error}
use Rattle.clap.specs.declared.error.kind.ErrorKind.{ErrorKind}
use Rattle.clap.specs.declared.error.kind.ErrorKind.TheVariants.{OutOfMemory}
use Rattle.command_line.specs.Commands.{bootswap}
use Rattle.command_line.specs.Orders.{IsOrder, misuse_of}
use Rattle.command_line.specs.declared.error.OrderError.{OrderError}
use Rattle.command_line.specs.declared.error.OrderError.TheVariants.{Usage, NoMemory}
use Rattle.command_line.specs.declared.device_orders.DeviceOrder.{DeviceOrder}
use Rattle.command_line.specs.declared.orders.Order.TheVariants.{Device}

-- Why arguments that may give an order to a device result in an error of this kind. Either `clap`
-- finds a fault in them, or they ask for help or the version. Or `clap` accepts them, and their
-- order misuses standard input.
pub data IsDeviceFault (words : List Text) (kind : ErrorKind) : Type 0 where
  of_clap : IsAmong kind (fault_of bootswap words) → IsDeviceFault words kind
  misuse : (order : DeviceOrder) → fault_of bootswap words ≡ [] → IsOrder words (Device order)
      → misuse_of (Device order) ≡ Some kind → IsDeviceFault words kind

-- The error of arguments that give no order, for a fault of a kind. An answer of `clap` is never
-- lack of memory.
abbrev pub IsAnswered : (ErrorKind → Type 0) → OrderError → Type 0
IsAnswered IsFault (Usage answer) = (kind_of answer ≢ OutOfMemory) × IsFault (kind_of answer)
IsAnswered IsFault NoMemory = ⊤

abbrev pub IsDeviceRefusal : List Text → OrderError → Type 0
IsDeviceRefusal words error = IsAnswered (IsDeviceFault words) error

-- An answer of `clap` of this kind, or lack of memory.
abbrev pub IsUsage : ErrorKind → OrderError → Type 0
IsUsage kind (Usage answer) = kind_of answer ≡ kind
IsUsage kind NoMemory = ⊤

-- An answer of `clap` is never lack of memory.
abbrev pub IsTold : OrderError → Type 0
IsTold (Usage answer) = kind_of answer ≢ OutOfMemory
IsTold NoMemory = ⊤

-- The error is the conversion of an answer of `clap`: lack of memory, or else that very answer.
abbrev pub Says : Error → OrderError → Type 0
Says answer (Usage error) = (error ≡ answer) × (kind_of answer ≢ OutOfMemory)
Says answer NoMemory = kind_of answer ≡ OutOfMemory

-- Memory ran out.
abbrev pub IsNoMemory : OrderError → Type 0
IsNoMemory error = error ≡ NoMemory
