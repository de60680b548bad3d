-- Laws of arguments that give no order, and of an order that is refused.
use Rattle.std.proofs.Common.{◌≡◌, List, [], codes, rules}
use Rattle.std.specs.Prelude.{Some}
use Rattle.clap.specs.Words.{Row, Text, fault_of, kind_of}
use Rattle.clap.specs.declared.error.Error.{Error}
use Rattle.command_line.specs.Commands.{bootswap, name_for}
use Rattle.command_line.specs.Faults.{IsDeviceRefusal, Says}
use Rattle.command_line.specs.Faults.IsDeviceFault.{misuse as misuse_of_device}
use Rattle.command_line.specs.OrderFaults.{IsRefusal}
use Rattle.command_line.specs.OrderFaults.IsFault.{misuse}
use Rattle.command_line.specs.Orders.{Asks, IsOrder, SaysManifest, misuse_of, subcommand_for}
use Rattle.command_line.specs.declared.commands.Subcommand.{Subcommand}
use Rattle.command_line.specs.declared.device_orders.DeviceOrder.{DeviceOrder}
use Rattle.command_line.specs.declared.error.OrderError.{OrderError}
use Rattle.command_line.specs.declared.error.OrderError.TheVariants.{Usage, NoMemory}
use Rattle.command_line.specs.declared.orders.NewManifest.{NewManifest}
use Rattle.command_line.specs.declared.orders.Order.{Order}
use Rattle.command_line.specs.declared.orders.Order.TheVariants.{Device, MakeManifest, Read}
use Rattle.command_line.specs.declared.read_orders.ReadOrder.TheVariants.{Codes}

-- A name that is no subcommand's gives no order.
pub none_asked_by : (name : Text) (rows : List Row) (order : Order)
    → ((one : Subcommand) → name ≡ name_for one → ⊥) → Asks name rows order → ⊥
none_asked_by name rows order none asks = none (subcommand_for order) asks.0

-- If the matches describe no manifest, they give no order for one.
pub no_manifest_asked : (rows : List Row) → ((manifest : NewManifest) → SaysManifest rows manifest → ⊥)
    → (order : Order) → Asks (codes "make-manifest") rows order → ⊥
no_manifest_asked rows none (MakeManifest device manifest) asks = none manifest asks.1.1
no_manifest_asked rows none (Read Codes) asks = search rules
no_manifest_asked rows none _ asks = search rules

-- An order that the arguments give is refused if it misuses standard input.
pub misused : (words : List Text) (order : Order) (fault : Error) (error : OrderError) → fault_of bootswap words ≡ []
    → IsOrder words order
    → misuse_of order ≡ Some (kind_of fault) → Says fault error → IsRefusal words error
misused words order fault (Usage answer) taken is_order is_misuse says =
    rw says.0 (says.1, misuse order taken is_order is_misuse)
misused words order fault NoMemory taken is_order is_misuse says = search rules

-- The same of an order to a device.
pub device_misused : (words : List Text) (order : DeviceOrder) (fault : Error) (error : OrderError)
    → fault_of bootswap words ≡ [] → IsOrder words (Device order)
    → misuse_of (Device order) ≡ Some (kind_of fault) → Says fault error → IsDeviceRefusal words error
device_misused words order fault (Usage answer) taken is_order is_misuse says =
    rw says.0 (says.1, misuse_of_device order taken is_order is_misuse)
device_misused words order fault NoMemory taken is_order is_misuse says = search rules
