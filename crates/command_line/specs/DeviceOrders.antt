-- The orders to a device: their subcommands, their names, and the file that they write.
use Rattle.std.specs.Prelude.{◌≡◌, Bool, List, ◌∷◌, [], Some, codes, map}
use Rattle.std.specs.Borrow.{Bor}
use Rattle.clap.specs.Words.{Row, Text, all_of}
use Rattle.command_line.specs.Given.{IsNamed, is_given, is_standard_input}
use Rattle.command_line.specs.declared.commands.Subcommand.{Subcommand}
use Rattle.command_line.specs.declared.commands.Subcommand.TheVariants as sub
use Rattle.command_line.specs.declared.device_orders.DeviceOrder.{DeviceOrder}
use Rattle.command_line.specs.declared.device_orders.DeviceOrder.TheVariants.{Provision, Run}

-- The subcommand of an order.
abbrev pub subcommand_for : DeviceOrder → Subcommand
subcommand_for (Provision device flash images forced) = sub.Provision
subcommand_for (Run device flash script durable strict) = sub.Run

-- The names and the options of an order are those that the matches of its subcommand have.
abbrev pub HasNames : List Row → DeviceOrder → Type 0
HasNames rows (Provision device flash images forced) =
    IsNamed rows (codes "DEVICE") device.now × IsNamed rows (codes "FLASH") flash.now
    × (all_of (codes "IMAGE") rows ≡ Some (map (λ image. image.now) images.items))
    × (forced ≡ is_given (codes "force") rows)
HasNames rows (Run device flash script durable strict) =
    IsNamed rows (codes "DEVICE") device.now × IsNamed rows (codes "FLASH") flash.now
    × IsNamed rows (codes "SCRIPT") script.now × (durable ≡ is_given (codes "durable") rows)
    × (strict ≡ is_given (codes "strict") rows)

-- All the names of an order.
abbrev pub names_of : DeviceOrder → List (Bor Text)
names_of (Provision device flash images forced) = device ∷ flash ∷ images.items
names_of (Run device flash script durable strict) = device ∷ flash ∷ script ∷ []

-- The file that an order writes is standard input.
abbrev pub writes_to_standard_input : DeviceOrder → Bool
writes_to_standard_input (Provision device flash images forced) = is_standard_input flash
writes_to_standard_input (Run device flash script durable strict) = is_standard_input flash
