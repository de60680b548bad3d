-- A law of subcommands that only read.
use Rattle.std.proofs.Common.{◌≢◌, List, refl, rules}
use Rattle.clap.specs.Words.{Row}
use Rattle.command_line.specs.Commands.{name_for}
use Rattle.command_line.specs.Orders.{Asks, AsksToRead}
use Rattle.command_line.specs.declared.commands.Subcommand.{Subcommand}
use Rattle.command_line.specs.declared.commands.Subcommand.TheVariants as sub
use Rattle.command_line.specs.declared.orders.Order.{Order}
use Rattle.command_line.specs.declared.orders.Order.TheVariants.{Read}
use Rattle.command_line.specs.declared.read_orders.ReadOrder.{ReadOrder}

-- A subcommand that only reads gives no order if it gives none to read.
pub none_asked : (one : Subcommand) (rows : List Row) → one ≢ sub.Plan → one ≢ sub.MakeDevice → one ≢ sub.MakeImage
    → one ≢ sub.MakeManifest → one ≢ sub.Provision → one ≢ sub.Extract → one ≢ sub.Run → one ≢ sub.Sweep
    → ((order : ReadOrder) → AsksToRead (name_for one) rows order → ⊥)
    → (order : Order) → Asks (name_for one) rows order → ⊥
none_asked one rows plan device image manifest provision extract run sweep none (Read order) asks = none order asks
none_asked sub.Plan rows plan device image manifest provision extract run sweep none order asks = plan refl
none_asked sub.MakeDevice rows plan device image manifest provision extract run sweep none order asks = device refl
none_asked sub.MakeImage rows plan device image manifest provision extract run sweep none order asks = image refl
none_asked sub.MakeManifest rows plan device image manifest provision extract run sweep none order asks = manifest refl
none_asked sub.Provision rows plan device image manifest provision extract run sweep none order asks = provision refl
none_asked sub.Extract rows plan device image manifest provision extract run sweep none order asks = extract refl
none_asked sub.Run rows plan device image manifest provision extract run sweep none order asks = run refl
none_asked sub.Sweep rows plan device image manifest provision extract run sweep none order asks = sweep refl
none_asked _ rows plan device image manifest provision extract run sweep none _ asks = search rules
