-- The orders of the commands that write nothing but their answer: their subcommands and their names.
use Rattle.std.specs.Prelude.{List, ◌∷◌, [], codes, ⊤}
use Rattle.std.specs.Borrow.{Bor}
use Rattle.clap.specs.Words.{Row, Text}
use Rattle.command_line.specs.Given.{IsNamed}
use Rattle.command_line.specs.declared.commands.Subcommand.{Subcommand}
use Rattle.command_line.specs.declared.commands.Subcommand.TheVariants as sub
use Rattle.command_line.specs.declared.read_orders.ReadOrder.{ReadOrder}
use Rattle.command_line.specs.declared.read_orders.ReadOrder.TheVariants.{Choose, Check, Image, Manifest, Show, Slots, Codes}

-- The subcommand of an order.
abbrev pub subcommand_for : ReadOrder → Subcommand
subcommand_for (Choose table) = sub.Choose
subcommand_for (Check table report) = sub.Check
subcommand_for (Image file) = sub.Image
subcommand_for (Manifest device file) = sub.Manifest
subcommand_for (Show device flash) = sub.Show
subcommand_for (Slots device flash) = sub.Slots
subcommand_for Codes = sub.Codes

-- The names of an order are those that the matches of its subcommand have.
abbrev pub HasNames : List Row → ReadOrder → Type 0
HasNames rows (Choose table) = IsNamed rows (codes "TABLE") table.now
HasNames rows (Check table report) =
    IsNamed rows (codes "TABLE") table.now × IsNamed rows (codes "REPORT") report.now
HasNames rows (Image file) = IsNamed rows (codes "FILE") file.now
HasNames rows (Manifest device file) =
    IsNamed rows (codes "DEVICE") device.now × IsNamed rows (codes "FILE") file.now
HasNames rows (Show device flash) =
    IsNamed rows (codes "DEVICE") device.now × IsNamed rows (codes "FLASH") flash.now
HasNames rows (Slots device flash) =
    IsNamed rows (codes "DEVICE") device.now × IsNamed rows (codes "FLASH") flash.now
HasNames rows Codes = ⊤

-- All the names of an order.
abbrev pub names_of : ReadOrder → List (Bor Text)
names_of (Choose table) = table ∷ []
names_of (Check table report) = table ∷ report ∷ []
names_of (Image file) = file ∷ []
names_of (Manifest device file) = device ∷ file ∷ []
names_of (Show device flash) = device ∷ flash ∷ []
names_of (Slots device flash) = device ∷ flash ∷ []
names_of Codes = []
