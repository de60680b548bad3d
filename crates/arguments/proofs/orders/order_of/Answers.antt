use Rattle.clap.specs.Words.{found_of, rows_of}
use Rattle.arguments.proofs.ReadingLaws.{none_asked}
use Rattle.arguments.proofs.orders.order_of.Goals as goal

-- The subcommand only reads, and a name is missing.
pub returns-in-None : goal.returns-in-None
returns-in-None c =
    none_asked c.args.subcommand (rows_of (found_of c.args.names.now)) c.in_default.not-Plan c.in_default.not-MakeDevice c.in_default.not-MakeImage
    c.in_default.not-MakeManifest c.in_default.not-Provision c.in_default.not-Extract c.in_default.not-Run
    c.in_default.not-Sweep (rw c.in-None.is at c.read_order_in.ensures)
