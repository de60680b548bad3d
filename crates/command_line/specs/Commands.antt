-- The program's subcommands and their arguments, in the terms of `clap`.
use Rattle.std.specs.Prelude.{◌++◌, Bool, List, [], ◌∷◌, Some, codes, fold, map, true, false}
use Rattle.clap.specs.Lexer.{usize_max}
use Rattle.clap.specs.Simple.{new_shape}
use Rattle.clap.specs.Words.{App, Rule, Shape, Text, new_rule, with_rule, with_subcommand}
use Rattle.clap.specs.declared.builder.action.ArgAction.TheVariants.{Append, SetTrue}
use Rattle.command_line.specs.declared.arguments.Argument.{Argument}
use Rattle.command_line.specs.declared.arguments.Argument.TheVariants as argument
use Rattle.command_line.specs.declared.commands.Subcommand.{Subcommand}
use Rattle.command_line.specs.declared.commands.Subcommand.TheVariants as sub

-- A name. Required.
abbrev pub one_name : Text → Rule
one_name name = record (new_rule name) { required = true }

-- Names. At least one is required.
abbrev pub all_names : Text → Rule
all_names name = record (new_rule name) {
  required = true;
  range = Some (record { start_inclusive = 1; end_inclusive = usize_max });
}

-- An option with one value, which may be required.
abbrev pub one_option : Text → Bool → Rule
one_option name required = record (new_rule name) {
  long = Some name;
  value_names = 1;
  required = required;
}

-- An option without a value: its value is `true` if it is given, and else `false`.
abbrev pub one_flag : Text → Rule
one_flag name = record (new_rule name) { long = Some name; action = Some SetTrue }

-- An option with one value, which may be given more than once.
abbrev pub options : Text → Rule
options name = record (new_rule name) {
  long = Some name;
  action = Some Append;
  value_names = 1;
}

-- An argument with a second name.
abbrev pub also_named : Rule → Text → Rule
also_named rule other = record rule { aliases = other ∷ [] }

-- The option of a security counter.
abbrev pub counter_option : Rule
counter_option = also_named (one_option (codes "counter") false) (codes "security-counter")

-- The option of a load address.
abbrev pub load_address_option : Rule
load_address_option =
    also_named (one_option (codes "load-address") false) (codes "load-addr")

-- The rule of an argument.
abbrev pub rule_for : Argument → Rule
rule_for (argument.File name help) = one_name name.now
rule_for (argument.Files name help) = all_names name.now
rule_for (argument.Required name help) = one_option name.now true
rule_for (argument.Optional name help) = one_option name.now false
rule_for (argument.Aliased name other help) = also_named (one_option name.now false) other.now
rule_for (argument.Repeated name help) = options name.now
rule_for (argument.Flag name help) = one_flag name.now

-- A command with one more argument.
abbrev pub with_argument : App → Argument → App
with_argument command argument = with_rule command (rule_for argument)

-- A command with these arguments, in this order.
abbrev pub with_arguments : App → List Argument → App
with_arguments command arguments = fold with_argument command arguments

-- The name of a subcommand.
abbrev pub name_for : Subcommand → Text
name_for sub.Choose = codes "choose"
name_for sub.Check = codes "check"
name_for sub.Plan = codes "plan"
name_for sub.Image = codes "image"
name_for sub.Manifest = codes "manifest"
name_for sub.MakeDevice = codes "make-device"
name_for sub.MakeImage = codes "make-image"
name_for sub.MakeManifest = codes "make-manifest"
name_for sub.Provision = codes "provision"
name_for sub.Extract = codes "extract"
name_for sub.Show = codes "show"
name_for sub.Slots = codes "slots"
name_for sub.Run = codes "run"
name_for sub.Sweep = codes "sweep"
name_for sub.Codes = codes "codes"

-- The rules of its names and options, in this order.
abbrev pub rules_of : Subcommand → List Rule
rules_of sub.Choose = one_name (codes "TABLE") ∷ one_flag (codes "json") ∷ []
rules_of sub.Check =
    one_name (codes "TABLE") ∷ one_name (codes "REPORT") ∷ one_flag (codes "json") ∷ []
rules_of sub.Plan =
    all_names (codes "FLEET") ∷ options (codes "request") ∷ one_flag (codes "summary")
    ∷ one_flag (codes "merge") ∷ one_flag (codes "json") ∷ []
rules_of sub.Image = one_name (codes "FILE") ∷ one_flag (codes "json") ∷ []
rules_of sub.Manifest =
    one_name (codes "DEVICE") ∷ one_name (codes "FILE") ∷ one_flag (codes "json") ∷ []
rules_of sub.MakeDevice =
    one_option (codes "sector") true ∷ one_option (codes "slots") true
    ∷ one_option (codes "vendor") true ∷ one_option (codes "class") true
    ∷ one_option (codes "trial-boots") false ∷ []
rules_of sub.MakeImage =
    one_name (codes "OUT") ∷ one_name (codes "BODY") ∷ one_option (codes "version") true
    ∷ counter_option ∷ options (codes "needs") ∷ options (codes "dependencies")
    ∷ options (codes "needs-one")
    ∷ one_option (codes "header-size") false ∷ load_address_option
    ∷ one_option (codes "flags") false ∷ one_flag (codes "force") ∷ []
rules_of sub.MakeManifest =
    one_name (codes "DEVICE") ∷ one_option (codes "sequence") true
    ∷ one_option (codes "precursor") false ∷ options (codes "test")
    ∷ options (codes "permanent") ∷ one_flag (codes "strict") ∷ []
rules_of sub.Provision =
    one_name (codes "DEVICE") ∷ one_name (codes "FLASH") ∷ all_names (codes "IMAGE")
    ∷ one_flag (codes "force") ∷ []
rules_of sub.Extract =
    one_name (codes "DEVICE") ∷ one_name (codes "FLASH") ∷ one_name (codes "IMAGE")
    ∷ one_name (codes "SIDE") ∷ one_name (codes "OUT") ∷ one_flag (codes "force") ∷ []
rules_of sub.Show =
    one_name (codes "DEVICE") ∷ one_name (codes "FLASH") ∷ one_flag (codes "json") ∷ []
rules_of sub.Slots =
    one_name (codes "DEVICE") ∷ one_name (codes "FLASH") ∷ one_flag (codes "json") ∷ []
rules_of sub.Run =
    one_name (codes "DEVICE") ∷ one_name (codes "FLASH") ∷ one_name (codes "SCRIPT")
    ∷ one_flag (codes "durable") ∷ one_flag (codes "strict") ∷ one_flag (codes "json") ∷ []
rules_of sub.Sweep =
    all_names (codes "FILE") ∷ one_flag (codes "merge") ∷ one_flag (codes "twice")
    ∷ one_option (codes "sample") false ∷ one_option (codes "seed") false
    ∷ one_option (codes "part") false ∷ one_option (codes "svg") false
    ∷ one_flag (codes "force") ∷ one_flag (codes "json") ∷ []
rules_of sub.Codes = one_flag (codes "json") ∷ []

-- The options that each subcommand has.
abbrev pub options_of_all : List Rule
options_of_all = one_flag (codes "explain") ∷ one_option (codes "color") false ∷ []

-- The shape of a subcommand: its name, its names and options, and the options that each has.
abbrev pub shape_for : Subcommand → Shape
shape_for one = record (new_shape (name_for one)) { rules = rules_of one ++ options_of_all }

-- The subcommands, in the order of the help.
abbrev pub subcommands : List Subcommand
subcommands = sub.Choose ∷ sub.Check ∷ sub.Plan ∷ sub.Image ∷ sub.Manifest ∷ sub.MakeDevice
    ∷ sub.MakeImage ∷ sub.MakeManifest ∷ sub.Provision ∷ sub.Extract ∷ sub.Show ∷ sub.Slots
    ∷ sub.Run ∷ sub.Sweep ∷ sub.Codes ∷ []

-- The program without its subcommands. It has a version, and requires a subcommand.
abbrev pub program : App
program = record {
  top = record (new_shape (codes "bootswap")) { has_version = true; subcommand_required = true };
  subs = [];
}

-- Adds a subcommand to the program.
abbrev pub with_command : App → Subcommand → App
with_command app subcommand = with_subcommand app (shape_for subcommand)

-- The program.
abbrev pub bootswap : App
bootswap = record {
  top = record program.top { is_leaf = false };
  subs = map shape_for subcommands;
}
