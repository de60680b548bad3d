-- Laws of the names of the subcommands.
use Rattle.std.proofs.Common.{◌≡◌, ◌&&◌, Bool, ap, false, not, refl, true}
use Rattle.std.specs.Prelude.{fold}
use Rattle.std.specs.Str.{bytes_eq}
use Rattle.clap.specs.Words.{Text}
use Rattle.command_line.specs.Commands.{name_for}
use Rattle.command_line.specs.declared.commands.TheConstants.{SUBCOMMANDS}
use Rattle.command_line.specs.declared.commands.Subcommand.{Subcommand}
use Rattle.command_line.specs.declared.commands.Subcommand.TheVariants as sub

-- The earlier subcommands have other names, and so has this one.
abbrev pub is_other : Text → Bool → Subcommand → Bool
is_other name before one = before && not (bytes_eq (name_for one) name)

-- The name of each subcommand is in the list. Each case computes.
has_no_other : (one : Subcommand) → fold (is_other (name_for one)) true SUBCOMMANDS ≡ false
has_no_other sub.Codes = refl
has_no_other _ = refl

-- A name that isn't in the list is that of no subcommand.
pub none_named : (name : Text) (one : Subcommand) → true ≡ fold (is_other name) true SUBCOMMANDS
    → name ≡ name_for one → ⊥
none_named name one others same =
    absurd (cc (others, ap (λ (n : Text). fold (is_other n) true SUBCOMMANDS) same, has_no_other one))
