-- Laws of an argument with a second name.
use Rattle.std.proofs.Common.{◌≡◌, List, ◌++◌, Bool, Bor, ap, map, ◌∙◌}
use Rattle.std.proofs.lemmas.List.{map-append}
use Rattle.clap.specs.Adds.{AddsAliases}
use Rattle.clap.specs.Words.{Rule, Text, rule_of}
use Rattle.clap.specs.declared.builder.arg.Arg.{Arg}

-- The rule with these additional names.
abbrev pub with_aliases : Rule → List Text → Rule
with_aliases rule names = record rule { aliases = names }

-- The name of an alias.
abbrev pub name_of : Bor Text × Bool → Text
name_of alias = alias.0.now

pub rule-aliased : (old new : Arg) (names : List (Bor Text × Bool)) → AddsAliases old new names
    → rule_of new ≡ with_aliases (rule_of old) ((rule_of old).aliases ++ map name_of names)
rule-aliased old new names adds =
    ap rule_of adds.0
    ∙ ap (λ items. with_aliases (rule_of old) (map name_of items)) adds.1
    ∙ ap (with_aliases (rule_of old)) (map-append name_of old.aliases.items names)
