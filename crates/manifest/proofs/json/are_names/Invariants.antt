use Rattle.std.proofs.Common.{◌≡◌, map}
use Rattle.serde_json.specs.View.{members_view}
use Rattle.manifest.specs.Json.{names_of}
use Rattle.manifest.proofs.Names.{IsLeft}
use Rattle.manifest.proofs.json.are_names.Given as goal

-- The remaining names are equal to those that are still to compare exactly if all names are equal.
abbrev pub invariant-loop-name : goal.invariant-loop-name
invariant-loop-name l =
    (goal.iterator-loop-name).can_next l.own × (goal.iterator-loop-name).is_finite l.own
    × IsLeft (names_of (members_view l.members.entries) ≡ map (λ name. name.now) l.names) l.own l.names l.name-index
