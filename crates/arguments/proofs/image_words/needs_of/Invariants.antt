use Rattle.std.proofs.Common.{◌≡◌, ◌++◌, length, map}
use Rattle.std.specs.Prelude.{option_map}
use Rattle.command_line.specs.Needs.{needs_of}
use Rattle.arguments.proofs.image_words.needs_of.Given as goal

-- The dependencies so far, followed by those of the remaining words, are those of all words.
abbrev pub invariant-loop-rest : goal.invariant-loop-rest
invariant-loop-rest l =
    option_map (λ later. l.needs.items ++ later) (needs_of (map (λ word. word.now) l.rest)) ≡ needs_of (map (λ word. word.now) l.words)

abbrev pub decreases-loop-rest : goal.decreases-loop-rest
decreases-loop-rest l = length l.rest
