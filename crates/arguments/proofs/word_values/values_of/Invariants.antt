use Rattle.std.proofs.Common.{map, take}
use Rattle.std.specs.List.{AllZip}
use Rattle.arguments.proofs.word_values.values_of.Given as goal

-- The values so far are those of the words so far.
abbrev pub invariant-loop-word : goal.invariant-loop-word
invariant-loop-word g l =
    AllZip (g.R.WordReader.says l.reader) (map (λ word. word.now) (take l.word-index l.words)) l.values.items
