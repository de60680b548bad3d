use Rattle.std.proofs.Common.{◌≡◌, ◌++◌, string_bytes, take}
use Rattle.std.specs.List.{flat_map}
use Rattle.device_texts.specs.Notes.{sentence_line}
use Rattle.device_texts.proofs.notes.add_lines.Given as goal

-- The lines of the sentences so far follow the old text.
abbrev pub invariant-loop-sentence : goal.invariant-loop-sentence
invariant-loop-sentence l =
    string_bytes l.text ≡ string_bytes l.fn.text ++ flat_map sentence_line (take l.sentence-index l.sentences)
