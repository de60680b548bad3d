-- Notes on an answer: as sentences, and as lines of a text.
use Rattle.std.specs.Prelude.{ℕ, List, [], ◌∷◌, ◌++◌, map, codes, string_bytes, String}
use Rattle.std.specs.Global.{Global}
use Rattle.std.specs.List.{flat_map}
use Rattle.device_texts.specs.declared.notes.NoteList.{NoteList}

-- The sentences of notes.
abbrev pub sentences : NoteList → List (List ℕ)
sentences notes = map string_bytes notes.sentences.items

-- A sentence as a line.
abbrev pub sentence_line : String Global → List ℕ
sentence_line sentence = codes "note: " ++ (string_bytes sentence ++ 10 ∷ [])

-- The lines of notes.
abbrev pub lines_of : NoteList → List ℕ
lines_of notes = flat_map sentence_line notes.sentences.items
