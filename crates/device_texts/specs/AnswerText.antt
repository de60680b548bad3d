-- The lines of answers. A line feed is 10, and a space is 32.
use Rattle.std.specs.Prelude.{ℕ, List, [], ◌∷◌, ◌++◌, codes, decimal}
use Rattle.sector_map.specs.declared.error.MapError.{MapError}
use Rattle.sector_map.specs.Codes.{code_of, name_of}

-- A line: a word, a space, a text and a line feed.
abbrev pub line_text : List ℕ → List ℕ → List ℕ
line_text word said = word ++ 32 ∷ (said ++ 10 ∷ [])

-- The line of a refusal: its number and its name.
abbrev pub refused_text : ℕ → List ℕ → List ℕ
refused_text code name = line_text (codes "refused") (decimal code ++ 32 ∷ name)

-- The line of a refusal by a layer below: the layer's word, the number and the name.
abbrev pub refused_group_text : List ℕ → ℕ → List ℕ → List ℕ
refused_group_text group code name =
    line_text (codes "refused") (group ++ 32 ∷ (decimal code ++ 32 ∷ name))

-- The line that says why the sizes of a device file make no map: the number and the name.
abbrev pub map_refusal_text : MapError → List ℕ
map_refusal_text refused = refused_group_text (codes "map") (code_of refused) (name_of refused)
