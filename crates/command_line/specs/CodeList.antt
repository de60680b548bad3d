-- The codes of refusals and their meaning, and the text of their list.
use Rattle.std.specs.Prelude.{ℕ, ◌-◌, ◌∷◌, ◌++◌, [], List, None, Option, Some, codes, decimal, if◌then◌else◌, length, map, nat_lt}
use Rattle.std.specs.Borrow.{Bor}
use Rattle.std.specs.List.{flat_map, join_by, repeat}
use Rattle.command_line.specs.declared.codes.CodeGroup.{CodeGroup}
use Rattle.command_line.specs.declared.codes.TheConstants.{DEVICE, IMAGE, INTRODUCTION, MANIFEST, NEW_IMAGE, REQUEST, SIZES, UPLOAD}

-- The code of a refusal, its name, and the lines of its meaning. A reason of a report has no code.
pub record Entry : Type 0 where
  pub code : Option ℕ
  pub name : List ℕ
  pub lines : List (List ℕ)

-- What one layer refuses.
pub record Group : Type 0 where
  pub title : List ℕ
  pub entries : List Entry

-- The entry of a code.
abbrev pub entry_of : Option ℕ × Bor (List ℕ) × Bor (List (Bor (List ℕ))) → Entry
entry_of it = record { code = it.0; name = it.1.now; lines = map (λ line. line.now) it.2.now }

abbrev pub group_of : CodeGroup → Group
group_of group =
    record { title = group.title.now; entries = map entry_of group.codes.now }

-- The groups, as the constants have them.
abbrev pub code_groups : List Group
code_groups =
    map (λ group. record {
      title = group.0.now;
      entries = map (λ it. record {
        code = it.0;
        name = it.1.now;
        lines = map (λ line. line.now) it.2.now;
      }) group.1.now;
    })
    (IMAGE ∷ NEW_IMAGE ∷ SIZES ∷ DEVICE ∷ MANIFEST ∷ UPLOAD ∷ REQUEST ∷ [])

-- The end of a line, and the columns before a meaning.
abbrev pub next_line : List ℕ
next_line = codes "\n                          "

-- The column of codes, which have at most two digits. A reason has none.
abbrev pub number_text : Option ℕ → List ℕ
number_text None = codes "     "
number_text (Some n) =
    (if nat_lt n 10 then codes "   " else codes "  ") ++ (decimal n ++ codes " ")

-- What separates a name from its meaning: the rest of its column, or the end of the line if it is
-- longer.
abbrev pub gap_after : List ℕ → List ℕ
gap_after name =
    if nat_lt (length name) 21 then repeat (21 - length name) (codes " ") else next_line

-- A meaning, with this between two of its lines.
abbrev pub meaning_text : List ℕ → List (List ℕ) → List ℕ
meaning_text between lines = join_by (λ line. line) between lines

-- The lines of a code.
abbrev pub entry_text : Entry → List ℕ
entry_text entry =
    number_text entry.code ++ (entry.name ++ (gap_after entry.name
    ++ (meaning_text next_line entry.lines ++ 10 ∷ [])))

-- The lines of a group.
abbrev pub group_text : Group → List ℕ
group_text group =
    10 ∷ group.title ++ (codes ":\n" ++ flat_map entry_text group.entries)

-- The list of codes.
abbrev pub list_text : List Group → List ℕ
list_text groups = INTRODUCTION.now ++ (10 ∷ flat_map group_text groups)
