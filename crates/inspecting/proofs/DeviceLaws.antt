-- Lemmas about the device whose table is read.
use Rattle.std.proofs.Common.{◌≡◌, ℕ, ◌<◌, ◌≤◌, true, List, [], ◌∷◌, ◌++◌, length, arith, inl, inr, rules, sym, ap, ◌∙◌, subst}
use Rattle.std.proofs.lemmas.Bool.{cases_Bool}
use Rattle.std.proofs.lemmas.Grind.{flat_map-append}
use Rattle.std.proofs.lemmas.List.{append-nil}
use Rattle.std.proofs.lemmas.List.Concat.{flat_map-cons}
use Rattle.std.proofs.lemmas.List.Sums.{AllPass-from_list_all}
use Rattle.std.proofs.lemmas.Str.{IsUtf8-from_ascii}
use Rattle.std.proofs.lemmas.Str.Ascii.{IsAscii-from_all}
use Rattle.std.specs.Str.{IsUtf8}
use Rattle.common.proofs.Lists.{AllByRecursion-append}
use Rattle.common.specs.Lines.{text_of_lines}
use Rattle.inspecting.specs.Bounded.{Holds}
use Rattle.inspecting.specs.Fleet.{BeginsDevice, BeginsNone, Device, IsName, is_name_byte, with_line}
use Rattle.inspecting.specs.Planning.{IsReadSoFar}
use Rattle.inspecting.specs.declared.fleet.bounded.Bounded.{Bounded}
use Rattle.inspecting.specs.declared.fleet.planner.Current.{Current}

-- The text of lines and one more.
text_of_lines-more : (lines : List (List ℕ)) (line : List ℕ) → text_of_lines (lines ++ line ∷ []) ≡ text_of_lines lines ++ (line ++ 10 ∷ [])
text_of_lines-more lines line =
    flat_map-append (λ l. l ++ 10 ∷ []) lines (line ∷ [])
    ∙ ap (λ t. text_of_lines lines ++ t) (flat_map-cons (λ l. l ++ 10 ∷ []) line [] ∙ append-nil (line ++ 10 ∷ []))

pub IsReadSoFar-line : (device : Device) (current : Current) (line : List ℕ) (table : Bounded)
    → IsReadSoFar device current → BeginsNone line → Holds (text_of_lines device.table ++ (line ++ 10 ∷ [])) table
    → IsReadSoFar (with_line device line) (record { first = current.first; table = table })
IsReadSoFar-line device current line table was none kept = record {
  is = record { named = was.is.named; table = AllByRecursion-append BeginsNone device.table (line ∷ []) was.is.table (none, tt) };
  first = was.first;
  table = subst (λ text. Holds text table) (sym (text_of_lines-more device.table line)) kept;
}

-- A device without lines of its table.
abbrev pub begun : List ℕ → Device
begun name = record { name = name; table = [] }

pub IsReadSoFar-begun : (name line : List ℕ) (current : Current) → BeginsDevice line name → current.first.items ≡ line ++ 10 ∷ []
    → Holds [] current.table → IsReadSoFar (begun name) current
IsReadSoFar-begun name line current begins first kept = record {
  is = record { named = begins.named; table = tt };
  first = first ∙ ap (λ l. l ++ 10 ∷ []) begins.spelled;
  table = kept;
}

name_byte-ascii : (b : ℕ) → is_name_byte b ≡ true → b < 128
name_byte-ascii b is = grind arith

-- A name is ASCII, and so UTF-8.
pub IsUtf8-name : (name : List ℕ) → IsName name → IsUtf8 name
IsUtf8-name name named =
    IsUtf8-from_ascii name (IsAscii-from_all name
    (λ k d below. name_byte-ascii _ (AllPass-from_list_all is_name_byte name named.bytes k d below)))

-- The line that begins a device isn't too long.
pub begins-whole : (line name : List ℕ) (kept : Bounded) → Holds line kept → BeginsDevice line name → kept.bytes.items ≡ line
begins-whole line name kept holds begins =
    let short : length line ≤ 262 = rw begins.spelled (search rules) in
    elim (cases_Bool kept.is_too_long) [
      | inl long ↦ absurd (omega (arith, short, holds.many long))
      | inr not_long ↦ holds.whole not_long
    ]
