-- Words and names are read exactly if a text is one.
use Rattle.std.proofs.Common.{◌≡◌, ℕ, List, [], ◌∷◌, length, cond, eqb, Some, None, Bor, Result, Ok, Err, refl, ap, ◌∙◌, subst, inl, inr, arith}
use Rattle.std.specs.Option.{option_copied}
use Rattle.std.specs.Result.{result_ok}
use Rattle.std.specs.Str.{is_utf8}
use Rattle.std.specs.declared.str.Utf8Error.{Utf8Error}
use Rattle.std.proofs.lemmas.Bool.{cases_Bool, eqb-false, ne_eqb}
use Rattle.std.proofs.lemmas.Option.{cond_some, option_and_then_some, none-some, same_Some}
use Rattle.std.proofs.lemmas.Str.{IsUtf8-from_is_utf8, is_utf8-from_IsUtf8}
use Rattle.common.specs.Ascii.{cut}
use Rattle.common.proofs.AsciiLaws.{LacksByte-cut, cut-missing, cut-whole}
use Rattle.common.proofs.Numbers.{Decodes}
use Rattle.common.proofs.Options.{cases_option}
use Rattle.device_texts.specs.LineReading.{name_of, word_of}
use Rattle.device_texts.specs.LineText.{IsName, IsWord}

-- A text that is a word is read as that word.
pub word_of-text : (word : List ℕ) → IsWord word → word_of word ≡ Some word
unfolding word_of
word_of-text [] is = absurd (is.0 refl)
word_of-text (b ∷ bs) is =
    rw (cut-missing 32 (b ∷ bs) is.1, ne_eqb (length (b ∷ bs)) 0 (λ e. omega arith)) refl

-- A word that is read is the text.
pub word_of-spelled : (text word : List ℕ) → word_of text ≡ Some word → IsWord word × (text ≡ word)
unfolding word_of
word_of-spelled text word read =
    let first = (cut 32 text).0 in
    elim (cases_option (cut 32 text).1) [
      | inl none ↦
          let read = rw none at read in
          elim (cases_Bool (eqb (length first) 0)) [
            | inl empty ↦ absurd (none-some word (rw empty at read))
            | inr some ↦
                let same : first ≡ word = same_Some first word (rw some at read) in
                let is_word : IsWord first =
                (λ e. eqb-false (length first) 0 some (ap (λ (t : List ℕ). length t) e), LacksByte-cut 32 text) in
                (subst IsWord same is_word, cut-whole 32 text none ∙ same)
          ]
      | inr more ↦ absurd (none-some word (rw more.1 at read))
    ]

-- A text that is a name is read as that name.
pub name_of-text : (name : List ℕ) → IsName name → name_of name ≡ Some name
unfolding name_of
name_of-text name is = rw (word_of-text name is.0, is_utf8-from_IsUtf8 name is.1) refl

pub name_of-spelled : (text name : List ℕ) → name_of text ≡ Some name → IsName name × (text ≡ name)
unfolding name_of
name_of-spelled text name read =
    option_and_then_some _ (word_of text) name read (λ word is_word from_utf8.
    let found = cond_some (is_utf8 word) word name from_utf8 in
    let spelled = word_of-spelled text word is_word in
    let named : IsName word = (spelled.0, IsUtf8-from_is_utf8 word found.0) in
    (subst IsName found.1 named, spelled.1 ∙ found.1))

-- A text is decoded exactly if it is UTF-8.
pub decoded_text : (text : List ℕ) (r : Result (Bor (List ℕ)) Utf8Error) → Decodes text r
    → option_copied (result_ok r) ≡ cond (is_utf8 text) (Some text) None
decoded_text text (Ok x) decodes = rw (decodes.0, is_utf8-from_IsUtf8 text decodes.1) refl
decoded_text text (Err e) decodes =
    elim (cases_Bool (is_utf8 text)) [
      | inl is ↦ absurd (decodes.0 (IsUtf8-from_is_utf8 text is))
      | inr isnt ↦ rw isnt refl
    ]
