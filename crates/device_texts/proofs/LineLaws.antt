-- A text is read as a line exactly if it is the text of that line.
use Rattle.std.proofs.Common.{◌≡◌, ℕ, ◌%◌, ◌^◌, ◌<◌, ◌≤◌, List, [], ◌∷◌, ◌++◌, length, eqb, Option, Some, None, refl, sym, ap, ◌∙◌, subst, inl, inr, arith}
use Rattle.std.specs.Prelude.{IfNone, IfSome, codes, decimal, option_and_then, option_map}
use Rattle.std.specs.Char.{is_ascii_hexdigit}
use Rattle.std.specs.List.{list_all}
use Rattle.std.proofs.lemmas.Bool.{and_parts, cases_Bool, eq-eqb, eqb-true, eqb-false, ne_eqb}
use Rattle.std.proofs.lemmas.List.Sums.{AllPass-from_list_all, list_all-from_AllPass}
use Rattle.std.proofs.lemmas.Option.{cond_some, option_and_then_some, none-some, same_Some}
use Rattle.common.specs.Ascii.{cut, number_below, number_of}
use Rattle.common.specs.Lines.{◌␣◌}
use Rattle.common.proofs.AsciiLaws.{LacksByte-decimal, cut-found, cut-missing, cut-parts, cut-whole, number_below-decimal, number_below-spelled, number_of-decimal, number_of-spelled}
use Rattle.common.proofs.Options.{cases_option, option_map-Some}
use Rattle.common.proofs.Words.{on_word}
use Rattle.machine.specs.declared.event.Event.TheVariants as event
use Rattle.device_texts.specs.declared.line.Line.{Line}
use Rattle.device_texts.specs.LineReading.{accept_of, cut_line_of, event_at, first_word, hex_of, image_event, line_at, name_of, part_of, piece_of, piece_with, said_of, torn_of, two_words, word_of}
use Rattle.device_texts.specs.LineText.{AreDigits, FitsEvent, FitsPart, FitsTorn, IsLineText, IsName, event_text, line_text, piece_text, torn_text}
use Rattle.device_texts.specs.Said.{PartWords, Said, SaidEvent, SaidTorn, file_of, said, Cut, Done, Event, Hex, Keep}
use Rattle.device_texts.proofs.WordLaws.{name_of-spelled, name_of-text, word_of-spelled, word_of-text}

-- ---- the text of a line is read as that line

part_of-text : (part : PartWords) → FitsPart (Some part) → part_of (part.from ␣ part.count) ≡ Some part
unfolding part_of
part_of-text part fits =
    rw (
      cut-found 32 part.from part.count fits.0.1,
      word_of-text part.from fits.0,
      word_of-text part.count fits.1,
    ) refl

hex_of-text : (digits : List ℕ) → AreDigits digits → hex_of digits ≡ Some (Hex digits)
unfolding hex_of
hex_of-text [] are = absurd (are.0 refl)
hex_of-text (d ∷ ds) are =
    rw (
      ne_eqb (length (d ∷ ds)) 0 (λ e. omega arith),
      eq-eqb (length (d ∷ ds) % 2) 0 are.1,
      list_all-from_AllPass is_ascii_hexdigit (d ∷ ds) are.2,
    ) refl

torn_of-hex : (digits : List ℕ) → torn_of (codes "hex:" ++ digits) ≡ hex_of digits
unfolding torn_of cut
torn_of-hex digits = refl

torn_of-text : (torn : SaidTorn) → FitsTorn torn → torn_of (torn_text torn) ≡ Some torn
unfolding torn_of
torn_of-text Keep fits = refl
torn_of-text Done fits = refl
torn_of-text (Hex digits) fits = torn_of-hex digits ∙ hex_of-text digits fits

cut_line_of-text : (write : ℕ) (torn : SaidTorn) → 1 ≤ write → write < 2 ^ 32 → FitsTorn torn
    → cut_line_of (decimal write ␣ torn_text torn) ≡ Some (Cut write torn)
unfolding cut_line_of
cut_line_of-text write torn some fits torn_fits =
    rw (
      cut-found 32 (decimal write) (torn_text torn) (LacksByte-decimal 32 write (omega arith) (omega arith)),
      number_of-decimal write fits,
      torn_of-text torn torn_fits,
      ne_eqb write 0 (λ e. omega arith),
    ) refl

accept_of-text : (name : List ℕ) → IsName name → accept_of name ≡ Some (event.Accept (file_of name None))
unfolding accept_of
accept_of-text name named = rw (name_of-text name named) refl

piece_of-whole : (image : ℕ) (file : List ℕ) → FitsEvent (event.Piece image (file_of file None))
    → piece_of (decimal image ␣ file) ≡ Some (event.Piece image (file_of file None))
unfolding piece_of
piece_of-whole image file (small, named, whole) =
    rw (
      cut-found 32 (decimal image) file (LacksByte-decimal 32 image (omega arith) (omega arith)),
      number_below-decimal (2 ^ 8) image small (omega arith),
      cut-missing 32 file named.0.1,
      name_of-text file named,
    ) refl

piece_of-part : (image : ℕ) (file : List ℕ) (part : PartWords)
    → FitsEvent (event.Piece image (file_of file (Some part)))
    → piece_of (decimal image ␣ file ␣ part.from ␣ part.count) ≡ Some (event.Piece image (file_of file (Some part)))
unfolding piece_of
piece_of-part image file part (small, named, fits) =
    rw (
      cut-found 32 (decimal image) (file ␣ part.from ␣ part.count)
          (LacksByte-decimal 32 image (omega arith) (omega arith)),
      number_below-decimal (2 ^ 8) image small (omega arith),
      cut-found 32 file (part.from ␣ part.count) named.0.1,
      name_of-text file named,
      part_of-text part fits,
    ) refl

-- The first word decides which fields follow.
said_of-cut : (fields : List ℕ) → said_of (codes "cut" ␣ fields) ≡ cut_line_of fields
unfolding said_of cut
said_of-cut fields = refl

said_of-accept : (fields : List ℕ)
    → said_of (codes "accept" ␣ fields) ≡ option_map (λ happened. Event happened) (accept_of fields)
unfolding said_of event_at cut
said_of-accept fields = refl

said_of-piece : (fields : List ℕ)
    → said_of (codes "piece" ␣ fields) ≡ option_map (λ happened. Event happened) (piece_of fields)
unfolding said_of event_at cut
said_of-piece fields = refl

-- A line that begins with this word is an event of the image that its field names.
abbrev ReadsImage : List ℕ → Type 0
ReadsImage word = (fields : List ℕ)
    → said_of (word ␣ fields)
    ≡ option_map (λ happened. Event happened) (option_and_then (image_event word) (number_below (2 ^ 8) fields))

said_of-finish : ReadsImage (codes "finish")
unfolding said_of event_at cut
said_of-finish fields = refl

said_of-withdraw : ReadsImage (codes "withdraw")
unfolding said_of event_at cut
said_of-withdraw fields = refl

said_of-confirm : ReadsImage (codes "confirm")
unfolding said_of event_at cut
said_of-confirm fields = refl

said_of-boot : said_of (codes "boot") ≡ Some (Event event.Boot)
unfolding said_of
said_of-boot = refl

said_of-reset : said_of (codes "reset") ≡ Some (Event event.Reset)
unfolding said_of
said_of-reset = refl

-- The text of a piece that fits is read as that piece.
said_of-piece-line : (image : ℕ) (name : List ℕ) (part : Option PartWords)
    → FitsEvent (event.Piece image (file_of name part))
    → said_of (piece_text image name part) ≡ Some (Event (event.Piece image (file_of name part)))
said_of-piece-line image name None fits =
    said_of-piece (decimal image ␣ name) ∙ ap (option_map (λ happened. Event happened)) (piece_of-whole image name fits)
said_of-piece-line image name (Some part) fits =
    said_of-piece (decimal image ␣ name ␣ part.from ␣ part.count)
    ∙ ap (option_map (λ happened. Event happened)) (piece_of-part image name part fits)

-- The text of a line that fits is read as that line.
said_of-line : (found : Said) → IsLineText (line_text found) found → said_of (line_text found) ≡ Some found
said_of-line (Cut write torn) ((some, fits, torn_fits), is) =
    said_of-cut (decimal write ␣ torn_text torn) ∙ cut_line_of-text write torn some fits torn_fits
said_of-line (Event (event.Accept file)) ((named, whole), is) =
    said_of-accept file.name ∙ ap (option_map (λ happened. Event happened)) (accept_of-text file.name named)
    ∙ ap (λ part. Some (Event (event.Accept (file_of file.name part)))) (sym whole)
said_of-line (Event (event.Piece image file)) (fits, is) = said_of-piece-line image file.name file.part fits
said_of-line (Event (event.Finish image)) (small, is) =
    said_of-finish (decimal image) ∙ rw (number_below-decimal (2 ^ 8) image small (omega arith)) refl
said_of-line (Event (event.Withdraw image)) (small, is) =
    said_of-withdraw (decimal image) ∙ rw (number_below-decimal (2 ^ 8) image small (omega arith)) refl
said_of-line (Event (event.Confirm image)) (small, is) =
    said_of-confirm (decimal image) ∙ rw (number_below-decimal (2 ^ 8) image small (omega arith)) refl
said_of-line (Event event.Boot) is = said_of-boot
said_of-line (Event event.Reset) is = said_of-reset

pub said_of-text : (text : List ℕ) (found : Said) → IsLineText text found → said_of text ≡ Some found
said_of-text text found (fits, is) = ap said_of is ∙ said_of-line found (fits, refl)

-- ---- a line that is read has that text

first_word-spelled : {A : Type 0} (read : List ℕ → Option A) (text : List ℕ) (found : A × List ℕ)
    → first_word read text ≡ Some found
    → (word : List ℕ) × (read word ≡ Some found.0) × (text ≡ word ␣ found.1)
first_word-spelled read text found is =
    option_and_then_some _ (read (cut 32 text).0) found is (λ first is_first after_first.
    option_and_then_some _ (cut 32 text).1 found after_first (λ rest is_rest made.
    subst (λ (f : _ × List ℕ). (word : List ℕ) × (read word ≡ Some f.0) × (text ≡ word ␣ f.1))
    (same_Some (first, rest) found made) ((cut 32 text).0, is_first, cut-parts 32 text rest is_rest)))

-- What two words say, if `Says` and `SaysRest` tie each of them to what is read of it.
two_words-spelled : {A B : Type 0} (read : List ℕ → Option A) (read_rest : List ℕ → Option B)
    (Says : List ℕ → A → Type 0) (SaysRest : List ℕ → B → Type 0)
    → ((word : List ℕ) (a : A) → read word ≡ Some a → Says word a)
    → ((rest : List ℕ) (b : B) → read_rest rest ≡ Some b → SaysRest rest b)
    → (text : List ℕ) (found : A × B) → two_words read read_rest text ≡ Some found
    → (word : List ℕ) × (rest : List ℕ) × Says word found.0 × SaysRest rest found.1 × (text ≡ word ␣ rest)
two_words-spelled read read_rest Says SaysRest says says_rest text found is =
    option_and_then_some _ (first_word read text) found is (λ words is_words after_words.
    option_and_then_some _ (read_rest words.1) found after_words (λ last is_last made.
    let (word, is_word, parts) = first_word-spelled read text words is_words in
    subst (λ (f : _ × _). (word : List ℕ) × (rest : List ℕ) × Says word f.0 × SaysRest rest f.1 × (text ≡ word ␣ rest))
    (same_Some (words.0, last) found made)
    (word, words.1, says word words.0 is_word, says_rest words.1 last is_last, parts)))

part_of-spelled : (text : List ℕ) (part : PartWords) → part_of text ≡ Some part
    → FitsPart (Some part) × (text ≡ part.from ␣ part.count)
unfolding part_of
part_of-spelled text part read =
    option_and_then_some _ (two_words word_of word_of text) part read (λ words is_words made.
    let (word, rest, from, count, parts) =
    two_words-spelled word_of word_of _ _ word_of-spelled word_of-spelled text words is_words in
    subst (λ (p : PartWords). FitsPart (Some p) × (text ≡ p.from ␣ p.count))
    (same_Some (record { from = words.0; count = words.1 }) part made)
    ((from.0, count.0), parts ∙ ap (λ t. t ␣ rest) from.1 ∙ ap (λ t. words.0 ␣ t) count.1))

hex_of-spelled : (digits : List ℕ) (torn : SaidTorn) → hex_of digits ≡ Some torn
    → FitsTorn torn × (codes "hex:" ++ digits ≡ torn_text torn)
unfolding hex_of
hex_of-spelled digits torn read =
    elim (cases_Bool (eqb (length digits) 0)) [
      | inl empty ↦ absurd (none-some torn (rw empty at read))
      | inr some ↦
          let found = cond_some _ (Hex digits) torn (rw some at read) in
          let tests = and_parts (eqb (length digits % 2) 0) (list_all is_ascii_hexdigit digits) found.0 in
          let are : AreDigits digits = (
            λ e. eqb-false (length digits) 0 some (ap (λ (t : List ℕ). length t) e),
            eqb-true (length digits % 2) 0 tests.0,
            AllPass-from_list_all is_ascii_hexdigit digits tests.1,
          ) in
          subst (λ (t : SaidTorn). FitsTorn t × (codes "hex:" ++ digits ≡ torn_text t)) found.1 (are, refl)
    ]

torn_of-spelled : (word : List ℕ) (torn : SaidTorn) → torn_of word ≡ Some torn
    → FitsTorn torn × (word ≡ torn_text torn)
unfolding torn_of
torn_of-spelled word torn read =
    let Is = λ (text : List ℕ). λ (t : SaidTorn). FitsTorn t × (text ≡ torn_text t) in
    let Says = λ (text : List ℕ). Is text torn in
    on_word word (codes "keep") Says
    (λ is. subst (Is (codes "keep")) (same_Some Keep torn (rw is at read)) (tt, refl)) (λ not_keep.
    let read = rw not_keep at read in
    on_word word (codes "done") Says
    (λ is. subst (Is (codes "done")) (same_Some Done torn (rw is at read)) (tt, refl)) (λ not_done.
    option_and_then_some _ (cut 58 word).1 torn (rw not_done at read) (λ digits is_digits read.
    subst Says (sym (cut-parts 58 word digits is_digits))
    (on_word (cut 58 word).0 (codes "hex") (λ kind. Says (kind ++ 58 ∷ digits))
    (λ is. hex_of-spelled digits torn (rw is at read)) (λ not_hex. absurd (none-some torn (rw not_hex at read)))))))

cut_line_of-spelled : (fields : List ℕ) (found : Said) → cut_line_of fields ≡ Some found
    → IsLineText (codes "cut" ␣ fields) found
unfolding cut_line_of
cut_line_of-spelled fields found read =
    option_and_then_some _ (two_words number_of torn_of fields) found read (λ words is_words made.
    let (word, rest, write, torn, parts) =
    two_words-spelled number_of torn_of _ _ number_of-spelled torn_of-spelled fields words is_words in
    let whole : fields ≡ decimal words.0 ␣ torn_text words.1 =
    parts ∙ ap (λ t. t ␣ rest) write.0 ∙ ap (λ t. decimal words.0 ␣ t) torn.1 in
    elim (cases_Bool (eqb words.0 0)) [
      | inl zero ↦ absurd (none-some found (rw zero at made))
      | inr some ↦
          let counted : 1 ≤ words.0 = omega (arith, eqb-false words.0 0 some) in
          subst (λ (s : Said). IsLineText (codes "cut" ␣ fields) s)
          (same_Some (Cut words.0 words.1) found (rw some at made))
          ((counted, write.1, torn.0), ap (λ t. codes "cut" ␣ t) whole)
    ])

-- A text is that of an event, which fits.
abbrev SaysEvent : List ℕ → SaidEvent → Type 0
SaysEvent text happened = FitsEvent happened × (text ≡ event_text happened)

accept_of-spelled : (fields : List ℕ) (happened : SaidEvent) → accept_of fields ≡ Some happened
    → SaysEvent (codes "accept" ␣ fields) happened
unfolding accept_of
accept_of-spelled fields happened read =
    let (name, is_name, made) = option_map-Some _ (name_of fields) happened read in
    let found = name_of-spelled fields name is_name in
    subst (λ (e : SaidEvent). SaysEvent (codes "accept" ␣ fields) e) made
    ((found.0, refl), ap (λ t. codes "accept" ␣ t) found.1)

piece_with-spelled : (image : ℕ) (file rest : List ℕ) (happened : SaidEvent) → image < 2 ^ 8
    → name_of (cut 32 rest).0 ≡ Some file → piece_with image file (cut 32 rest).1 ≡ Some happened
    → SaysEvent (codes "piece" ␣ decimal image ␣ rest) happened
piece_with-spelled image file rest happened small is_file read =
    let file_found = name_of-spelled (cut 32 rest).0 file is_file in
    elim (cases_option (cut 32 rest).1) [
      | inl none ↦
          let whole : rest ≡ file = cut-whole 32 rest none ∙ file_found.1 in
          subst (λ (e : SaidEvent). SaysEvent (codes "piece" ␣ decimal image ␣ rest) e)
          (same_Some (event.Piece image (file_of file None)) happened (rw none at read))
          ((small, file_found.0, tt), ap (λ t. codes "piece" ␣ decimal image ␣ t) whole)
      | inr (words, some) ↦
          option_and_then_some _ (part_of words) happened (rw some at read) (λ part is_part made.
          let part_found = part_of-spelled words part is_part in
          let whole : rest ≡ file ␣ part.from ␣ part.count =
          rw file_found.1 at (cut-parts 32 rest words some) ∙ ap (λ t. file ␣ t) part_found.1 in
          subst (λ (e : SaidEvent). SaysEvent (codes "piece" ␣ decimal image ␣ rest) e)
          (same_Some (event.Piece image (file_of file (Some part))) happened made)
          ((small, file_found.0, part_found.0), ap (λ t. codes "piece" ␣ decimal image ␣ t) whole))
    ]

piece_of-spelled : (fields : List ℕ) (happened : SaidEvent) → piece_of fields ≡ Some happened
    → SaysEvent (codes "piece" ␣ fields) happened
unfolding piece_of
piece_of-spelled fields happened read =
    option_and_then_some _ (first_word (number_below (2 ^ 8)) fields) happened read (λ image is_image from_file.
    option_and_then_some _ (name_of (cut 32 image.1).0) happened from_file (λ file is_file from_part.
    let (word, is_word, parts) = first_word-spelled (number_below (2 ^ 8)) fields image is_image in
    let image_found = number_below-spelled (2 ^ 8) word image.0 is_word in
    let whole : fields ≡ decimal image.0 ␣ image.1 = parts ∙ ap (λ t. t ␣ image.1) image_found.0 in
    rw whole (piece_with-spelled image.0 file image.1 happened image_found.1 is_file from_part)))

image_event-spelled : (word : List ℕ) (image : ℕ) (happened : SaidEvent) → image < 2 ^ 8
    → image_event word image ≡ Some happened → SaysEvent (word ␣ decimal image) happened
image_event-spelled word image happened small read =
    let Is = λ (text : List ℕ). λ (event : SaidEvent). SaysEvent (text ␣ decimal image) event in
    let Says = λ (text : List ℕ). Is text happened in
    on_word word (codes "finish") Says
    (λ is. subst (Is (codes "finish")) (same_Some (event.Finish image) happened (rw is at read)) (small, refl))
    (λ not_finish.
    let read = rw not_finish at read in
    on_word word (codes "withdraw") Says
    (λ is. subst (Is (codes "withdraw")) (same_Some (event.Withdraw image) happened (rw is at read)) (small, refl))
    (λ not_withdraw.
    let read = rw not_withdraw at read in
    on_word word (codes "confirm") Says
    (λ is. subst (Is (codes "confirm")) (same_Some (event.Confirm image) happened (rw is at read)) (small, refl))
    (λ not_confirm. absurd (none-some happened (rw not_confirm at read)))))

event_at-spelled : (word fields : List ℕ) (happened : SaidEvent) → event_at word fields ≡ Some happened
    → SaysEvent (word ␣ fields) happened
unfolding event_at
event_at-spelled word fields happened read =
    let Says = λ (text : List ℕ). SaysEvent (text ␣ fields) happened in
    on_word word (codes "accept") Says (λ is. accept_of-spelled fields happened (rw is at read)) (λ not_accept.
    let read = rw not_accept at read in
    on_word word (codes "piece") Says (λ is. piece_of-spelled fields happened (rw is at read)) (λ not_piece.
    option_and_then_some _ (number_below (2 ^ 8) fields) happened (rw not_piece at read) (λ image is_image made.
    let found = number_below-spelled (2 ^ 8) fields image is_image in
    rw found.0 (image_event-spelled word image happened found.1 made))))

line_at-spelled : (word fields : List ℕ) (found : Said) → line_at word fields ≡ Some found
    → IsLineText (word ␣ fields) found
line_at-spelled word fields found read =
    on_word word (codes "cut") (λ text. IsLineText (text ␣ fields) found)
    (λ is. cut_line_of-spelled fields found (rw is at read)) (λ not_cut.
    let (happened, is_event, made) = option_map-Some _ (event_at word fields) found (rw not_cut at read) in
    subst (λ (s : Said). IsLineText (word ␣ fields) s) made (event_at-spelled word fields happened is_event))

-- A text that is read as a line is the text of that line.
pub said_of-spelled : (text : List ℕ) (found : Said) → said_of text ≡ Some found → IsLineText text found
unfolding said_of
said_of-spelled text found read =
    let Says = λ (said : List ℕ). IsLineText said found in
    on_word text (codes "boot") Says
    (λ is. subst (IsLineText (codes "boot")) (same_Some (Event event.Boot) found (rw is at read)) (tt, refl))
    (λ not_boot.
    let read = rw not_boot at read in
    on_word text (codes "reset") Says
    (λ is. subst (IsLineText (codes "reset")) (same_Some (Event event.Reset) found (rw is at read)) (tt, refl))
    (λ not_reset.
    option_and_then_some _ (cut 32 text).1 found (rw not_reset at read) (λ fields is_fields read_on.
    rw (cut-parts 32 text fields is_fields) (line_at-spelled (cut 32 text).0 fields found read_on))))

-- ---- laws of the public calls

-- A text is that of at most one line.
pub one_line : (text : List ℕ) (one other : Said) → IsLineText text one → IsLineText text other → one ≡ other
one_line text one other says_one says_other =
    same_Some one other (sym (said_of-text text one says_one) ∙ said_of-text text other says_other)

pub says-read : (text : List ℕ) (result : Option Line) → option_map said result ≡ said_of text
    → IfSome result (λ found. IsLineText text (said found))
says-read text None read = tt
says-read text (Some found) read = said_of-spelled text (said found) (sym read)

pub other-read : (text : List ℕ) (result : Option Line) → option_map said result ≡ said_of text
    → IfNone result ((found : Said) → IsLineText text found → ⊥)
other-read text None read = λ found says. none-some found (read ∙ said_of-text text found says)
other-read text (Some line) read = tt
