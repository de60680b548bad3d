-- Reading a line from left to right, step by step. Words are split at spaces (32), the first word
-- names the kind of the line, and the last field is the rest of the line. The reader follows these
-- steps. `LineText` defines what they mean.
use Rattle.std.specs.Prelude.{ℕ, ◌%◌, ◌^◌, ◌==◌, ◌&&◌, ◌||◌, List, length, Option, Some, None, codes, is_some, option_and_then, option_map, if◌then◌else◌}
use Rattle.std.specs.Char.{is_ascii_hexdigit}
use Rattle.std.specs.List.{list_all}
use Rattle.std.specs.Str.{bytes_eq, is_utf8}
use Rattle.common.specs.Ascii.{number_of, number_below, cut}
use Rattle.machine.specs.declared.event.Event.TheVariants as event
use Rattle.device_texts.specs.Said.{PartWords, Said, SaidEvent, SaidTorn, file_of, Cut, Done, Event, Hex, Keep}

infixl 10 ◌>>=◌
abbrev pub ◌>>=◌ : {A B : Type 0} → Option A → (A → Option B) → Option B
o >>= f = option_and_then f o

-- A text as a word: at least one byte, and no space.
unfoldable pub word_of : List ℕ → Option (List ℕ)
word_of text =
    let words = cut 32 text in
    if is_some words.1 || length words.0 == 0 then None else Some words.0

-- A text as the name of a file: a word in UTF-8.
unfoldable pub name_of : List ℕ → Option (List ℕ)
name_of text = do
  word ← word_of text
  if is_utf8 word then Some word else None

-- The first word of a text, by this reading of it, and the text after the word.
abbrev pub first_word : {A : Type 0} → (List ℕ → Option A) → List ℕ → Option (A × List ℕ)
first_word read text = do
  let words = cut 32 text
  first ← read words.0
  rest ← words.1
  Some (first, rest)

-- The first word of a text, and the text after it, by these readings of them.
abbrev pub two_words : {A B : Type 0} → (List ℕ → Option A) → (List ℕ → Option B) → List ℕ
    → Option (A × B)
two_words read read_rest text = do
  words ← first_word read text
  rest ← read_rest words.1
  Some (words.0, rest)

-- The words FROM and COUNT.
unfoldable pub part_of : List ℕ → Option PartWords
part_of text = do
  words ← two_words word_of word_of text
  Some (record { from = words.0; count = words.1 })

-- The digits after `hex:`.
unfoldable pub hex_of : List ℕ → Option SaidTorn
hex_of digits =
    if length digits == 0 then None
    else (if length digits % 2 == 0 && list_all is_ascii_hexdigit digits
    then Some (Hex digits) else None)

-- What a cut leaves. A colon (58) separates `hex` from the digits.
unfoldable pub torn_of : List ℕ → Option SaidTorn
torn_of word =
    if bytes_eq word (codes "keep") then Some Keep
    else (if bytes_eq word (codes "done") then Some Done else (do
      let parts = cut 58 word
      digits ← parts.1
      if bytes_eq parts.0 (codes "hex") then hex_of digits else None))

-- The fields after `cut`: the number of a write, and what it leaves.
unfoldable pub cut_line_of : List ℕ → Option Said
cut_line_of fields = do
  words ← two_words number_of torn_of fields
  if words.0 == 0 then None else Some (Cut words.0 words.1)

-- The field after `accept`: the name of a file, which is taken complete.
unfoldable pub accept_of : List ℕ → Option SaidEvent
accept_of fields = option_map (λ name. event.Accept (file_of name None)) (name_of fields)

-- A piece from the file with this name. If nothing follows the name, the piece is the complete
-- file.
abbrev pub piece_with : ℕ → List ℕ → Option (List ℕ) → Option SaidEvent
piece_with image name None = Some (event.Piece image (file_of name None))
piece_with image name (Some rest) =
    option_and_then (λ part. Some (event.Piece image (file_of name (Some part)))) (part_of rest)

-- The fields after `piece`: the number of an image, the name of a file, and the part of it.
unfoldable pub piece_of : List ℕ → Option SaidEvent
piece_of fields = do
  image ← first_word (number_below (2 ^ 8)) fields
  let words = cut 32 image.1
  name ← name_of words.0
  piece_with image.0 name words.1

-- The event of an image that a word names.
abbrev pub image_event : List ℕ → ℕ → Option SaidEvent
image_event word image =
    if bytes_eq word (codes "finish") then Some (event.Finish image)
    else (if bytes_eq word (codes "withdraw") then Some (event.Withdraw image)
    else (if bytes_eq word (codes "confirm") then Some (event.Confirm image) else None))

-- The event that begins with this word, with these fields after it.
unfoldable pub event_at : List ℕ → List ℕ → Option SaidEvent
event_at word fields =
    if bytes_eq word (codes "accept") then accept_of fields
    else (if bytes_eq word (codes "piece") then piece_of fields
    else option_and_then (image_event word) (number_below (2 ^ 8) fields))

-- The line that begins with this word, with these fields after it.
abbrev pub line_at : List ℕ → List ℕ → Option Said
line_at word fields =
    if bytes_eq word (codes "cut") then cut_line_of fields
    else option_map (λ happened. Event happened) (event_at word fields)

-- The line of a text.
unfoldable pub said_of : List ℕ → Option Said
said_of text =
    if bytes_eq text (codes "boot") then Some (Event event.Boot)
    else (if bytes_eq text (codes "reset") then Some (Event event.Reset) else (do
      let words = cut 32 text
      fields ← words.1
      line_at words.0 fields))
