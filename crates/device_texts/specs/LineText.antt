-- The text of each line of a script.
use Rattle.std.specs.Prelude.{◌≡◌, ◌≢◌, ℕ, ◌%◌, ◌^◌, ◌<◌, ◌≤◌, List, [], ◌++◌, length, Option, Some, None, IsUtf8, codes, decimal}
use Rattle.std.specs.Char.{is_ascii_hexdigit}
use Rattle.std.specs.List.{AllPass}
use Rattle.common.specs.Ascii.{LacksByte}
use Rattle.common.specs.Lines.{◌␣◌}
use Rattle.machine.specs.declared.event.Event.TheVariants as event
use Rattle.device_texts.specs.Said.{PartWords, Said, SaidEvent, SaidTorn, Cut, Done, Event, Hex, Keep}

-- A word: at least one byte, and no space.
abbrev pub IsWord : List ℕ → Type 0
IsWord word = (word ≢ []) × LacksByte 32 word

-- The name of a file: a word in UTF-8.
abbrev pub IsName : List ℕ → Type 0
IsName name = IsWord name × IsUtf8 name

-- The digits of at least one byte, two for each, in upper or lower case.
abbrev pub AreDigits : List ℕ → Type 0
AreDigits digits = (digits ≢ []) × (length digits % 2 ≡ 0) × AllPass is_ascii_hexdigit digits

abbrev pub torn_text : SaidTorn → List ℕ
torn_text Keep = codes "keep"
torn_text Done = codes "done"
torn_text (Hex digits) = codes "hex:" ++ digits

-- A piece: a complete file, or a part of it.
abbrev pub piece_text : ℕ → List ℕ → Option PartWords → List ℕ
piece_text image name None = codes "piece" ␣ decimal image ␣ name
piece_text image name (Some part) =
    codes "piece" ␣ decimal image ␣ name ␣ part.from ␣ part.count

abbrev pub event_text : SaidEvent → List ℕ
event_text (event.Accept file) = codes "accept" ␣ file.name
event_text (event.Piece image file) = piece_text image file.name file.part
event_text (event.Finish image) = codes "finish" ␣ decimal image
event_text (event.Withdraw image) = codes "withdraw" ␣ decimal image
event_text (event.Confirm image) = codes "confirm" ␣ decimal image
event_text event.Boot = codes "boot"
event_text event.Reset = codes "reset"

-- A line, without its line feed.
abbrev pub line_text : Said → List ℕ
line_text (Cut write torn) = codes "cut" ␣ decimal write ␣ torn_text torn
line_text (Event happened) = event_text happened

-- The fields of a line fit. The number of a write is at least 1 and has 32 bits. The number of an
-- image has 8 bits. Words are words, and a manifest is a complete file.
abbrev pub FitsTorn : SaidTorn → Type 0
FitsTorn Keep = Unit {0}
FitsTorn Done = Unit {0}
FitsTorn (Hex digits) = AreDigits digits

abbrev pub FitsPart : Option PartWords → Type 0
FitsPart None = Unit {0}
FitsPart (Some part) = IsWord part.from × IsWord part.count

abbrev pub FitsEvent : SaidEvent → Type 0
FitsEvent (event.Accept file) = IsName file.name × (file.part ≡ None)
FitsEvent (event.Piece image file) = (image < 2 ^ 8) × IsName file.name × FitsPart file.part
FitsEvent (event.Finish image) = image < 2 ^ 8
FitsEvent (event.Withdraw image) = image < 2 ^ 8
FitsEvent (event.Confirm image) = image < 2 ^ 8
FitsEvent event.Boot = Unit {0}
FitsEvent event.Reset = Unit {0}

abbrev pub FitsLine : Said → Type 0
FitsLine (Cut write torn) = (1 ≤ write) × (write < 2 ^ 32) × FitsTorn torn
FitsLine (Event happened) = FitsEvent happened

-- A text is that of a line.
abbrev pub IsLineText : List ℕ → Said → Type 0
IsLineText text said = FitsLine said × (text ≡ line_text said)
