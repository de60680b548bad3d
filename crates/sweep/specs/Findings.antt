-- What the findings of a sweep say, in words: events, writes, marks and ways to tear a write.
use Rattle.std.specs.Prelude.{ℕ, ◌+◌, ◌-◌, ◌==◌, ◌&&◌, Bool, List, [], ◌∷◌, ◌++◌, None, Option, Some, codes, if◌then◌else◌, get_or, length, nat_le}
use Rattle.std.specs.List.{flat_map, slice_range}
use Rattle.machine.specs.declared.event.Event.{Event}
use Rattle.machine.specs.declared.event.Event.TheVariants as event
use Rattle.sweep.specs.declared.cuts.Tear.{Tear}
use Rattle.sweep.specs.declared.cuts.Tear.TheVariants as tear
use Rattle.sweep.specs.declared.found.Found.{Found}
use Rattle.sweep.specs.declared.marks.Mark.{Mark}
use Rattle.sweep.specs.declared.marks.Mark.TheVariants.{NotTried, All, Several}
use Rattle.sweep.specs.declared.notes.BootOutcome.TheVariants as boot

-- No boot was refused, and no run had an unexpected end.
abbrev pub is_good : Found → Bool
is_good found = found.others.runs == 0 && found.refused.runs == 0

-- The word for an event in a script.
abbrev pub kind_text : Event (Unit {0}) → List ℕ
kind_text (event.Accept bytes) = codes "accept"
kind_text (event.Piece image bytes) = codes "piece"
kind_text (event.Finish image) = codes "finish"
kind_text (event.Withdraw image) = codes "withdraw"
kind_text (event.Confirm image) = codes "confirm"
kind_text event.Boot = codes "boot"
kind_text event.Reset = codes "reset"

-- The image of an event, if it has one.
abbrev pub image_of : Event (Unit {0}) → Option ℕ
image_of (event.Accept bytes) = None
image_of (event.Piece image bytes) = Some image
image_of (event.Finish image) = Some image
image_of (event.Withdraw image) = Some image
image_of (event.Confirm image) = Some image
image_of event.Boot = None
image_of event.Reset = None

-- The number of writes before the event of this index, of events with these numbers of writes up to
-- their ends. An event without a number has none.
abbrev pub writes_before : List ℕ → ℕ → ℕ
writes_before writes event = if event == 0 then 0 else get_or writes (event - 1) 0

-- The marks between two numbers of writes. Without them all there are none.
abbrev pub marks_between : List Mark → ℕ → ℕ → List Mark
marks_between marks first end =
    if nat_le first end && nat_le end (length marks) then slice_range marks first end else []

-- The marks of the writes of the event of this index.
abbrev pub marks_of : Found → ℕ → List Mark
marks_of found event =
    let before = writes_before found.writes.items event in
    marks_between found.marks.items before (get_or found.writes.items event before)

-- The character of a mark.
abbrev pub mark_text : Mark → List ℕ
mark_text NotTried = codes "_"
mark_text Several = codes "*"
mark_text (All boot.Plain) = codes "."
mark_text (All boot.Trial) = codes "t"
mark_text (All boot.Permanent) = codes "p"
mark_text (All boot.Reverted) = codes "r"
mark_text (All boot.TrialAgain) = codes "a"
mark_text (All boot.Refused) = codes "x"

abbrev pub marks_text : List Mark → List ℕ
marks_text marks = flat_map mark_text marks

-- The name of a way to tear a write.
abbrev pub tear_text : Tear → List ℕ
tear_text tear.Keep = codes "keep"
tear_text tear.Done = codes "done"
tear_text tear.Ones = codes "hex:ff"
tear_text tear.Zeros = codes "hex:00"
tear_text tear.Magic = codes "hex:77c295f360d2ef7f3552500f2cb67980"
tear_text tear.Half = codes "half"

-- What a function says of each value and its number, from this number on.
abbrev pub numbered : {A B : Type 0} → (ℕ → A → List B) → ℕ → List A → List B
numbered said n [] = []
numbered said n (x ∷ xs) = said n x ++ numbered said (n + 1) xs
