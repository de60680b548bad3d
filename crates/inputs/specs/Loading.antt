-- The result of reading a script line by line, for the private contracts of its readers.
use Rattle.std.specs.Prelude.{◌≡◌, ◌≢◌, ◌⊎◌, ◌↔◌, ℕ, ◌+◌, List, [], ◌∷◌, ◌++◌, false, true, Bool, IfSome, IsTrue, Option, Some, Vec, length, map, slice_get, take}
use Rattle.std.specs.Borrow.{Bor}
use Rattle.std.specs.Io.KnownBytes.{Keeps}
use Rattle.std.specs.List.{AllZip}
use Rattle.common.specs.Lines.{lines_of}
use Rattle.machine.specs.declared.event.Event.{Event}
use Rattle.machine.specs.declared.event.Event.TheVariants as event
use Rattle.machine.specs.Event.{event_map}
use Rattle.flash_model.specs.declared.torn.Armed.{Armed}
use Rattle.device_texts.specs.declared.line.FileText.{FileText}
use Rattle.device_texts.specs.declared.line.Line.{Line}
use Rattle.device_texts.specs.InOrder.{AreInOrder, CanFollow}
use Rattle.device_texts.specs.LineText.{IsLineText}
use Rattle.device_texts.specs.Part.{AreNumbers}
use Rattle.device_texts.specs.Said.{PartWords, Said, SaidEvent, SaidFile, said, said_file}
use Rattle.device_texts.specs.Said as say
use Rattle.inputs.specs.declared.checking.BufferedInput.{BufferedInput}
use Rattle.inputs.specs.declared.lines.Lines.{Lines}
use Rattle.host.specs.declared.error.ScriptFault.{ScriptFault}
use Rattle.host.specs.declared.error.ScriptFault.TheVariants as fault
use Rattle.host.specs.Doings.{AreApart}
use Rattle.host.specs.Input.{FileBytes, IsKnownAs, KeepsFiles}
use Rattle.inputs.specs.ScriptFault.{AreNoNumbers, IsPartFault}
use Rattle.inputs.specs.Script.{AllCome, AllCut, IsCutBy, IsPieceOf, Known, ReadsFile, StaysKnown}

-- An event of the device, with its bytes as a list.
abbrev pub came_of : {A : Type 0} → Event (Vec ℕ A) → Event (List ℕ)
came_of read = event_map (λ bytes. bytes.items) read

-- Events of the device in order.
abbrev pub came_in : {A : Type 0} → List (Event (Vec ℕ A)) → List (Event (List ℕ))
came_in events = map came_of events

-- Knowledge of a host carries over from one of its states to another, and `Says` holds of both.
abbrev pub Passes : (Known → Known → Type 0) → Option (List ℕ) → FileBytes
    → Option (List ℕ) → FileBytes → Type 0
Passes Says old_input old_files new_input new_files =
    (known : Known) → StaysKnown known old_input old_files
    → (after : Known) × Says known after × StaysKnown after new_input new_files

-- `line` is the next line of a text, and can follow the lines before it.
pub record IsNextLine (old new : Lines) (line : Line) : Type 0 where
  pub text : List ℕ
  pub parts : lines_of old.rest.now ≡ text ∷ lines_of new.rest.now
  pub says : IsLineText text (said line)
  pub follows : (lines : List Said)
      → CanFollow new.order lines ↔ CanFollow old.order (said line ∷ lines)

-- A text isn't spelled as a line, or it is one that can't come.
abbrev pub IsTextFault : (Said → Type 0) → List ℕ → ScriptFault → Type 0
IsTextFault CanCome text fault.Spelling = (line : Said) → IsLineText text line → ⊥
IsTextFault CanCome text fault.Order =
    (line : Said) × IsLineText text line × (CanCome line → ⊥)
IsTextFault CanCome text other = ⊥

-- The next line of a text has this fault.
pub record IsWrongNext (old new : Lines) (why : ScriptFault) : Type 0 where
  pub text : List ℕ
  pub parts : lines_of old.rest.now ≡ text ∷ lines_of new.rest.now
  pub wrong : IsTextFault (λ line. CanFollow old.order (line ∷ [])) text why

-- The first fault of a line that names standard input, of which this is known, or a part of it.
abbrev pub IsInputFault : Bool → Option (List ℕ) → Option PartWords → ScriptFault → Type 0
IsInputFault is_read input part fault.InputRead = is_read ≡ true
IsInputFault is_read input part other = (is_read ≡ false) × IsPartFault part input other

-- Why these words name no part of an input of this length, if they name none.
abbrev pub IsPartReason : PartWords → ℕ → ScriptFault → Type 0
IsPartReason words many fault.PartNumbers = AreNoNumbers words
IsPartReason words many (fault.NoPart reported) =
    ((from : ℕ) × (count : ℕ) × AreNumbers words from count) × (reported ≡ Some many)
IsPartReason words many other = ⊥

-- What a line adds to the armed cuts.
abbrev pub AddsCut : Said → List Armed → List Armed → Type 0
AddsCut (say.Cut write torn) old new =
    (cut : Armed) × IsCutBy write torn cut × (new ≡ old ++ cut ∷ [])
AddsCut (say.Event happened) old new = new ≡ old

-- These are the cuts of any lines that the text can be read as.
abbrev pub AreCutsOf : List ℕ → List Armed → Type 0
AreCutsOf text cuts =
    (lines : List Said) → AllZip IsLineText (lines_of text) lines → AllCut lines cuts

-- These are the bytes that a line names, as read from a host of which this is known.
abbrev pub IsBuffered : BufferedInput → Option (List ℕ) → FileBytes → Type 0
IsBuffered item input files =
    Passes (ReadsFile (said_file item.file) item.bytes.items) input files input files

abbrev pub AreBuffered : List BufferedInput → Option (List ℕ) → FileBytes → Type 0
AreBuffered [] input files = Unit {0}
AreBuffered (item ∷ rest) input files = IsBuffered item input files × AreBuffered rest input files

-- The inputs that were buffered before are still buffered, as of each earlier state of the host.
-- The rest of standard input stays known as long as none of it is read.
abbrev pub KeepsBuffered : List BufferedInput → List BufferedInput → Bool → Bool
    → Option (List ℕ) → FileBytes → Option (List ℕ) → Type 0
KeepsBuffered old new was_read is_read input files new_input =
    (first_input : Option (List ℕ)) (first_files : FileBytes) → KeepsFiles first_files files
    → (was_read ≡ false → Keeps first_input input) → AreBuffered old first_input first_files
    → AreBuffered new first_input first_files × (is_read ≡ false → Keeps first_input new_input)

-- These are all bytes of a known input, or the part of them that two words name.
abbrev pub IsInputPiece : Option PartWords → Option (List ℕ) → List ℕ → Type 0
IsInputPiece part input piece =
    (bytes : List ℕ) × IsKnownAs input bytes × IsPieceOf part bytes piece

-- The bytes that a line names are read from these files. This holds for each state of a host in
-- which they were known.
abbrev pub ReadsNow : SaidFile → List ℕ → FileBytes → Type 0
ReadsNow file bytes files = (input : Option (List ℕ)) (first_files : FileBytes)
    → KeepsFiles first_files files
    → Passes (ReadsFile file bytes) input first_files input first_files

-- `Says` follows from the buffered inputs and these files, for each state of a host in which they
-- were known.
abbrev pub Loads : List BufferedInput → FileBytes → (Known → Known → Type 0) → Type 0
Loads buffered files Says = (input : Option (List ℕ)) (first_files : FileBytes)
    → KeepsFiles first_files files → AreBuffered buffered input first_files
    → Passes Says input first_files input first_files

-- The first `count` lines of a text are a prefix of a script, and these are their events.
pub record FirstCome (count : ℕ) (text : List ℕ) (known : Known)
    (came : List (Event (List ℕ))) : Type 0 where
  pub lines : List Said
  pub say : AllZip IsLineText (take count (lines_of text)) lines
  pub order : AreInOrder 0 lines
  pub come : AllCome lines known came

-- These are the events of the first `count` lines of a text, given the buffered inputs and these
-- files.
abbrev pub LoadsFirst : ℕ → List ℕ → List BufferedInput → FileBytes
    → List (Event (List ℕ)) → Type 0
LoadsFirst count text buffered files came =
    Loads buffered files (λ known after. FirstCome count text known came)

-- These are the events of all lines of a text.
abbrev pub LoadsAll : List ℕ → List BufferedInput → FileBytes
    → List (Event (List ℕ)) → Type 0
LoadsAll text buffered files came = LoadsFirst (length (lines_of text)) text buffered files came

-- A file of this name gives the same bytes when it is read later: it is a plain file, and isn't the
-- file that a run writes.
pub record CanBeReadAgain (plain : List ℕ → Bool) (apart : List ℕ → List ℕ → Bool)
    (name : List ℕ) (flash : Option (Bor (List ℕ))) : Type 0 where
  pub plain_file : IsTrue (plain name)
  pub other : IfSome flash (λ word. AreApart apart name word.now)

-- The bytes that a line names were added to the buffered inputs, or they can be read again and
-- nothing was added.
abbrev pub BuffersIfNeeded : (List ℕ → Bool) → (List ℕ → List ℕ → Bool) → Option (Bor (List ℕ))
    → FileText → List BufferedInput → List BufferedInput → Type 0
BuffersIfNeeded plain apart flash file old new =
    ((item : BufferedInput) × (item.file ≡ file) × (new ≡ old ++ item ∷ []))
    ⊎ (CanBeReadAgain plain apart file.name.now flash × (new ≡ old))

-- The bytes are those of the next buffered input, which is of the named file, and one more input is
-- used. Therefore no buffered input is used twice.
pub record ComesBuffered (buffered : List BufferedInput) (used after : ℕ) (file : SaidFile)
    (bytes : List ℕ) : Type 0 where
  pub item : BufferedInput
  pub next : slice_get buffered used ≡ Some item
  pub same : said_file item.file ≡ file
  pub content : bytes ≡ item.bytes.items
  pub one_more : after ≡ used + 1

-- The next buffered input, if there is one, isn't of the named file.
abbrev pub IsNextOther : List BufferedInput → ℕ → SaidFile → Type 0
IsNextOther buffered used file = (item : BufferedInput) → slice_get buffered used ≡ Some item
    → said_file item.file ≢ file

-- The next buffered input, if there is one, isn't of the named file, and none is used.
pub record LeavesBuffered (buffered : List BufferedInput) (used after : ℕ) (file : SaidFile)
    : Type 0 where
  pub other : IsNextOther buffered used file
  pub none : after ≡ used

-- How a line with these bytes of a file uses the buffered inputs.
abbrev pub TakesNext : List BufferedInput → ℕ → ℕ → SaidFile → List ℕ → Type 0
TakesNext buffered used after file bytes =
    ComesBuffered buffered used after file bytes ⊎ LeavesBuffered buffered used after file

-- How an event uses the buffered inputs, with the bytes of its file if it names one.
abbrev pub EventTakesNext : List BufferedInput → ℕ → ℕ → SaidEvent → Event (List ℕ) → Type 0
EventTakesNext buffered used after (event.Accept file) came =
    (bytes : List ℕ) × TakesNext buffered used after file bytes × (came ≡ event.Accept bytes)
EventTakesNext buffered used after (event.Piece image file) came =
    (bytes : List ℕ) × TakesNext buffered used after file bytes × (came ≡ event.Piece image bytes)
EventTakesNext buffered used after other came = after ≡ used
