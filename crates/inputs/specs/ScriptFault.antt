-- The line of a script that an error names, and why it can't be run.
--
-- Lines are checked in order, each with its file, before the first event. Until then files keep what
-- they hold, and standard input is read for one line at most. So what is known of each is what was
-- known when the check began.
use Rattle.std.specs.Prelude.{◌≡◌, ◌⊎◌, ℕ, ◌+◌, ◌||◌, Bool, List, [], ◌∷◌, ◌++◌, IfSome, IsSomeAnd, None, Option, Some, codes, false, if◌then◌else◌, length, true}
use Rattle.std.specs.List.{AllZip}
use Rattle.std.specs.Str.{bytes_eq}
use Rattle.common.specs.Lines.{lines_of}
use Rattle.device_texts.specs.InOrder.{AreInOrder}
use Rattle.device_texts.specs.LineText.{IsLineText}
use Rattle.device_texts.specs.Part.{AreNumbers}
use Rattle.device_texts.specs.Said.{PartWords, Said, SaidFile, SaidTorn}
use Rattle.device_texts.specs.Said as say
use Rattle.host.specs.declared.error.Refusal.{Refusal}
use Rattle.host.specs.declared.error.ScriptFault.{ScriptFault}
use Rattle.host.specs.declared.error.ScriptFault.TheVariants as fault
use Rattle.host.specs.declared.error.ScriptLine.{ScriptLine}
use Rattle.host.specs.Input.{LacksPart}
use Rattle.host.specs.ScriptLines.{script_line}
use Rattle.inputs.specs.Script.{Known, ReadsFile, file_in, known_at}

-- If a refusal names a line of a script, this holds of the line.
abbrev pub OnScriptLine : Refusal → (ScriptLine → Type 0) → Type 0
OnScriptLine refusal Holds = IfSome (script_line refusal) Holds

-- If a refusal names a line of a script, it is the line of this number, and it has one of these faults.
abbrev pub NamesLine : ℕ → (ScriptFault → Type 0) → Refusal → Type 0
NamesLine number HasFault refusal =
    OnScriptLine refusal (λ bad. (bad.line ≡ number) × HasFault bad.fault)

-- The file that a line names, if it names one.
abbrev pub file_of_line : Said → Option SaidFile
file_of_line (say.Cut write torn) = None
file_of_line (say.Event happened) = file_in happened

-- Whether this name is that of standard input.
abbrev pub is_input_name : List ℕ → Bool
is_input_name name = bytes_eq name (codes "-")

-- Whether a file that may be named is standard input.
abbrev pub is_input : Option SaidFile → Bool
is_input None = false
is_input (Some file) = is_input_name file.name

-- Whether standard input was read after these lines, if `is_read` says whether it was before them. It
-- is read for each line that names it.
abbrev pub read_after : Bool → List Said → Bool
read_after is_read [] = is_read
read_after is_read (line ∷ lines) = read_after (is_read || is_input (file_of_line line)) lines

-- What is known of the bytes of a file that a line names.
abbrev pub known_of : List ℕ → Known → Option (List ℕ)
known_of name known = if is_input_name name then known.input else known.files name

-- A file that a line names isn't standard input that was read before.
abbrev pub IsUnread : Bool → SaidFile → Type 0
IsUnread is_read file = is_input_name file.name ≡ true → is_read ≡ false

-- A line may name this file: it isn't standard input that was read before, and has the part that
-- the line names.
pub record MayName (is_read : Bool) (known : Known) (file : SaidFile) : Type 0 where
  pub unread : IsUnread is_read file
  pub piece : List ℕ
  pub after : Known
  pub reads : ReadsFile file piece known after

-- Each of these lines names only a file that it may name.
abbrev pub AllMayName : Bool → Known → List Said → Type 0
AllMayName is_read known [] = Unit {0}
AllMayName is_read known (line ∷ lines) =
    IfSome (file_of_line line) (MayName is_read known)
    × AllMayName (is_read || is_input (file_of_line line)) known lines

-- The texts are these lines, which can be run in this order: each line is spelled, can follow the
-- lines before it, and names what it may. `is_read` says whether standard input was read before them.
pub record CanRun (texts : List (List ℕ)) (is_read : Bool) (known : Known) (lines : List Said)
    : Type 0 where
  pub say : AllZip IsLineText texts lines
  pub order : AreInOrder 0 lines
  pub name : AllMayName is_read known lines

-- No line of a script has a fault.
abbrev pub IsRightScript : List ℕ → Bool → Known → Type 0
IsRightScript text is_read known =
    (lines : List Said) × CanRun (lines_of text) is_read known lines

-- Two words aren't decimal numbers below 2 ^ 64.
abbrev pub AreNoNumbers : PartWords → Type 0
AreNoNumbers words = (from count : ℕ) → AreNumbers words from count → ⊥

-- Two words are numbers that name a part which known bytes don't have.
pub record NameNoPart (words : PartWords) (known : Option (List ℕ)) : Type 0 where
  pub from : ℕ
  pub count : ℕ
  pub are : AreNumbers words from count
  pub lacks : LacksPart known from count

-- The length that is reported, if one is, is that of known bytes.
abbrev pub IsLength : Option ℕ → Option (List ℕ) → Type 0
IsLength reported known = IfSome reported (λ n. IfSome known (λ held. length held ≡ n))

-- The first fault of the part that a line names of these known bytes.
abbrev pub IsPartFault : Option PartWords → Option (List ℕ) → ScriptFault → Type 0
IsPartFault part known fault.PartNumbers = IsSomeAnd part AreNoNumbers
IsPartFault part known (fault.NoPart reported) =
    IsSomeAnd part (λ words. NameNoPart words known) × IsLength reported known
IsPartFault part known other = ⊥

-- The first fault of a file that a line names: it is standard input, which was read before; or else
-- that of the part.
abbrev pub IsFileFault : Bool → Known → SaidFile → ScriptFault → Type 0
IsFileFault is_read known file fault.InputRead =
    (is_input_name file.name ≡ true) × (is_read ≡ true)
IsFileFault is_read known file other =
    IsUnread is_read file × IsPartFault file.part (known_of file.name known) other

-- A text is a line that can follow these lines, and names this file.
pub record NamesFile (before : List Said) (text : List ℕ) (file : SaidFile) : Type 0 where
  pub line : Said
  pub says : IsLineText text line
  pub follows : AreInOrder 0 (before ++ line ∷ [])
  pub names : file_of_line line ≡ Some file

-- A text is a line that can follow these lines, and its file has this fault.
abbrev pub NamesWrongly : List Said → Bool → Known → List ℕ → ScriptFault → Type 0
NamesWrongly before is_read known text why = (file : SaidFile)
    × NamesFile before text file × IsFileFault is_read known file why

-- The first fault of the line with this text, after these lines that can be run, in this order:
-- - it isn't spelled as a line;
-- - it is one, and can't follow the lines before it;
-- - it can, and names standard input, which was read before;
-- - it doesn't, and names a part of its file by words that aren't two numbers;
-- - they are, and the file doesn't have this part.
-- Two faults aren't of a line alone: a line `cut` of a script that may cut none (`IsCutFault`), and the
-- length of a script, which is checked before its lines.
abbrev pub IsFirstFault : List Said → Bool → Known → List ℕ → ScriptFault → Type 0
IsFirstFault before is_read known text fault.Spelling = (line : Said) → IsLineText text line → ⊥
IsFirstFault before is_read known text fault.Order =
    (line : Said) × IsLineText text line × (AreInOrder 0 (before ++ line ∷ []) → ⊥)
IsFirstFault before is_read known text fault.InputRead =
    NamesWrongly before is_read known text fault.InputRead
IsFirstFault before is_read known text fault.PartNumbers =
    NamesWrongly before is_read known text fault.PartNumbers
IsFirstFault before is_read known text (fault.NoPart reported) =
    NamesWrongly before is_read known text (fault.NoPart reported)
IsFirstFault before is_read known text fault.Cut = ⊥
IsFirstFault before is_read known text fault.TooLong = ⊥

-- The line of this number, from 1, is the first of a script that has a fault, and this is the first
-- fault of the line. `is_read` says whether standard input was read before the script was checked.
pub record IsWrongLine (text : List ℕ) (is_read : Bool) (known : Known) (number : ℕ)
    (why : ScriptFault) : Type 0 where
  pub texts : List (List ℕ)
  pub line : List ℕ
  pub after : List (List ℕ)
  pub parts : lines_of text ≡ texts ++ line ∷ after
  pub counted : number ≡ length texts + 1
  pub before : List Said
  pub right : CanRun texts is_read known before
  pub wrong : IsFirstFault before (read_after is_read before) known line why

-- A line of a script that was right has this first fault when its event is loaded: its file isn't as
-- it was when the script was checked. Standard input can't be read again then.
pub record IsLostLine (text : List ℕ) (known : Known) (number : ℕ) (why : ScriptFault) : Type 0 where
  pub texts : List (List ℕ)
  pub line : List ℕ
  pub after : List (List ℕ)
  pub parts : lines_of text ≡ texts ++ line ∷ after
  pub counted : number ≡ length texts + 1
  pub before : List Said
  pub say : AllZip IsLineText texts before
  pub order : AreInOrder 0 before
  pub wrong : IsFirstFault before true known line why

-- The line of this number has this fault. It is the first wrong one when the script is checked. Or the
-- script is right, and the file of the line isn't as it was when its event is loaded.
abbrev pub IsFaultOfRun : List ℕ → Bool → Known → ℕ → ScriptFault → Type 0
IsFaultOfRun text is_read known number why =
    IsWrongLine text is_read known number why
    ⊎ (IsRightScript text is_read known × IsLostLine text (known_at None known.files) number why)

-- The first of these lines cuts a write.
pub record IsCutFirst (texts : List (List ℕ)) : Type 0 where
  pub line : List ℕ
  pub after : List (List ℕ)
  pub parts : texts ≡ line ∷ after
  pub write : ℕ
  pub torn : SaidTorn
  pub says : IsLineText line (say.Cut write torn)

-- A script that may cut no write is right, and its first line cuts one.
pub record IsCutFault (text : List ℕ) (is_read : Bool) (known : Known) (number : ℕ) (why : ScriptFault)
    : Type 0 where
  pub cut : why ≡ fault.Cut
  pub first : number ≡ 1
  pub right : IsRightScript text is_read known
  pub says : IsCutFirst (lines_of text)

-- The line of this number of a script that may cut no write has this fault.
abbrev pub IsFaultOfUncut : List ℕ → Bool → Known → ℕ → ScriptFault → Type 0
IsFaultOfUncut text is_read known number why =
    IsFaultOfRun text is_read known number why ⊎ IsCutFault text is_read known number why
