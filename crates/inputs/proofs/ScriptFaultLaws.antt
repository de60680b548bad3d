-- Laws of the line of a script that an error names.
use Rattle.std.proofs.Common.{◌≡◌, ◌≢◌, ℕ, ◌+◌, ◌-◌, ◌^◌, ◌<◌, ◌≤◌, ◌||◌, List, [], ◌∷◌, ◌++◌, ◌↔◌, Bool, Option, None, Some, IfSome, true, false, refl, ap, sym, ◌∙◌, subst, append_assoc, arith, codes, if◌then◌else◌, length, length-append, inl, inr}
use Rattle.std.specs.Prelude.{Err, IfErr, IsSomeAnd, Ok, Result}
use Rattle.std.specs.Io.KnownBytes.{Keeps}
use Rattle.std.specs.List.{AllZip, slice_range}
use Rattle.std.proofs.lemmas.Bool.{cases_lt}
use Rattle.std.proofs.lemmas.List.{append-nil}
use Rattle.std.proofs.lemmas.Option.{IfSome_then}
use Rattle.std.proofs.lemmas.Slice.Eq.{bytes_eq-Decides}
use Rattle.common.specs.Lines.{lines_of}
use Rattle.flash_model.specs.declared.torn.Armed.{Armed}
use Rattle.device_texts.specs.declared.flash.CutWrite.{CutWrite}
use Rattle.device_texts.specs.FlashOf.{armed_in}
use Rattle.device_texts.specs.InOrder.{AreEvents, AreInOrder, CanFollow}
use Rattle.device_texts.specs.LineText.{IsLineText}
use Rattle.device_texts.specs.Part.{AreNumbers, IsPart}
use Rattle.device_texts.specs.declared.line.Line.{Line}
use Rattle.device_texts.specs.Said.{PartWords, Said, SaidFile, said}
use Rattle.device_texts.specs.Said as say
use Rattle.host.specs.declared.error.Refusal.{Refusal}
use Rattle.host.specs.declared.error.ScriptFault.{ScriptFault}
use Rattle.host.specs.declared.error.ScriptFault.TheVariants as fault
use Rattle.host.specs.declared.error.ScriptLine.{ScriptLine}
use Rattle.host.specs.declared.source.Source.{Source}
use Rattle.host.specs.declared.source.Source.TheVariants.{StandardInput, File}
use Rattle.host.specs.Input.{FileBytes, Gives, IsKnownAs, IsNamed, KeepsFiles}
use Rattle.host.specs.ScriptLines.{script_line}
use Rattle.host.proofs.InputLaws.{IsKnownAs-kept, KeepsFiles-itself}
use Rattle.inputs.specs.declared.lines.Lines.{Lines}
use Rattle.inputs.specs.Loading.{AreCutsOf, IsInputFault, IsInputPiece, IsNextLine, IsPartReason, IsWrongNext, ReadsNow}
use Rattle.inputs.specs.Script.{AllCut, IsRead, Known, StaysKnown, known_after, known_at}
use Rattle.inputs.specs.ScriptFault.{AllMayName, CanRun, IsCutFirst, IsFaultOfRun, IsFileFault, IsFirstFault, IsLength, IsLostLine, IsPartFault, IsRightScript, IsWrongLine, MayName, NameNoPart, NamesLine, NamesWrongly, OnScriptLine, file_of_line, is_input, is_input_name, known_of, read_after}
use Rattle.inputs.proofs.ScriptLaws.{StaysKnown-itself, nothing_follows}

-- ---- what a refusal names

-- A refusal names this line.
pub NamesLine-of : (refusal : Refusal) (bad : ScriptLine) (HasFault : ScriptFault → Type 0)
    → script_line refusal ≡ Some bad → HasFault bad.fault → NamesLine bad.line HasFault refusal
NamesLine-of refusal bad HasFault is has =
    subst (λ named. IfSome named (λ one. (one.line ≡ bad.line) × HasFault one.fault)) (sym is) (refl, has)

-- A refusal names no line.
pub OnScriptLine-none : (refusal : Refusal) (Holds : ScriptLine → Type 0) → script_line refusal ≡ None
    → OnScriptLine refusal Holds
OnScriptLine-none refusal Holds is = subst (λ named. IfSome named Holds) (sym is) tt

-- What follows from the fault of a line that a refusal names.
pub NamesLine-weaker : (refusal : Refusal) (number : ℕ) (HasFault : ScriptFault → Type 0)
    (IsWrong : ℕ → ScriptFault → Type 0) → ((why : ScriptFault) → HasFault why → IsWrong number why)
    → NamesLine number HasFault refusal → OnScriptLine refusal (λ bad. IsWrong bad.line bad.fault)
NamesLine-weaker refusal number HasFault IsWrong weaker names =
    IfSome_then (script_line refusal) names
    (λ bad is. subst (λ n. IsWrong n bad.fault) (sym is.0) (weaker bad.fault is.1))

-- ---- names of standard input

pub is_input_name-input : (name : List ℕ) → name ≡ codes "-" → is_input_name name ≡ true
is_input_name-input name is = (bytes_eq-Decides name (codes "-")).1 is

false_if_not : (b : Bool) → (b ≡ true → ⊥) → b ≡ false
false_if_not true not = absurd (not refl)
false_if_not false not = refl

pub is_input_name-file : (name : List ℕ) → name ≢ codes "-" → is_input_name name ≡ false
is_input_name-file name named =
    false_if_not (is_input_name name) (λ is. named ((bytes_eq-Decides name (codes "-")).0 is))

known_of-input : (name : List ℕ) (known : Known) → is_input_name name ≡ true → known_of name known ≡ known.input
known_of-input name known is = ap (λ b. if b then known.input else known.files name) is

known_of-file : (name : List ℕ) (known : Known) → is_input_name name ≡ false → known_of name known ≡ known.files name
known_of-file name known is = ap (λ b. if b then known.input else known.files name) is

-- ---- parts

-- Bytes that have no part of these numbers end before it does.
lacks_part : (words : PartWords) (from count : ℕ) (bytes : List ℕ) → AreNumbers words from count
    → ((part : List ℕ) → IsPart words bytes part → ⊥) → length bytes < from + count
lacks_part words from count bytes are none = elim (cases_lt (length bytes) (from + count)) [
  | inl less ↦ less
  | inr fits ↦ absurd (none (slice_range bytes from (from + count))
      (from, count, are.from_word, are.count_word, fits, refl))
]

-- Why read bytes have no part that two words name.
pub IsPartFault-read : (words : PartWords) (bytes : List ℕ) (why : ScriptFault)
    → IsPartReason words (length bytes) why → ((part : List ℕ) → IsPart words bytes part → ⊥)
    → IsPartFault (Some words) (Some bytes) why
IsPartFault-read words bytes fault.PartNumbers reason none = reason
IsPartFault-read words bytes (fault.NoPart reported) reason none = (
  record {
    from = reason.0.0;
    count = reason.0.1;
    are = reason.0.2;
    lacks = lacks_part words reason.0.0 reason.0.1 bytes reason.0.2 none;
  },
  subst (λ many. IsLength many (Some bytes)) (sym reason.1) refl,
)
IsPartFault-read words bytes fault.Spelling reason none = absurd reason
IsPartFault-read words bytes fault.Order reason none = absurd reason
IsPartFault-read words bytes fault.Cut reason none = absurd reason
IsPartFault-read words bytes fault.TooLong reason none = absurd reason
IsPartFault-read words bytes fault.InputRead reason none = absurd reason

no_length : (reported : Option ℕ) → IsLength reported None
no_length None = tt
no_length (Some n) = tt

no_part : (part : Option PartWords) (known : Option (List ℕ)) → IsSomeAnd part (λ words. NameNoPart words known)
    → IsSomeAnd part (λ words. NameNoPart words None)
no_part None known some = absurd some
no_part (Some words) known some =
    record { from = some.from; count = some.count; are = some.are; lacks = tt }

-- If known bytes were kept, the fault of a part is one of what was known before.
pub IsPartFault-kept : (part : Option PartWords) (old new : Option (List ℕ)) (why : ScriptFault) → Keeps old new
    → IsPartFault part new why → IsPartFault part old why
IsPartFault-kept part (Some xs) None why kept is = absurd kept
IsPartFault-kept part (Some xs) (Some ys) why kept is = subst (λ held. IsPartFault part (Some held) why) kept is
IsPartFault-kept part None new fault.PartNumbers kept is = is
IsPartFault-kept part None new (fault.NoPart reported) kept is = (no_part part new is.0, no_length reported)
IsPartFault-kept part None new fault.Spelling kept is = absurd is
IsPartFault-kept part None new fault.Order kept is = absurd is
IsPartFault-kept part None new fault.Cut kept is = absurd is
IsPartFault-kept part None new fault.TooLong kept is = absurd is
IsPartFault-kept part None new fault.InputRead kept is = absurd is

known_as : (known : Option (List ℕ)) (bytes : List ℕ) → IsKnownAs known bytes → Keeps known (Some bytes)
known_as None bytes is = tt
known_as (Some held) bytes is = is

-- Standard input was read, and the part that a line names of it has this fault.
pub IsInputFault-part : (is_read : Bool) (input : Option (List ℕ)) (part : Option PartWords) (bytes : List ℕ)
    (why : ScriptFault) → is_read ≡ false → IsKnownAs input bytes → IsPartFault part (Some bytes) why
    → IsInputFault is_read input part why
IsInputFault-part is_read input part bytes fault.PartNumbers unread known is =
    (unread, IsPartFault-kept part input (Some bytes) fault.PartNumbers (known_as input bytes known) is)
IsInputFault-part is_read input part bytes (fault.NoPart reported) unread known is =
    (unread, IsPartFault-kept part input (Some bytes) (fault.NoPart reported) (known_as input bytes known) is)
IsInputFault-part is_read input part bytes fault.Spelling unread known is = absurd is
IsInputFault-part is_read input part bytes fault.Order unread known is = absurd is
IsInputFault-part is_read input part bytes fault.Cut unread known is = absurd is
IsInputFault-part is_read input part bytes fault.TooLong unread known is = absurd is
IsInputFault-part is_read input part bytes fault.InputRead unread known is = absurd is

-- ---- files

-- A fault of a part is one of a file that is standard input.
of_input : (is_read : Bool) (known : Known) (file : SaidFile) (why : ScriptFault) → is_input_name file.name ≡ true
    → (is_read ≡ false) × IsPartFault file.part known.input why
    → (is_input_name file.name ≡ true → is_read ≡ false) × IsPartFault file.part (known_of file.name known) why
of_input is_read known file why named is = (
  λ _. is.0,
  subst (λ held. IsPartFault file.part held why) (sym (known_of-input file.name known named)) is.1,
)

-- Standard input has this fault.
pub IsFileFault-input : (is_read : Bool) (known : Known) (file : SaidFile) (why : ScriptFault)
    → file.name ≡ codes "-" → IsInputFault is_read known.input file.part why → IsFileFault is_read known file why
IsFileFault-input is_read known file fault.InputRead named is = (is_input_name-input file.name named, is)
IsFileFault-input is_read known file fault.PartNumbers named is =
    of_input is_read known file fault.PartNumbers (is_input_name-input file.name named) is
IsFileFault-input is_read known file (fault.NoPart reported) named is =
    of_input is_read known file (fault.NoPart reported) (is_input_name-input file.name named) is
IsFileFault-input is_read known file fault.Spelling named is = absurd is.1
IsFileFault-input is_read known file fault.Order named is = absurd is.1
IsFileFault-input is_read known file fault.Cut named is = absurd is.1
IsFileFault-input is_read known file fault.TooLong named is = absurd is.1

-- A fault of a part is one of a file that isn't standard input.
of_file : (is_read : Bool) (known : Known) (file : SaidFile) (why : ScriptFault) → file.name ≢ codes "-"
    → IsPartFault file.part (known.files file.name) why
    → (is_input_name file.name ≡ true → is_read ≡ false) × IsPartFault file.part (known_of file.name known) why
of_file is_read known file why named is = (
  λ dash. absurd (named ((bytes_eq-Decides file.name (codes "-")).0 dash)),
  subst (λ held. IsPartFault file.part held why)
      (sym (known_of-file file.name known (is_input_name-file file.name named))) is,
)

-- A file that isn't standard input has this fault.
pub IsFileFault-file : (is_read : Bool) (known : Known) (file : SaidFile) (why : ScriptFault)
    → file.name ≢ codes "-" → IsPartFault file.part (known.files file.name) why → IsFileFault is_read known file why
IsFileFault-file is_read known file fault.PartNumbers named is = of_file is_read known file fault.PartNumbers named is
IsFileFault-file is_read known file (fault.NoPart reported) named is =
    of_file is_read known file (fault.NoPart reported) named is
IsFileFault-file is_read known file fault.Spelling named is = absurd is
IsFileFault-file is_read known file fault.Order named is = absurd is
IsFileFault-file is_read known file fault.Cut named is = absurd is
IsFileFault-file is_read known file fault.TooLong named is = absurd is
IsFileFault-file is_read known file fault.InputRead named is = absurd is

-- The fault of a file that isn't standard input doesn't depend on whether that was read.
again : (known : Known) (file : SaidFile) (why : ScriptFault) → file.name ≢ codes "-"
    → IsPartFault file.part (known_of file.name (known_at None known.files)) why
    → IsPartFault file.part (known.files file.name) why
again known file why named is =
    subst (λ held. IsPartFault file.part held why)
    (known_of-file file.name (known_at None known.files) (is_input_name-file file.name named)) is

pub IsFileFault-again : (is_read : Bool) (known : Known) (file : SaidFile) (why : ScriptFault)
    → file.name ≢ codes "-" → IsFileFault true (known_at None known.files) file why
    → IsFileFault is_read known file why
IsFileFault-again is_read known file fault.PartNumbers named is =
    of_file is_read known file fault.PartNumbers named (again known file fault.PartNumbers named is.1)
IsFileFault-again is_read known file (fault.NoPart reported) named is =
    of_file is_read known file (fault.NoPart reported) named (again known file (fault.NoPart reported) named is.1)
IsFileFault-again is_read known file fault.InputRead named is =
    absurd (named ((bytes_eq-Decides file.name (codes "-")).0 is.0))
IsFileFault-again is_read known file fault.Spelling named is = absurd is.1
IsFileFault-again is_read known file fault.Order named is = absurd is.1
IsFileFault-again is_read known file fault.Cut named is = absurd is.1
IsFileFault-again is_read known file fault.TooLong named is = absurd is.1

keeps_either : (b : Bool) (old_input new_input old_file new_file : Option (List ℕ))
    → (b ≡ true → Keeps old_input new_input) → Keeps old_file new_file
    → Keeps (if b then old_input else old_file) (if b then new_input else new_file)
keeps_either true old_input new_input old_file new_file input file = input refl
keeps_either false old_input new_input old_file new_file input file = file

part_kept : (is_read : Bool) (old new : Known) (file : SaidFile) (why : ScriptFault)
    → (is_read ≡ false → Keeps old.input new.input) → KeepsFiles old.files new.files
    → (is_input_name file.name ≡ true → is_read ≡ false) × IsPartFault file.part (known_of file.name new) why
    → (is_input_name file.name ≡ true → is_read ≡ false) × IsPartFault file.part (known_of file.name old) why
part_kept is_read old new file why input files is = (
  is.0,
  IsPartFault-kept file.part (known_of file.name old) (known_of file.name new) why
      (keeps_either (is_input_name file.name) old.input new.input (old.files file.name) (new.files file.name)
      (λ dash. input (is.0 dash)) (files file.name)) is.1,
)

-- If what is known was kept, a fault of a file is one of what was known before.
pub IsFileFault-kept : (is_read : Bool) (old new : Known) (file : SaidFile) (why : ScriptFault)
    → (is_read ≡ false → Keeps old.input new.input) → KeepsFiles old.files new.files
    → IsFileFault is_read new file why → IsFileFault is_read old file why
IsFileFault-kept is_read old new file fault.InputRead input files is = is
IsFileFault-kept is_read old new file fault.PartNumbers input files is =
    part_kept is_read old new file fault.PartNumbers input files is
IsFileFault-kept is_read old new file (fault.NoPart reported) input files is =
    part_kept is_read old new file (fault.NoPart reported) input files is
IsFileFault-kept is_read old new file fault.Spelling input files is = absurd is.1
IsFileFault-kept is_read old new file fault.Order input files is = absurd is.1
IsFileFault-kept is_read old new file fault.Cut input files is = absurd is.1
IsFileFault-kept is_read old new file fault.TooLong input files is = absurd is.1

-- ---- what a line may name

-- A line may name a file that was read.
pub MayName-file : (is_read : Bool) (known : Known) (file : SaidFile) (piece : List ℕ) → file.name ≢ codes "-"
    → ReadsNow file piece known.files → MayName is_read known file
MayName-file is_read known file piece named read =
    let now = read known.input known.files (KeepsFiles-itself known.files) known
    (StaysKnown-itself known.input known.files) in
    record {
      unread = λ dash. absurd (named ((bytes_eq-Decides file.name (codes "-")).0 dash));
      piece = piece;
      after = now.0;
      reads = now.1;
    }

-- A line may name standard input that wasn't read before.
pub MayName-input : (is_read : Bool) (known : Known) (file : SaidFile) (piece : List ℕ) → file.name ≡ codes "-"
    → is_read ≡ false → IsInputPiece file.part known.input piece → MayName is_read known file
MayName-input is_read known file piece named unread is = record {
  unread = λ dash. unread;
  piece = piece;
  after = known_after StandardInput known;
  reads = (is.0, record { source = StandardInput; named = named; given = is.1; then = refl }, is.2);
}

reads_kept : (source : Source) (name : List ℕ) (old new : Known) (bytes : List ℕ) → IsNamed name source
    → Gives source new.input new.files bytes → (name ≡ codes "-" → Keeps old.input new.input)
    → KeepsFiles old.files new.files → IsRead name old bytes (known_after source old)
reads_kept StandardInput name old new bytes named given input files = record {
  source = StandardInput;
  named = named;
  given = IsKnownAs-kept old.input new.input bytes (input named) given;
  then = refl;
}
reads_kept (File word) name old new bytes named given input files = record {
  source = File word;
  named = named;
  given = IsKnownAs-kept (old.files word.now) (new.files word.now) bytes (files word.now) given;
  then = refl;
}

-- If what is known was kept, a line may name what it might name before.
pub MayName-kept : (is_read : Bool) (old new : Known) (file : SaidFile)
    → (is_read ≡ false → Keeps old.input new.input) → KeepsFiles old.files new.files
    → MayName is_read new file → MayName is_read old file
MayName-kept is_read old new file input files may =
    let read = may.reads.1 in
    record {
      unread = may.unread;
      piece = may.piece;
      after = known_after read.source old;
      reads = (
        may.reads.0,
        reads_kept read.source file.name old new may.reads.0 read.named read.given
            (λ dash. input (may.unread (is_input_name-input file.name dash))) files,
        may.reads.2,
      );
    }

pub MayName-kept_if : (is_read : Bool) (old new : Known) (file : Option SaidFile)
    → (is_read ≡ false → Keeps old.input new.input) → KeepsFiles old.files new.files
    → IfSome file (MayName is_read new) → IfSome file (MayName is_read old)
MayName-kept_if is_read old new None input files may = tt
MayName-kept_if is_read old new (Some file) input files may = MayName-kept is_read old new file input files may

-- ---- the checked lines

read_after-push : (is_read : Bool) (lines : List Said) (one : Said)
    → read_after is_read (lines ++ one ∷ []) ≡ (read_after is_read lines || is_input (file_of_line one))
read_after-push is_read [] one = refl
read_after-push is_read (line ∷ rest) one = read_after-push (is_read || is_input (file_of_line line)) rest one

AllMayName-push : (is_read : Bool) (known : Known) (lines : List Said) (one : Said) → AllMayName is_read known lines
    → IfSome (file_of_line one) (MayName (read_after is_read lines) known)
    → AllMayName is_read known (lines ++ one ∷ [])
AllMayName-push is_read known [] one all may = (may, tt)
AllMayName-push is_read known (line ∷ rest) one all may =
    (all.0, AllMayName-push (is_read || is_input (file_of_line line)) known rest one all.1 may)

say-push : (texts : List (List ℕ)) (lines : List Said) (text : List ℕ) (one : Said) → AllZip IsLineText texts lines
    → IsLineText text one → AllZip IsLineText (texts ++ text ∷ []) (lines ++ one ∷ [])
say-push [] [] text one say is = (is, tt)
say-push [] (line ∷ rest) text one say is = absurd say
say-push (first ∷ more) [] text one say is = absurd say
say-push (first ∷ more) (line ∷ rest) text one say is = (say.0, say-push more rest text one say.1 is)

-- The lines of a text were read up to those that are left. They can follow one another.
pub record AreRead (text : List ℕ) (left : Lines) : Type 0 where
  pub texts : List (List ℕ)
  pub before : List Said
  pub parts : lines_of text ≡ texts ++ lines_of left.rest.now
  pub counted : left.number ≡ length texts
  pub few : length texts + length left.rest.now ≤ length text
  pub say : AllZip IsLineText texts before
  pub follow : (more : List Said) → CanFollow left.order more ↔ AreInOrder 0 (before ++ more)

in_order : (text : List ℕ) (left : Lines) → (are : AreRead text left) → AreInOrder 0 are.before
in_order text left are = subst (AreInOrder 0) (append-nil are.before)
    ((are.follow []).0 (nothing_follows left.order.has_event left.order.last_cut))

-- No line was read.
pub AreRead-none : (text : List ℕ) (left : Lines) → left.rest.now ≡ text → left.number ≡ 0
    → ((lines : List Said) → CanFollow left.order lines ↔ AreInOrder 0 lines) → AreRead text left
AreRead-none text left all none order = record {
  texts = [];
  before = [];
  parts = ap lines_of (sym all);
  counted = none;
  few = let same = ap length all in omega (arith, same);
  say = tt;
  follow = order;
}

-- The number of the next line.
number_next : (text : List ℕ) (old new : Lines) → length text < 2 ^ 64
    → length new.rest.now < length old.rest.now → (old.number + 1 < 2 ^ 64 → new.number ≡ old.number + 1)
    → (are : AreRead text old) → new.number ≡ length are.texts + 1
number_next text old new fits shorter number are =
    number (omega (arith, fits, shorter, are.few, are.counted)) ∙ ap (λ n. n + 1) are.counted

-- One more line was read.
pub AreRead-more : (text : List ℕ) (old new : Lines) (line : Line) → length text < 2 ^ 64
    → length new.rest.now < length old.rest.now → (old.number + 1 < 2 ^ 64 → new.number ≡ old.number + 1)
    → IsNextLine old new line → AreRead text old → AreRead text new
AreRead-more text old new line fits shorter number next are =
    let one = said line in
    let longer = length-append are.texts (next.text ∷ []) in
    record {
      texts = are.texts ++ next.text ∷ [];
      before = are.before ++ one ∷ [];
      parts = are.parts ∙ ap (λ rest. are.texts ++ rest) next.parts
          ∙ sym (append_assoc are.texts (next.text ∷ []) (lines_of new.rest.now));
      counted = number_next text old new fits shorter number are ∙ sym longer;
      few = omega (arith, longer, shorter, are.few);
      say = say-push are.texts are.before next.text one are.say next.says;
      follow = λ lines. subst (λ all. CanFollow new.order lines ↔ AreInOrder 0 all)
          (sym (append_assoc are.before (one ∷ []) lines)) (
            λ can. (are.follow (one ∷ lines)).0 ((next.follows lines).0 can),
            λ ordered. (next.follows lines).1 ((are.follow (one ∷ lines)).1 ordered),
          );
    }

-- The lines of a text were checked up to those that are left, and can be run. `now_read` says whether
-- standard input was read by now.
pub record AreChecked (text : List ℕ) (is_read : Bool) (known : Known) (left : Lines) (now_read : Bool) : Type 0 where
  pub lines : AreRead text left
  pub name : AllMayName is_read known lines.before
  pub read : now_read ≡ read_after is_read lines.before

can_run : (text : List ℕ) (is_read : Bool) (known : Known) (left : Lines) (now_read : Bool)
    → (are : AreChecked text is_read known left now_read) → CanRun are.lines.texts is_read known are.lines.before
can_run text is_read known left now_read are =
    record { say = are.lines.say; order = in_order text left are.lines; name = are.name }

-- No line was checked.
pub AreChecked-none : (text : List ℕ) (is_read : Bool) (known : Known) (left : Lines) → left.rest.now ≡ text
    → left.number ≡ 0 → ((lines : List Said) → CanFollow left.order lines ↔ AreInOrder 0 lines)
    → AreChecked text is_read known left is_read
unfolding AreRead-none
AreChecked-none text is_read known left all none order =
    record { lines = AreRead-none text left all none order; name = tt; read = refl }

-- One more line was checked.
pub AreChecked-more : (text : List ℕ) (is_read : Bool) (known : Known) (old new : Lines) (line : Line)
    (was_read now_read : Bool) → length text < 2 ^ 64 → length new.rest.now < length old.rest.now
    → (old.number + 1 < 2 ^ 64 → new.number ≡ old.number + 1) → IsNextLine old new line
    → now_read ≡ (was_read || is_input (file_of_line (said line)))
    → IfSome (file_of_line (said line)) (MayName was_read known) → AreChecked text is_read known old was_read
    → AreChecked text is_read known new now_read
unfolding AreRead-more
AreChecked-more text is_read known old new line was_read now_read fits shorter number next reads may are =
    let one = said line in
    let before = are.lines.before in
    record {
      lines = AreRead-more text old new line fits shorter number next are.lines;
      name = AllMayName-push is_read known before one are.name
          (subst (λ read. IfSome (file_of_line one) (MayName read known)) are.read may);
      read = reads ∙ ap (λ read. read || is_input (file_of_line one)) are.read ∙ sym (read_after-push is_read before one);
    }

-- All lines were checked.
pub AreChecked-all : (text : List ℕ) (is_read : Bool) (known : Known) (left : Lines) (now_read : Bool)
    (rest : List ℕ) → left.rest.now ≡ rest → length rest ≡ 0 → AreChecked text is_read known left now_read
    → IsRightScript text is_read known
AreChecked-all text is_read known left now_read [] is none are =
    let texts = are.lines.texts in
    let all = are.lines.parts ∙ ap (λ rest. texts ++ lines_of rest) is ∙ append-nil texts in (
      are.lines.before,
      subst (λ texts. CanRun texts is_read known are.lines.before) (sym all)
          (can_run text is_read known left now_read are),
    )
AreChecked-all text is_read known left now_read (b ∷ rest) is none are = absurd (omega (arith, none))

-- ---- the wrong line

-- The next line isn't spelled, or can't follow.
first_of_text : (text : List ℕ) (is_read : Bool) (known : Known) (old new : Lines) (why : ScriptFault)
    → (are : AreRead text old) → (next : IsWrongNext old new why)
    → IsFirstFault are.before is_read known next.text why
first_of_text text is_read known old new fault.Spelling are next = next.wrong
first_of_text text is_read known old new fault.Order are next = (
  next.wrong.0,
  next.wrong.1,
  λ ordered. next.wrong.2 ((are.follow (next.wrong.0 ∷ [])).1 ordered),
)
first_of_text text is_read known old new fault.InputRead are next = absurd next.wrong
first_of_text text is_read known old new fault.PartNumbers are next = absurd next.wrong
first_of_text text is_read known old new (fault.NoPart reported) are next = absurd next.wrong
first_of_text text is_read known old new fault.Cut are next = absurd next.wrong
first_of_text text is_read known old new fault.TooLong are next = absurd next.wrong

-- The next line can follow, and its file has a fault.
wrongly : (text : List ℕ) (is_read : Bool) (known : Known) (old new : Lines) (line : Line)
    (file : SaidFile) (why : ScriptFault) → (next : IsNextLine old new line) → (are : AreRead text old)
    → file_of_line (said line) ≡ Some file → IsFileFault is_read known file why
    → NamesWrongly are.before is_read known next.text why
wrongly text is_read known old new line file why next are names is = (
  file,
  record {
    line = said line;
    says = next.says;
    follows = (are.follow (said line ∷ [])).0
        ((next.follows []).0 (nothing_follows new.order.has_event new.order.last_cut));
    names = names;
  },
  is,
)

first_of_file : (before : List Said) (is_read : Bool) (known : Known) (line : List ℕ) (why : ScriptFault)
    → NamesWrongly before is_read known line why → IsFirstFault before is_read known line why
first_of_file before is_read known line fault.InputRead is = is
first_of_file before is_read known line fault.PartNumbers is = is
first_of_file before is_read known line (fault.NoPart reported) is = is
first_of_file before is_read known line fault.Spelling is = absurd is.2.1
first_of_file before is_read known line fault.Order is = absurd is.2.1
first_of_file before is_read known line fault.Cut is = absurd is.2.1
first_of_file before is_read known line fault.TooLong is = absurd is.2.1

-- The next line has a fault, and is the first that has one.
pub IsWrongLine-text : (text : List ℕ) (is_read : Bool) (known : Known) (old new : Lines) (was_read : Bool)
    (why : ScriptFault) → length text < 2 ^ 64 → length new.rest.now < length old.rest.now
    → (old.number + 1 < 2 ^ 64 → new.number ≡ old.number + 1) → AreChecked text is_read known old was_read
    → IsWrongNext old new why → IsWrongLine text is_read known new.number why
IsWrongLine-text text is_read known old new was_read why fits shorter number are next = record {
  texts = are.lines.texts;
  line = next.text;
  after = lines_of new.rest.now;
  parts = are.lines.parts ∙ ap (λ rest. are.lines.texts ++ rest) next.parts;
  counted = number_next text old new fits shorter number are.lines;
  before = are.lines.before;
  right = can_run text is_read known old was_read are;
  wrong = first_of_text text (read_after is_read are.lines.before) known old new why are.lines next;
}

pub IsWrongLine-file : (text : List ℕ) (is_read : Bool) (known : Known) (old new : Lines) (line : Line)
    (was_read : Bool) (file : SaidFile) (why : ScriptFault) → length text < 2 ^ 64
    → length new.rest.now < length old.rest.now → (old.number + 1 < 2 ^ 64 → new.number ≡ old.number + 1)
    → AreChecked text is_read known old was_read → IsNextLine old new line
    → file_of_line (said line) ≡ Some file → IsFileFault was_read known file why
    → IsWrongLine text is_read known new.number why
IsWrongLine-file text is_read known old new line was_read file why fits shorter number are next names is = record {
  texts = are.lines.texts;
  line = next.text;
  after = lines_of new.rest.now;
  parts = are.lines.parts ∙ ap (λ rest. are.lines.texts ++ rest) next.parts;
  counted = number_next text old new fits shorter number are.lines;
  before = are.lines.before;
  right = can_run text is_read known old was_read are;
  wrong = first_of_file are.lines.before (read_after is_read are.lines.before) known next.text why
      (wrongly text (read_after is_read are.lines.before) known old new line file why next are.lines names
      (subst (λ read. IsFileFault read known file why) are.read is));
}

-- The next line isn't what it was when the script was checked.
pub IsLostLine-text : (text : List ℕ) (known : Known) (old new : Lines) (why : ScriptFault)
    → length text < 2 ^ 64 → length new.rest.now < length old.rest.now
    → (old.number + 1 < 2 ^ 64 → new.number ≡ old.number + 1) → AreRead text old → IsWrongNext old new why
    → IsLostLine text known new.number why
IsLostLine-text text known old new why fits shorter number are next = record {
  texts = are.texts;
  line = next.text;
  after = lines_of new.rest.now;
  parts = are.parts ∙ ap (λ rest. are.texts ++ rest) next.parts;
  counted = number_next text old new fits shorter number are;
  before = are.before;
  say = are.say;
  order = in_order text old are;
  wrong = first_of_text text true known old new why are next;
}

-- The file of the next line isn't as it was then.
pub IsLostLine-file : (text : List ℕ) (known : Known) (old new : Lines) (line : Line) (file : SaidFile)
    (why : ScriptFault) → length text < 2 ^ 64 → length new.rest.now < length old.rest.now
    → (old.number + 1 < 2 ^ 64 → new.number ≡ old.number + 1) → AreRead text old → IsNextLine old new line
    → file_of_line (said line) ≡ Some file → IsFileFault true known file why → IsLostLine text known new.number why
IsLostLine-file text known old new line file why fits shorter number are next names is = record {
  texts = are.texts;
  line = next.text;
  after = lines_of new.rest.now;
  parts = are.parts ∙ ap (λ rest. are.texts ++ rest) next.parts;
  counted = number_next text old new fits shorter number are;
  before = are.before;
  say = are.say;
  order = in_order text old are;
  wrong = first_of_file are.before true known next.text why
      (wrongly text true known old new line file why next are names is);
}

-- ---- what was known before

first_kept : (before : List Said) (is_read : Bool) (old new : Known) (line : List ℕ) (why : ScriptFault)
    → Keeps old.input new.input → KeepsFiles old.files new.files → IsFirstFault before is_read new line why
    → IsFirstFault before is_read old line why
first_kept before is_read old new line fault.InputRead input files is = is
first_kept before is_read old new line fault.PartNumbers input files is =
    (is.0, is.1, IsFileFault-kept is_read old new is.0 fault.PartNumbers (λ _. input) files is.2)
first_kept before is_read old new line (fault.NoPart reported) input files is =
    (is.0, is.1, IsFileFault-kept is_read old new is.0 (fault.NoPart reported) (λ _. input) files is.2)
first_kept before is_read old new line fault.Spelling input files is = is
first_kept before is_read old new line fault.Order input files is = is
first_kept before is_read old new line fault.Cut input files is = is
first_kept before is_read old new line fault.TooLong input files is = is

all_may_kept : (is_read : Bool) (old new : Known) (lines : List Said) → Keeps old.input new.input
    → KeepsFiles old.files new.files → AllMayName is_read new lines → AllMayName is_read old lines
all_may_kept is_read old new [] input files all = tt
all_may_kept is_read old new (line ∷ rest) input files all = (
  MayName-kept_if is_read old new (file_of_line line) (λ _. input) files all.0,
  all_may_kept (is_read || is_input (file_of_line line)) old new rest input files all.1,
)

can_run_kept : (texts : List (List ℕ)) (is_read : Bool) (old new : Known) (lines : List Said)
    → Keeps old.input new.input → KeepsFiles old.files new.files → CanRun texts is_read new lines
    → CanRun texts is_read old lines
can_run_kept texts is_read old new lines input files can =
    record { say = can.say; order = can.order; name = all_may_kept is_read old new lines input files can.name }

-- If what is known was kept, a line is wrong by what was known before.
pub IsWrongLine-kept : (text : List ℕ) (is_read : Bool) (old new : Known) (number : ℕ) (why : ScriptFault)
    → Keeps old.input new.input → KeepsFiles old.files new.files → IsWrongLine text is_read new number why
    → IsWrongLine text is_read old number why
IsWrongLine-kept text is_read old new number why input files is = record {
  texts = is.texts;
  line = is.line;
  after = is.after;
  parts = is.parts;
  counted = is.counted;
  before = is.before;
  right = can_run_kept is.texts is_read old new is.before input files is.right;
  wrong = first_kept is.before (read_after is_read is.before) old new is.line why input files is.wrong;
}

pub IsRightScript-kept : (text : List ℕ) (is_read : Bool) (old new : Known) → Keeps old.input new.input
    → KeepsFiles old.files new.files → IsRightScript text is_read new → IsRightScript text is_read old
IsRightScript-kept text is_read old new input files is =
    (is.0, can_run_kept (lines_of text) is_read old new is.0 input files is.1)

pub IsLostLine-kept : (text : List ℕ) (old new : Known) (number : ℕ) (why : ScriptFault)
    → Keeps old.input new.input → KeepsFiles old.files new.files → IsLostLine text new number why
    → IsLostLine text old number why
IsLostLine-kept text old new number why input files is = record {
  texts = is.texts;
  line = is.line;
  after = is.after;
  parts = is.parts;
  counted = is.counted;
  before = is.before;
  say = is.say;
  order = is.order;
  wrong = first_kept is.before true old new is.line why input files is.wrong;
}

-- If what is known was kept, the fault of a run is one of what was known before.
pub IsFaultOfRun-kept : (text : List ℕ) (is_read : Bool) (known : Known) (input : Option (List ℕ)) (files : FileBytes)
    (number : ℕ) (why : ScriptFault) → StaysKnown known input files
    → IsFaultOfRun text is_read (known_at input files) number why → IsFaultOfRun text is_read known number why
IsFaultOfRun-kept text is_read known input files number why stays is = elim is [
  | inl wrong ↦ inl (IsWrongLine-kept text is_read known (known_at input files) number why stays.input_kept
      stays.files_kept wrong)
  | inr late ↦ inr (
    IsRightScript-kept text is_read known (known_at input files) stays.input_kept stays.files_kept late.0,
    IsLostLine-kept text (known_at None known.files) (known_at None files) number why tt stays.files_kept late.1,
  )
]

-- ---- scripts that may cut no write

no_cons : {first : Armed} {rest : List Armed} → first ∷ rest ≡ [] → ⊥
no_cons same = absurd (omega (arith, ap length same))

events_cut : (lines : List Said) (cuts : List Armed) → AreEvents lines → AllCut lines cuts → cuts ≡ []
events_cut [] cuts are cut = cut
events_cut (say.Cut write torn ∷ rest) cuts are cut = absurd are
events_cut (say.Event happened ∷ rest) cuts are cut = events_cut rest cuts are cut

cut_first : (texts : List (List ℕ)) (lines : List Said) (cuts : List Armed) → AllZip IsLineText texts lines
    → AreInOrder 0 lines → AllCut lines cuts → (cuts ≡ [] → ⊥) → IsCutFirst texts
cut_first texts [] cuts say order cut some = absurd (some cut)
cut_first [] (line ∷ rest) cuts say order cut some = absurd say
cut_first (text ∷ more) (say.Cut write torn ∷ rest) cuts say order cut some =
    record { line = text; after = more; parts = refl; write = write; torn = torn; says = say.0 }
cut_first (text ∷ more) (say.Event happened ∷ rest) cuts say order cut some =
    absurd (some (events_cut rest cuts order cut))

-- The first line of a script that cuts a write says `cut`.
pub IsCutFirst-right : (text : List ℕ) (is_read : Bool) (known : Known) (cuts : List CutWrite) → AreCutsOf text (armed_in cuts)
    → (length cuts ≡ 0 → ⊥) → IsRightScript text is_read known → IsCutFirst (lines_of text)
IsCutFirst-right text is_read known [] cut some right = absurd (some refl)
IsCutFirst-right text is_read known (first ∷ rest) cut some right =
    cut_first (lines_of text) right.0 (armed_in (first ∷ rest)) right.1.say right.1.order (cut right.0 right.1.say)
    (λ none. no_cons none)

-- ---- results

-- Each fault is also one of these.
pub NamesLine-faults : (refusal : Refusal) (number : ℕ) (HasFault HasOther : ScriptFault → Type 0)
    → ((why : ScriptFault) → HasFault why → HasOther why) → NamesLine number HasFault refusal
    → NamesLine number HasOther refusal
NamesLine-faults refusal number HasFault HasOther weaker names =
    IfSome_then (script_line refusal) names (λ bad is. (is.0, weaker bad.fault is.1))

-- An error that names no line.
pub IfErr-unnamed : {T : Type 0} (result : Result T Refusal) (Holds : ScriptLine → Type 0)
    → IfErr result (λ refusal. script_line refusal ≡ None)
    → IfErr result (λ refusal. OnScriptLine refusal Holds)
IfErr-unnamed (Ok found) Holds none = tt
IfErr-unnamed (Err refusal) Holds none = OnScriptLine-none refusal Holds none
