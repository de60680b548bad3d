-- Laws of scripts that are read line by line, and of their events.
use Rattle.std.proofs.Common.{◌≡◌, ◌≢◌, ℕ, zero, suc, ◌+◌, ◌-◌, ◌≤◌, List, [], ◌∷◌, ◌++◌, ◌↔◌, Bool, Option, None, Some, IfSome, MatchBool, true, false, refl, ap, sym, ◌∙◌, subst, append_assoc, arith, codes, decimal, length, length-append, option_map, slice_get, take, true≢false}
use Rattle.std.proofs.Math.ListN.{replicate}
use Rattle.std.proofs.Math.Seq.{drop-append_seam, take-length}
use Rattle.std.proofs.lemmas.List.{append-nil, length-replicate, map-append, take_all}
use Rattle.std.specs.Prelude.{Vec}
use Rattle.std.specs.Borrow.{Bor}
use Rattle.std.specs.List.{slice_range, AllZip}
use Rattle.std.specs.Io.KnownBytes.{Keeps}
use Rattle.common.specs.Lines.{lines_of}
use Rattle.machine.specs.declared.event.Event.{Event}
use Rattle.machine.specs.declared.event.Event.TheVariants as event
use Rattle.machine.specs.Event.{event_map}
use Rattle.flash_model.specs.declared.torn.Armed.{Armed}
use Rattle.device_texts.specs.declared.line_order.LineOrder.{LineOrder}
use Rattle.device_texts.specs.InOrder.{AreEvents, AreInOrder, CanFollow}
use Rattle.device_texts.specs.LineText.{IsLineText}
use Rattle.device_texts.specs.Part.{IsPart}
use Rattle.device_texts.specs.declared.line.FileText.{FileText}
use Rattle.device_texts.specs.declared.line.Line.{Line}
use Rattle.device_texts.specs.declared.line.Line.TheVariants as line
use Rattle.device_texts.specs.declared.line.TornText.{TornText}
use Rattle.device_texts.specs.declared.part.PartText.{PartText}
use Rattle.device_texts.specs.Said.{PartWords, Said, SaidFile, SaidTorn, file_of, part_words, said_file, said_torn}
use Rattle.device_texts.specs.Said as said
use Rattle.host.specs.declared.source.Source.{Source}
use Rattle.host.specs.declared.source.Source.TheVariants.{StandardInput, File}
use Rattle.host.specs.Input.{FileBytes, IsKnownAs, IsKnownPart, IsNamed, KeepsFiles, KeepsOthers}
use Rattle.device_texts.proofs.LineLaws.{one_line}
use Rattle.device_texts.specs.FlashOf.{armed_in, armed_of}
use Rattle.device_texts.specs.declared.flash.CutWrite.{CutWrite}
use Rattle.inputs.specs.declared.checking.BufferedInput.{BufferedInput}
use Rattle.inputs.specs.declared.lines.Lines.{Lines}
use Rattle.inputs.specs.Loading.{AddsCut, AreCutsOf, AreBuffered, Loads, LoadsAll, LoadsFirst, FirstCome, IsInputPiece, IsBuffered, IsNextLine, KeepsBuffered, Passes, ReadsNow, came_in, came_of}
use Rattle.inputs.specs.Script.{AllCome, AllCut, Comes, IsCutBy, IsScript, Known, ReadsFile, StaysKnown, known_after}
use Rattle.host.proofs.InputLaws.{Gives-kept, kept_itself, kept_twice}

-- An event that a line of a script says.
abbrev ScriptEvent : Type 0
ScriptEvent = Event FileText

-- What a host is known to hold stays known.
pub StaysKnown-itself : (input : Option (List ℕ)) (files : FileBytes)
    → StaysKnown (record { input = input; files = files }) input files
StaysKnown-itself input files = record {
  input_kept = kept_itself input;
  files_kept = λ file. kept_itself (files file);
}

-- What is known after a source was read.
pub StaysKnown-read : (source : Source) (known : Known) (input new_input : Option (List ℕ))
    (files new_files : FileBytes) → StaysKnown known input files
    → KeepsOthers source input files new_input new_files
    → StaysKnown (known_after source known) new_input new_files
StaysKnown-read StandardInput known input new_input files new_files stays kept =
    record { input_kept = tt; files_kept = λ name. tt }
StaysKnown-read (File name) known input new_input files new_files stays kept = record {
  input_kept = kept_twice known.input input new_input stays.input_kept kept.0;
  files_kept = λ file. kept_twice (known.files file) (files file) (new_files file) (stays.files_kept file) (kept.1 file);
}

-- A known part stays known.
IsKnownPart-kept : (old new : Option (List ℕ)) (from count : ℕ) (part : List ℕ)
    → Keeps old new → IsKnownPart new from count part → IsKnownPart old from count part
IsKnownPart-kept None new from count part kept is = record { many = is.many; there = tt; same = tt }
IsKnownPart-kept (Some xs) None from count part kept is = absurd kept
IsKnownPart-kept (Some xs) (Some ys) from count part kept is =
    subst (λ held. IsKnownPart (Some held) from count part) kept is

-- The bytes after a prefix are a part of all.
behind : (before part : List ℕ) → part ≡ slice_range (before ++ part) (length before) (length before + length part)
behind before part =
    let many : length before + length part - length before ≡ length part = omega arith in
    sym (ap (λ rest. take (length before + length part - length before) rest) (drop-append_seam before part)
    ∙ ap (λ n. take n part) many ∙ take-length part)

-- A known part of a file is the part of some bytes of the file.
IsPart-known : (known : Option (List ℕ)) (words : PartWords) (from count : ℕ) (part : List ℕ)
    → words.from ≡ decimal from → words.count ≡ decimal count → IsKnownPart known from count part
    → (bytes : List ℕ) × IsKnownAs known bytes × IsPart words bytes part
IsPart-known None words from count part first many is =
    let before = replicate from 0 in
    let long : length before ≡ from = length-replicate from 0 in
    let there : from + count ≤ length (before ++ part) = omega (arith, long, is.many, length-append before part) in
    let same = subst (λ n. part ≡ slice_range (before ++ part) n (n + length part)) long (behind before part) in (
      before ++ part,
      tt,
      (
        from,
        count,
        first,
        many,
        there,
        subst (λ n. part ≡ slice_range (before ++ part) from (from + n)) is.many same,
      ),
    )
IsPart-known (Some held) words from count part first many is =
    (held, refl, (from, count, first, many, is.there, is.same))

-- A part of a file is read.
pub ReadsNow-part : (name : Bor (List ℕ)) (words : PartWords) (from count : ℕ) (part : List ℕ)
    (files : FileBytes) → name.now ≢ codes "-" → words.from ≡ decimal from → words.count ≡ decimal count
    → IsKnownPart (files name.now) from count part → ReadsNow (file_of name.now (Some words)) part files
ReadsNow-part name words from count part files named first many is = λ input first_files kept known stays.
    let then = IsKnownPart-kept (first_files name.now) (files name.now) from count part (kept name.now) is in
    let still = IsKnownPart-kept (known.files name.now) (first_files name.now) from count part (stays.files_kept name.now) then in
    let found = IsPart-known (known.files name.now) words from count part first many still in (
      known,
      (found.0, record { source = File name; named = (named, refl); given = found.1; then = refl }, found.2),
      stays,
    )

-- A complete file is read.
pub ReadsNow-whole : (name : Bor (List ℕ)) (bytes : List ℕ) (files : FileBytes) → name.now ≢ codes "-"
    → IsKnownAs (files name.now) bytes → ReadsNow (file_of name.now None) bytes files
ReadsNow-whole name bytes files named is = λ input first_files kept known stays.
    let then = Gives-kept (File name) input input first_files files bytes (kept_itself input) kept is in
    let still = Gives-kept (File name) known.input input known.files first_files bytes stays.input_kept stays.files_kept then in (
      known,
      (bytes, record { source = File name; named = (named, refl); given = still; then = refl }, refl),
      stays,
    )

-- A part of standard input, or all of it, was read.
IsBuffered-input : (name : List ℕ) (part : Option PartWords) (piece : List ℕ) (input : Option (List ℕ))
    (files : FileBytes) → name ≡ codes "-" → IsInputPiece part input piece
    → Passes (ReadsFile (file_of name part) piece) input files input files
IsBuffered-input name part piece input files named is = λ known stays.
    let still = Gives-kept StandardInput known.input input known.files files is.0 stays.input_kept stays.files_kept is.1 in (
      known_after StandardInput known,
      (is.0, record { source = StandardInput; named = named; given = still; then = refl }, is.2),
      StaysKnown-read StandardInput known input input files files stays tt,
    )

-- A part of an input that was kept is a part of the old input.
IsInputPiece-kept : (part : Option PartWords) (old new : Option (List ℕ)) (files : FileBytes) (piece : List ℕ)
    → Keeps old new → IsInputPiece part new piece → IsInputPiece part old piece
IsInputPiece-kept part old new files piece kept is =
    (is.0, Gives-kept StandardInput old new files files is.0 kept (λ name. kept_itself (files name)) is.1, is.2)

-- One more input is buffered.
AreBuffered-push : (buffered : List BufferedInput) (item : BufferedInput) (input : Option (List ℕ)) (files : FileBytes)
    → AreBuffered buffered input files → IsBuffered item input files → AreBuffered (buffered ++ item ∷ []) input files
AreBuffered-push [] item input files all one = (one, tt)
AreBuffered-push (first ∷ rest) item input files all one =
    (all.0, AreBuffered-push rest item input files all.1 one)

-- An input of the buffered ones is buffered.
AreBuffered-get : (buffered : List BufferedInput) (place : ℕ) (input : Option (List ℕ)) (files : FileBytes)
    → AreBuffered buffered input files → IfSome (slice_get buffered place) (λ item. IsBuffered item input files)
AreBuffered-get [] place input files all = tt
AreBuffered-get (first ∷ rest) zero input files all = all.0
AreBuffered-get (first ∷ rest) (suc place) input files all = AreBuffered-get rest place input files all.1

-- The named bytes of a file were buffered.
pub KeepsBuffered-file : (old new : List BufferedInput) (item : BufferedInput) (is_read : Bool)
    (input : Option (List ℕ)) (files : FileBytes) → new ≡ old ++ item ∷ []
    → ReadsNow (said_file item.file) item.bytes.items files → KeepsBuffered old new is_read is_read input files input
KeepsBuffered-file old new item is_read input files pushed read = λ first_input first_files files_kept input_kept all. (
  subst (λ items. AreBuffered items first_input first_files) (sym pushed)
      (AreBuffered-push old item first_input first_files all (read first_input first_files files_kept)),
  input_kept,
)

-- The named bytes of standard input were buffered.
pub KeepsBuffered-input : (old new : List BufferedInput) (item : BufferedInput) (was_read is_read : Bool)
    (input new_input : Option (List ℕ)) (files : FileBytes) → new ≡ old ++ item ∷ []
    → item.file.name.now ≡ codes "-" → was_read ≡ false → is_read ≡ true
    → IsInputPiece (option_map part_words item.file.part) input item.bytes.items
    → KeepsBuffered old new was_read is_read input files new_input
KeepsBuffered-input old new item was_read is_read input new_input files pushed named unread read is =
    λ first_input first_files files_kept input_kept all.
    let part = option_map part_words item.file.part in
    let first = IsInputPiece-kept part first_input input files item.bytes.items (input_kept unread) is in (
      subst (λ items. AreBuffered items first_input first_files) (sym pushed)
          (AreBuffered-push old item first_input first_files all
          (IsBuffered-input item.file.name.now part item.bytes.items first_input first_files named first)),
      λ not_read. absurd (true≢false (sym read ∙ not_read)),
    )

-- A buffered input is used.
pub Loads-buffered : (buffered : List BufferedInput) (files : FileBytes) (place : ℕ) (item : BufferedInput) (file : SaidFile)
    → slice_get buffered place ≡ Some item → said_file item.file ≡ file
    → Loads buffered files (ReadsFile file item.bytes.items)
Loads-buffered buffered files place item file found same = λ input first_files files_kept all.
    let is = subst (λ one. IfSome one (λ item. IsBuffered item input first_files)) found
    (AreBuffered-get buffered place input first_files all) in
    subst (λ file. Passes (ReadsFile file item.bytes.items) input first_files input first_files) same is

-- Bytes that are read at the event are loaded, whatever was buffered.
pub Loads-now : (buffered : List BufferedInput) (files : FileBytes) (file : SaidFile) (bytes : List ℕ)
    → ReadsNow file bytes files → Loads buffered files (ReadsFile file bytes)
Loads-now buffered files file bytes read = λ input first_files files_kept all. read input first_files files_kept

-- The event is a manifest, whose bytes are loaded.
pub Loads-accept : (buffered : List BufferedInput) (files : FileBytes) (file : SaidFile) (text : List ℕ)
    → Loads buffered files (ReadsFile file text)
    → Loads buffered files (λ known after. Comes (event.Accept file) known (event.Accept text) after)
Loads-accept buffered files file text loads = λ input first_files files_kept held known stays.
    let then = loads input first_files files_kept held known stays in (then.0, (text, then.1, refl), then.2)

-- The event is a piece, whose bytes are loaded.
pub Loads-piece : (buffered : List BufferedInput) (files : FileBytes) (image : ℕ) (file : SaidFile) (piece : List ℕ)
    → Loads buffered files (ReadsFile file piece)
    → Loads buffered files (λ known after. Comes (event.Piece image file) known (event.Piece image piece) after)
Loads-piece buffered files image file piece loads = λ input first_files files_kept held known stays.
    let then = loads input first_files files_kept held known stays in (then.0, (piece, then.1, refl), then.2)

-- A line names a file, and not standard input.
pub said_file-named : (file : FileText) (source : Source) (name : Bor (List ℕ)) (part : Option PartText)
    → IsNamed file.name.now source → source ≡ File name → file.part ≡ part
    → file_of name.now (option_map part_words part) ≡ said_file file
said_file-named file source name part named is same =
    let word = (subst (IsNamed file.name.now) is named).1 in
    ap (λ w. file_of w (option_map part_words part)) word
    ∙ ap (λ p. file_of file.name.now (option_map part_words p)) (sym same)

-- The name of a file isn't `-`.
pub not_input : (file : FileText) (source : Source) (name : Bor (List ℕ)) → IsNamed file.name.now source
    → source ≡ File name → name.now ≢ codes "-"
not_input file source name named is = λ dash.
    let both = subst (IsNamed file.name.now) is named in both.0 (sym both.1 ∙ dash)

-- The lines of a text were loaded up to `rest`. For any lines and events that follow, the loaded
-- events and those are the events of the complete text.
pub record AreTaken (text rest : List ℕ) (line_order : LineOrder) (taken : ℕ) (buffered : List BufferedInput)
    (files : FileBytes) (came : List (Event (List ℕ))) : Type 0 where
  pub count : taken + length (lines_of rest) ≡ length (lines_of text)
  pub goes_on : Loads buffered files (λ known now. (n : ℕ) (lines : List Said) (more : List (Event (List ℕ)))
      → CanFollow line_order lines → AllZip IsLineText (take n (lines_of rest)) lines → AllCome lines now more
      → FirstCome (taken + n) text known (came ++ more))

-- No line was loaded.
pub AreTaken-none : (text rest : List ℕ) (line_order : LineOrder) (buffered : List BufferedInput) (files : FileBytes)
    → rest ≡ text → ((lines : List Said) → CanFollow line_order lines ↔ AreInOrder 0 lines)
    → AreTaken text rest line_order 0 buffered files []
AreTaken-none text rest line_order buffered files all order = record {
  count = let same : length (lines_of rest) ≡ length (lines_of text) = ap (λ t. length (lines_of t)) all in
      omega (arith, same);
  goes_on = λ input first_files files_kept held known stays. (
    known,
    (λ n lines more follows say come.
        let first : FirstCome n text known more = record {
          lines = lines;
          say = subst (λ t. AllZip IsLineText (take n (lines_of t)) lines) all say;
          order = (order lines).0 follows;
          come = come;
        } in
        let same : n ≡ 0 + n = omega arith in
        subst (λ k. FirstCome k text known more) same first),
    stays,
  );
}

-- One more line was loaded, which is a `cut`.
pub AreTaken-cut : (text : List ℕ) (old new : Lines) (write : ℕ) (torn : TornText) (taken : ℕ)
    (buffered : List BufferedInput) (files : FileBytes) (came : List (Event (List ℕ)))
    → IsNextLine old new (line.Cut write torn)
    → AreTaken text old.rest.now old.order taken buffered files came
    → AreTaken text new.rest.now new.order (taken + 1) buffered files came
AreTaken-cut text old new write torn taken buffered files came next before =
    let one = said.Cut write (said_torn torn) in record {
      count = let parts : length (lines_of old.rest.now) ≡ suc (length (lines_of new.rest.now)) = ap length next.parts in
          omega (arith, before.count, parts);
      goes_on = λ input first_files files_kept held known stays.
          let then = before.goes_on input first_files files_kept held known stays in (
            then.0,
            (λ n lines more follows say come.
                let more_lines : taken + suc n ≡ (taken + 1) + n = omega arith in
                subst (λ k. FirstCome k text known (came ++ more)) more_lines
                (then.1 (suc n) (one ∷ lines) more ((next.follows lines).0 follows)
                (subst (λ all. AllZip IsLineText (take (suc n) all) (one ∷ lines)) (sym next.parts) (next.says, say)) come)),
            then.2,
          );
    }

-- One more event was added.
pub came_in-push : {A : Type 0} (old new : List (Event (Vec ℕ A))) (one : Event (Vec ℕ A)) → new ≡ old ++ one ∷ []
    → came_in new ≡ came_in old ++ came_of one ∷ []
came_in-push old new one added = ap (λ events. came_in events) added ∙ map-append came_of old (one ∷ [])

-- One more line was loaded, which is an event.
pub AreTaken-event : (text : List ℕ) (old new : Lines) (happened : ScriptEvent) (taken : ℕ)
    (buffered : List BufferedInput) (files : FileBytes) (came : List (Event (List ℕ))) (one_came : Event (List ℕ))
    → IsNextLine old new (line.Event happened)
    → Loads buffered files (λ known after. Comes (event_map said_file happened) known one_came after)
    → AreTaken text old.rest.now old.order taken buffered files came
    → AreTaken text new.rest.now new.order (taken + 1) buffered files (came ++ one_came ∷ [])
AreTaken-event text old new happened taken buffered files came one_came next loads before =
    let one = said.Event (event_map said_file happened) in record {
      count = let parts : length (lines_of old.rest.now) ≡ suc (length (lines_of new.rest.now)) = ap length next.parts in
          omega (arith, before.count, parts);
      goes_on = λ input first_files files_kept held known stays.
          let then = before.goes_on input first_files files_kept held known stays in
          let comes = loads input first_files files_kept held then.0 then.2 in (
            comes.0,
            (λ n lines more follows say come.
                let more_lines : taken + suc n ≡ (taken + 1) + n = omega arith in
                subst (λ k. FirstCome k text known ((came ++ one_came ∷ []) ++ more)) more_lines
                (subst (λ all. FirstCome (taken + suc n) text known all) (sym (append_assoc came (one_came ∷ []) more))
                (then.1 (suc n) (one ∷ lines) (one_came ∷ more) ((next.follows lines).0 follows)
                (subst (λ all. AllZip IsLineText (take (suc n) all) (one ∷ lines)) (sym next.parts) (next.says, say))
                (one_came, comes.0, more, comes.1, come, refl)))),
            comes.2,
          );
    }

-- An empty list of lines can always follow.
pub nothing_follows : (has_event : Bool) (last : ℕ) → MatchBool has_event (AreEvents []) (AreInOrder last [])
nothing_follows true last = tt
nothing_follows false last = tt

-- The loaded lines are the first ones.
pub LoadsFirst-taken : (text rest : List ℕ) (line_order : LineOrder) (taken : ℕ) (buffered : List BufferedInput)
    (files : FileBytes) (came : List (Event (List ℕ))) → AreTaken text rest line_order taken buffered files came
    → LoadsFirst taken text buffered files came
LoadsFirst-taken text rest line_order taken buffered files came are = λ input first_files files_kept held known stays.
    let then = are.goes_on input first_files files_kept held known stays in
    let none : taken + 0 ≡ taken = omega arith in (
      then.0,
      subst (λ k. FirstCome k text known came) none
          (subst (λ all. FirstCome (taken + 0) text known all) (append-nil came)
          (then.1 0 [] [] (nothing_follows line_order.has_event line_order.last_cut) tt refl)),
      then.2,
    )

-- No line was loaded.
pub LoadsFirst-none : (text : List ℕ) (buffered : List BufferedInput) (files : FileBytes)
    → LoadsFirst 0 text buffered files []
LoadsFirst-none text buffered files = λ input first_files files_kept held known stays.
    (known, record { lines = []; say = tt; order = tt; come = refl }, stays)

-- All lines were loaded.
pub LoadsAll-taken : (text rest : List ℕ) (line_order : LineOrder) (taken : ℕ) (buffered : List BufferedInput)
    (files : FileBytes) (came : List (Event (List ℕ))) → length rest ≡ 0
    → AreTaken text rest line_order taken buffered files came → LoadsAll text buffered files came
LoadsAll-taken text [] line_order taken buffered files came none are =
    let all : taken ≡ length (lines_of text) = omega (arith, are.count) in
    subst (λ k. LoadsFirst k text buffered files came) all (LoadsFirst-taken text [] line_order taken buffered files came are)
LoadsAll-taken text (b ∷ rest) line_order taken buffered files came none are = absurd (omega (arith, none))

-- The cuts of a text are those found so far, followed by those of the rest of the text.
abbrev pub CutSoFar : List ℕ → List ℕ → List Armed → Type 0
CutSoFar text rest cuts = (all : List Said) → AllZip IsLineText (lines_of text) all
    → (lines : List Said) × AllZip IsLineText (lines_of rest) lines
    × ((others : List Armed) → AllCut lines others → AllCut all (cuts ++ others))

pub CutSoFar-none : (text rest : List ℕ) → rest ≡ text → CutSoFar text rest []
CutSoFar-none text rest all =
    λ lines say. (lines, subst (λ t. AllZip IsLineText (lines_of t) lines) (sym all) say, λ others cut. cut)

-- The first of some lines says what its text says.
first_says : (text : List ℕ) (more : List (List ℕ)) (one : Said) (lines : List Said) → IsLineText text one
    → AllZip IsLineText (text ∷ more) lines
    → (rest : List Said) × (lines ≡ one ∷ rest) × AllZip IsLineText more rest
first_says text more one [] is say = absurd say
first_says text more one (other ∷ rest) is say =
    (rest, ap (λ first. first ∷ rest) (one_line text other one say.0 is), say.1)

-- A line adds its cut to those found so far.
cut_more : (one : Said) (lines all : List Said) (cuts new_cuts others : List Armed) → AddsCut one cuts new_cuts
    → AllCut lines others → ((armed : List Armed) → AllCut (one ∷ lines) armed → AllCut all (cuts ++ armed))
    → AllCut all (new_cuts ++ others)
cut_more (said.Cut write torn) lines all cuts new_cuts others adds are then =
    subst (λ l. AllCut all (l ++ others)) (sym adds.2)
    (subst (AllCut all) (sym (append_assoc cuts (adds.0 ∷ []) others))
    (then (adds.0 ∷ others) (adds.0, others, adds.1, are, refl)))
cut_more (said.Event happened) lines all cuts new_cuts others adds are then =
    subst (λ l. AllCut all (l ++ others)) (sym adds) (then others are)

-- One more line was checked.
pub CutSoFar-more : (text : List ℕ) (old new : Lines) (taken : Line) (cuts new_cuts : List Armed)
    → IsNextLine old new taken → AddsCut (said.said taken) cuts new_cuts → CutSoFar text old.rest.now cuts
    → CutSoFar text new.rest.now new_cuts
CutSoFar-more text old new taken cuts new_cuts next adds before = λ all say.
    let so_far = before all say in
    let one = said.said taken in
    let first = first_says next.text (lines_of new.rest.now) one so_far.0 next.says
    (subst (λ lines. AllZip IsLineText lines so_far.0) next.parts so_far.1) in (
      first.0,
      first.2,
      λ others are.
          cut_more one first.0 all cuts new_cuts others adds are
          (λ armed cut. so_far.2 armed (subst (λ lines. AllCut lines armed) (sym first.1) cut)),
    )

-- A `cut` line adds its write as the last one.
pub AddsCut-taken : (write : ℕ) (torn : SaidTorn) (old new : List CutWrite) (cut : CutWrite) → new ≡ old ++ cut ∷ []
    → IsCutBy write torn (armed_of cut) → AddsCut (said.Cut write torn) (armed_in old) (armed_in new)
AddsCut-taken write torn old new cut added is =
    (armed_of cut, is, ap (λ cuts. armed_in cuts) added ∙ map-append armed_of old (cut ∷ []))

-- No line is left.
no_lines : (lines : List Said) → AllZip IsLineText [] lines → lines ≡ []
no_lines [] say = refl
no_lines (one ∷ rest) say = absurd say

pub AreCutsOf-all : (text rest : List ℕ) (cuts : List Armed) → length rest ≡ 0 → CutSoFar text rest cuts
    → AreCutsOf text cuts
AreCutsOf-all text [] cuts none so_far = λ lines say.
    let left = so_far lines say in
    subst (AllCut lines) (append-nil cuts)
    (left.2 [] (subst (λ l. AllCut l []) (sym (no_lines left.0 left.1)) refl))
AreCutsOf-all text (b ∷ rest) cuts none so_far = absurd (omega (arith, none))

-- An empty list has no cuts.
pub no_cuts : (cuts : List CutWrite) → length cuts ≡ 0 → armed_in cuts ≡ []
no_cuts [] none = refl
no_cuts (cut ∷ rest) none = absurd (omega (arith, none))

-- A text is a script whose events are all that were loaded from its lines.
pub IsScript-loaded : (text : List ℕ) (cuts : List Armed) (came : List (Event (List ℕ)))
    (buffered : List BufferedInput) (input : Option (List ℕ)) (first_files files : FileBytes) → AreCutsOf text cuts
    → LoadsAll text buffered files came → KeepsFiles first_files files → AreBuffered buffered input first_files
    → (known : Known) → StaysKnown known input first_files → IsScript text known cuts came
IsScript-loaded text cuts came buffered input first_files files cut loads files_kept held known stays =
    let first = (loads input first_files files_kept held known stays).1 in
    let say = subst (λ lines. AllZip IsLineText lines first.lines)
    (take_all (length (lines_of text)) (lines_of text) (omega arith)) first.say in
    record { lines = first.lines; say = say; order = first.order; cut = cut first.lines say; come = first.come }
