-- The meaning of a run's script: its cuts, and its events with the bytes of the files that it
-- names.
use Rattle.std.specs.Prelude.{◌≡◌, ℕ, List, [], ◌∷◌, Option, None, Some}
use Rattle.std.specs.Io.KnownBytes.{Keeps}
use Rattle.std.specs.List.{AllZip}
use Rattle.common.specs.Lines.{lines_of}
use Rattle.machine.specs.declared.event.Event.{Event}
use Rattle.machine.specs.declared.event.Event.TheVariants as event
use Rattle.flash_model.specs.declared.torn.Armed.{Armed}
use Rattle.device_texts.specs.Cuts.{Leaves}
use Rattle.device_texts.specs.InOrder.{AreInOrder}
use Rattle.device_texts.specs.LineText.{IsLineText}
use Rattle.device_texts.specs.Part.{IsPart}
use Rattle.device_texts.specs.Said.{PartWords, Said, SaidEvent, SaidFile, SaidTorn}
use Rattle.device_texts.specs.Said as said
use Rattle.host.specs.declared.source.Source.{Source}
use Rattle.host.specs.declared.source.Source.TheVariants.{StandardInput, File}
use Rattle.host.specs.Input.{FileBytes, Gives, IsNamed, KeepsFiles}

-- What is known of a host: the rest of its standard input, and the contents of its files.
pub record Known : Type 0 where
  pub input : Option (List ℕ)
  pub files : FileBytes

-- What is known of a host that holds this.
abbrev pub known_at : Option (List ℕ) → FileBytes → Known
known_at input files = record { input = input; files = files }

-- What is known stays so.
pub record StaysKnown (known : Known) (input : Option (List ℕ)) (files : FileBytes) : Type 0 where
  pub input_kept : Keeps known.input input
  pub files_kept : KeepsFiles known.files files

-- What is known after a source was read. If it is a file, that is all that was known before. After
-- standard input was read, nothing is known, not even the contents of files.
abbrev pub known_after : Source → Known → Known
known_after StandardInput known = record { input = None; files = λ name. None }
known_after (File name) known = known

-- What is known of a host after these sources were read.
abbrev pub known_after_each : List Source → Known → Known
known_after_each [] known = known
known_after_each (source ∷ rest) known = known_after_each rest (known_after source known)

-- The source that a script names is read: a file or standard input.
pub record IsRead (name : List ℕ) (known : Known) (bytes : List ℕ) (after : Known) : Type 0 where
  pub source : Source
  pub named : IsNamed name source
  pub given : Gives source known.input known.files bytes
  pub then : after ≡ known_after source known

-- All bytes of a file, or the part of them that two words name.
abbrev pub IsPieceOf : Option PartWords → List ℕ → List ℕ → Type 0
IsPieceOf None bytes piece = piece ≡ bytes
IsPieceOf (Some words) bytes piece = IsPart words bytes piece

-- The bytes that a line names were read: a complete file or a part.
abbrev pub ReadsFile : SaidFile → List ℕ → Known → Known → Type 0
ReadsFile file piece known after =
    (bytes : List ℕ) × IsRead file.name known bytes after × IsPieceOf file.part bytes piece

-- The file that an event names, if it names one.
abbrev pub file_in : SaidEvent → Option SaidFile
file_in (event.Accept file) = Some file
file_in (event.Piece image file) = Some file
file_in other = None

-- The event of a line, and what is known of the host after it.
abbrev pub Comes : SaidEvent → Known → Event (List ℕ) → Known → Type 0
Comes (event.Accept file) known came after =
    (text : List ℕ) × ReadsFile file text known after × (came ≡ event.Accept text)
Comes (event.Piece image file) known came after =
    (piece : List ℕ) × ReadsFile file piece known after × (came ≡ event.Piece image piece)
Comes (event.Finish image) known came after = (came ≡ event.Finish image) × (after ≡ known)
Comes (event.Withdraw image) known came after = (came ≡ event.Withdraw image) × (after ≡ known)
Comes (event.Confirm image) known came after = (came ≡ event.Confirm image) × (after ≡ known)
Comes event.Boot known came after = (came ≡ event.Boot) × (after ≡ known)
Comes event.Reset known came after = (came ≡ event.Reset) × (after ≡ known)

-- The events of lines in order.
abbrev pub AllCome : List Said → Known → List (Event (List ℕ)) → Type 0
AllCome [] known came = came ≡ []
AllCome (said.Cut write torn ∷ lines) known came = AllCome lines known came
AllCome (said.Event happened ∷ lines) known came =
    (first : Event (List ℕ)) × (after : Known) × (more : List (Event (List ℕ)))
    × Comes happened known first after × AllCome lines after more × (came ≡ first ∷ more)

-- A `cut` line arms this cut: the write of that number, and what it leaves.
pub record IsCutBy (write : ℕ) (torn : SaidTorn) (cut : Armed) : Type 0 where
  pub number : cut.at ≡ write
  pub leaves : Leaves torn cut.torn

-- The cuts of lines in order.
abbrev pub AllCut : List Said → List Armed → Type 0
AllCut [] cuts = cuts ≡ []
AllCut (said.Cut write torn ∷ lines) cuts =
    (first : Armed) × (more : List Armed) × IsCutBy write torn first × AllCut lines more
    × (cuts ≡ first ∷ more)
AllCut (said.Event happened ∷ lines) cuts = AllCut lines cuts

-- A text is a script with these cuts and these events. Each of its lines says something, `cut`
-- lines come before events, and their numbers rise.
pub record IsScript (text : List ℕ) (known : Known) (cuts : List Armed)
    (came : List (Event (List ℕ))) : Type 0 where
  pub lines : List Said
  pub say : AllZip IsLineText (lines_of text) lines
  pub order : AreInOrder 0 lines
  pub cut : AllCut lines cuts
  pub come : AllCome lines known came
