-- Reading a table is exact: a table that is read has this text, any text of a table is read, and an
-- error names the first bad line.
use Rattle.std.proofs.Common.{◌≡◌, ℕ, ◌≤◌, List, [], ◌∷◌, ◌++◌, length, Some, Result, Ok, Err, refl, ap, subst, ◌∙◌, inl, arith, lit<}
use Rattle.std.specs.Prelude.{option_map}
use Rattle.std.specs.List.{AllZip}
use Rattle.std.proofs.lemmas.List.{append-nil}
use Rattle.version_order.specs.VersionText.{version_text}
use Rattle.reports.specs.declared.table.Request.TheVariants as request
use Rattle.reports.specs.declared.table.Image.{Image}
use Rattle.reports.specs.declared.table.Table.{Table}
use Rattle.reports.specs.declared.table_line.TableLine.{TableLine}
use Rattle.reports.specs.declared.table_line.TableLine.TheVariants as line
use Rattle.reports.specs.LineReading.{table_line_of}
use Rattle.common.specs.Lines.{lines_of, text_of_lines, Begins, IsFirstBadLine}
use Rattle.common.specs.Reading.{read_lines}
use Rattle.reports.specs.TableText.{table_lines, table_line_text, FitsTable, FitsTableLine, IsTableLineText, IsTableText, IsSomeTable}
use Rattle.reports.specs.TableReading.{new_entry, with_line_of_images, table_of, with_table_line, with_text_of_table}
use Rattle.reports.proofs.LineLaws.{table_line_of-text, table_line_of-spelled, FitsTableLine-from_text, LacksByte-table_line}
use Rattle.common.proofs.Lists.{AllByRecursion-from_AllZip}
use Rattle.common.proofs.LinesLaws.{AreLines, lines_of-text_of_lines}
use Rattle.common.proofs.ReadingLaws.{run, run-wrapped, Spells, run-with_text, said_by_run, read_lines-ok, read_lines-run, IsFirstBadLine-stops}
use Rattle.reports.proofs.TableLaws.{table_lines-grow}
use Rattle.reports.proofs.TableLimits.{AreFew, AreFew-run}
use Rattle.reports.proofs.TableRuns.{run-table_lines}

-- The table of no images.
abbrev pub no_images : Table
no_images = table_of []

-- Reading from no image on, if the initial state has none.
pub from_no_images : (start : Table) (total : Result Table ℕ) (texts : List (List ℕ)) → start.images.items ≡ []
    → read_lines with_text_of_table start 1 texts ≡ total → read_lines with_text_of_table no_images 1 texts ≡ total
from_no_images start total texts none read =
    subst (λ (t : Table). read_lines with_text_of_table t 1 texts ≡ total) (ap table_of none) read

-- Lines of text are read as lines of a table.
spells : Spells table_line_of with_table_line IsTableLineText (λ table. table_lines 0 table.images.items)
spells = record { again = table_line_of-text; spelled = table_line_of-spelled; grows = table_lines-grow }

-- The lines of images give their table.
run-lines : (table : Table) → AreFew table.images.items
    → run with_table_line no_images (table_lines 0 table.images.items) ≡ Some table
run-lines table few =
    let images = table.images.items in
    run-wrapped table_of with_line_of_images with_table_line (λ images said. refl) [] (table_lines 0 images)
    ∙ ap (option_map table_of) (run-table_lines [] images few.few (omega (arith, few.most)))

-- Texts of the lines of a table give the table.
run-text : (texts : List (List ℕ)) (table : Table) → AreFew table.images.items
    → AllZip IsTableLineText texts (table_lines 0 table.images.items)
    → run with_text_of_table no_images texts ≡ Some table
run-text texts table few say = run-with_text table_line_of with_table_line IsTableLineText (λ t.
    table_lines 0 t.images.items) spells no_images texts (table_lines 0 table.images.items) say
    ∙ run-lines table few

nonempty : (images : List Image) (text : List ℕ) (texts : List (List ℕ))
    → AllZip IsTableLineText (text ∷ texts) (table_lines 0 images) → 1 ≤ length images
nonempty [] text texts say = absurd say
nonempty (image ∷ images) text texts say = omega arith

-- The lines are texts of the table that was read from them.
said_lines : (texts : List (List ℕ)) (table : Table) → run with_text_of_table no_images texts ≡ Some table
    → AllZip IsTableLineText texts (table_lines 0 table.images.items) × AreFew table.images.items
said_lines texts table read =
    let said = said_by_run table_line_of with_table_line IsTableLineText
    (λ t. table_lines 0 t.images.items) spells no_images table texts read in
    (rw said.1 said.2, AreFew-run table_line_of no_images table texts read (record { most = omega arith; few = tt }))

-- A table that is read and has an image has this text.
pub IsTableText-read : (bytes : List ℕ) (table : Table)
    → read_lines with_text_of_table no_images 1 (lines_of bytes) ≡ Ok table → 1 ≤ length table.images.items
    → IsTableText bytes table
IsTableText-read bytes table read some =
    let said = said_lines (lines_of bytes) table
    (read_lines-ok with_text_of_table no_images table 1 (lines_of bytes) read) in
    record { some = some; most = said.1.most; few = said.1.few; lines = said.0 }

-- A table that has a text fits its fields.
pub FitsTable-from_text : (bytes : List ℕ) (table : Table) → IsTableText bytes table → FitsTable table
FitsTable-from_text bytes table is = record {
  some = is.some;
  most = is.most;
  few = is.few;
  fields = AllByRecursion-from_AllZip IsTableLineText FitsTableLine FitsTableLine-from_text (lines_of bytes)
      (table_lines 0 table.images.items) is.lines;
}

-- A text of a table is read.
pub read_lines-table : (bytes : List ℕ) (table : Table) → IsTableText bytes table
    → read_lines with_text_of_table no_images 1 (lines_of bytes) ≡ Ok table
read_lines-table bytes table spelled =
    read_lines-run with_text_of_table no_images table 1 (lines_of bytes)
    (run-text (lines_of bytes) table (record { most = spelled.most; few = spelled.few }) spelled.lines)

-- The smallest table.
abbrev first_image : Image
first_image = record {
  running = new_entry (record { major = 0; minor = 0; revision = 0; build = 0 }) 0;
  request =
      request.None;
  floor = 0;
}

abbrev first_line : TableLine
first_line = line.Image 0 (record { major = 0; minor = 0; revision = 0; build = 0 }) 0 0

says_first : IsTableLineText (table_line_text first_line) first_line
says_first = (
  lit< tt,
  lit< tt,
  lit< tt,
  version_text (record { major = 0; minor = 0; revision = 0; build = 0 }),
  (record { major = lit< tt; minor = lit< tt; revision = lit< tt; build = lit< tt }, inl refl),
  refl,
)

some_table : IsSomeTable (text_of_lines (table_line_text first_line ∷ []) ++ [])
some_table = (
  record { images = record { items = first_image ∷ [] } },
  record {
    some = omega arith;
    most = omega arith;
    few = ((omega arith, tt), tt);
    lines = rw (lines_of-text_of_lines (table_line_text first_line ∷ []) []
        (LacksByte-table_line (table_line_text first_line) first_line says_first, tt)) (says_first, tt);
  },
)

-- Lines that were read are a prefix of a table's text.
goes_on : (texts : List (List ℕ)) (table : Table) → AreLines texts
    → run with_text_of_table no_images texts ≡ Some table → Begins IsSomeTable texts
goes_on [] table lack read = (text_of_lines (table_line_text first_line ∷ []) ++ [], some_table)
goes_on (text ∷ texts) table lack read =
    let said = said_lines (text ∷ texts) table read in
    let joined = lines_of-text_of_lines (text ∷ texts) [] lack in (
      [],
      (
        table,
        record {
          some = nonempty table.images.items text texts said.0;
          most = said.1.most;
          few = said.1.few;
          lines = rw (joined, append-nil (text ∷ texts)) said.0;
        },
      ),
    )

-- The line at which reading stops is the first with which no table continues.
pub IsFirstBadLine-table : (bytes : List ℕ) (n : ℕ)
    → read_lines with_text_of_table no_images 1 (lines_of bytes) ≡ Err n → IsFirstBadLine IsSomeTable bytes n
IsFirstBadLine-table bytes n failed =
    IsFirstBadLine-stops IsSomeTable with_text_of_table no_images
    (λ text is. (
      is.0,
      run-text (lines_of text) is.0
          (record { most = is.1.most; few = is.1.few }) is.1.lines,
    )) goes_on bytes n failed

-- If no image was read, there are no lines.
pub lines_of-no_images : (bytes : List ℕ) (table : Table)
    → read_lines with_text_of_table no_images 1 (lines_of bytes) ≡ Ok table → table.images.items ≡ []
    → lines_of bytes ≡ []
lines_of-no_images bytes table read none =
    no_lines (lines_of bytes) (read_lines-ok with_text_of_table no_images table 1 (lines_of bytes) read) where
      no_lines : (texts : List (List ℕ)) → run with_text_of_table no_images texts ≡ Some table → texts ≡ []
      no_lines [] done = refl
      no_lines (text ∷ texts) done =
          let some = nonempty table.images.items text texts (said_lines (text ∷ texts) table done).0 in
          absurd (omega (arith, some, ap length none))
