-- The texts of a table.
use Rattle.std.specs.Prelude.{◌≡◌, ℕ, ◌+◌, ◌^◌, ◌<◌, ◌≤◌, List, [], ◌∷◌, ◌++◌, length, map, codes, decimal}
use Rattle.std.specs.List.{AllByRecursion, AllZip}
use Rattle.common.specs.Limits.{MOST_DEPENDENCIES, MOST_GROUPS, MOST_IMAGES}
use Rattle.common.specs.Lines.{◌␣◌, lines_of, printed_lines}
use Rattle.version_order.specs.VersionText.{FitsFields, version_text, IsVersionText}
use Rattle.version_order.specs.declared.group.Group.{Group}
use Rattle.reports.specs.declared.table.Entry.{Entry}
use Rattle.reports.specs.declared.table.Request.{Request}
use Rattle.reports.specs.declared.table.Request.TheVariants as request
use Rattle.reports.specs.declared.table.Image.{Image}
use Rattle.reports.specs.declared.table.Table.{Table}
use Rattle.reports.specs.declared.table_line.TableLine.{TableLine}
use Rattle.reports.specs.declared.table_line.TableLine.TheVariants as line
use Rattle.reports.specs.DependencyText.{needs_one_text, needs_text, FitsDependency, FitsGroup, IsNeedsOneText, IsNeedsText}

-- The printed text of a line whose numbers fit their fields.
abbrev pub table_line_text : TableLine → List ℕ
table_line_text (line.Image number version counter floor) =
    codes "image" ␣ decimal number ␣ version_text version ␣ decimal counter ␣ decimal floor
table_line_text (line.Needs dependency) = needs_text dependency
table_line_text (line.NeedsOne group) = needs_one_text group
table_line_text (line.Request version counter) =
    codes "request" ␣ version_text version ␣ decimal counter
table_line_text line.Damaged = codes "damaged"

-- A text of a line, without its line feed: words separated by one space, decimal numbers that fit
-- their fields, and any of the texts of a version.
abbrev pub IsTableLineText : List ℕ → TableLine → Type 0
IsTableLineText text (line.Image number version counter floor) =
    (number < 2 ^ 8) × (counter < 2 ^ 32) × (floor < 2 ^ 32)
    × (spelled : List ℕ) × IsVersionText spelled version
    × (text ≡ codes "image" ␣ decimal number ␣ spelled ␣ decimal counter ␣ decimal floor)
IsTableLineText text (line.Needs dependency) = IsNeedsText text dependency
IsTableLineText text (line.NeedsOne group) = IsNeedsOneText text group
IsTableLineText text (line.Request version counter) =
    (counter < 2 ^ 32)
    × (spelled : List ℕ) × IsVersionText spelled version
    × (text ≡ codes "request" ␣ spelled ␣ decimal counter)
IsTableLineText text line.Damaged = text ≡ codes "damaged"

-- A line for each group.
abbrev pub group_lines : List Group → List TableLine
group_lines groups = map (λ group. line.NeedsOne group) groups

-- A line for each dependency of an entry, and then one for each group.
abbrev pub needs_lines : Entry → List TableLine
needs_lines entry =
    map (λ dependency. line.Needs dependency) entry.dependencies.items
    ++ group_lines entry.groups.items

-- The lines of a request: none, one line, or a line and those of its dependencies and groups.
abbrev pub request_lines : Request → List TableLine
request_lines request.None = []
request_lines request.Damaged = line.Damaged ∷ []
request_lines (request.Entry entry) = line.Request entry.version entry.counter ∷ needs_lines entry

-- The lines of image number n: the running image, its dependencies and groups, and the request.
abbrev pub image_lines : ℕ → Image → List TableLine
image_lines n image =
    line.Image n image.running.version image.running.counter image.floor
    ∷ (needs_lines image.running ++ request_lines image.request)

-- The lines of the images from number n on.
abbrev pub table_lines : ℕ → List Image → List TableLine
table_lines n [] = []
table_lines n (image ∷ images) = image_lines n image ++ table_lines (n + 1) images

-- An entry has at most 16 dependencies and at most 4 groups.
pub record HasFewNeeds (entry : Entry) : Type 0 where
  pub dependencies : length entry.dependencies.items ≤ MOST_DEPENDENCIES
  pub groups : length entry.groups.items ≤ MOST_GROUPS

abbrev pub AsksForFew : Request → Type 0
AsksForFew request.None = Unit {0}
AsksForFew request.Damaged = Unit {0}
AsksForFew (request.Entry entry) = HasFewNeeds entry

-- The running entry of an image and the requested one have at most 16 dependencies and 4 groups
-- each.
abbrev pub IsSmall : Image → Type 0
IsSmall image = HasFewNeeds image.running × AsksForFew image.request

-- A text of a table. There are one to eight images, with at most 16 dependencies and 4 groups an
-- entry. The lines of the text are those of the table in order.
pub record IsTableText (bytes : List ℕ) (table : Table) : Type 0 where
  pub some : 1 ≤ length table.images.items
  pub most : length table.images.items ≤ MOST_IMAGES
  pub few : AllByRecursion IsSmall table.images.items
  pub lines : AllZip IsTableLineText (lines_of bytes) (table_lines 0 table.images.items)

-- The bytes are a text of some table.
abbrev pub IsSomeTable : List ℕ → Type 0
IsSomeTable bytes = (table : Table) × IsTableText bytes table

-- The printed text of a table.
abbrev pub table_text : Table → List ℕ
table_text table = printed_lines table_line_text (table_lines 0 table.images.items)

-- The numbers of a line fit their fields.
abbrev pub FitsTableLine : TableLine → Type 0
FitsTableLine (line.Image number version counter floor) =
    (number < 2 ^ 8) × FitsFields version × (counter < 2 ^ 32) × (floor < 2 ^ 32)
FitsTableLine (line.Needs dependency) = FitsDependency dependency
FitsTableLine (line.NeedsOne group) = FitsGroup group
FitsTableLine (line.Request version counter) = FitsFields version × (counter < 2 ^ 32)
FitsTableLine line.Damaged = Unit {0}

-- A table that has a text: it has one to eight images, with at most 16 dependencies and 4 groups an
-- entry and one to four alternatives a group. Its numbers fit their fields, as those of a table in
-- memory do.
pub record FitsTable (table : Table) : Type 0 where
  pub some : 1 ≤ length table.images.items
  pub most : length table.images.items ≤ MOST_IMAGES
  pub few : AllByRecursion IsSmall table.images.items
  pub fields : AllByRecursion FitsTableLine (table_lines 0 table.images.items)
