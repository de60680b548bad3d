-- Reading a line from left to right in steps. Words end at spaces (32). The first word says which
-- line it is, and the last field is the complete rest of the line.
use Rattle.std.specs.Prelude.{ℕ, zero, suc, ◌-◌, ◌^◌, List, [], ◌∷◌, ◌++◌, length, Option, Some, None, codes, option_and_then, option_map, if◌then◌else◌}
use Rattle.std.specs.Str.{bytes_eq}
use Rattle.common.specs.Limits.{MOST_ALTERNATIVES}
use Rattle.version_order.specs.declared.version.Version.{Version}
use Rattle.version_order.specs.declared.dependency.Dependency.{Dependency}
use Rattle.version_order.specs.declared.group.Group.{Group}
use Rattle.common.specs.Ascii.{number_of, number_below, cut}
use Rattle.version_order.specs.VersionText.{version_of}
use Rattle.reports.specs.declared.report.Reason.{Reason}
use Rattle.reports.specs.declared.report.Reason.TheVariants.{Damaged, Older, Counter, NoSuchImage, Needs, NeedsOne}
use Rattle.reports.specs.declared.report_line.ReportLine.{ReportLine}
use Rattle.reports.specs.declared.report_line.ReportLine.TheVariants as report_line
use Rattle.reports.specs.declared.table_line.TableLine.{TableLine}
use Rattle.reports.specs.declared.table_line.TableLine.TheVariants as table_line

infixl 10 ◌>>=◌
abbrev pub ◌>>=◌ : {A B : Type 0} → Option A → (A → Option B) → Option B
o >>= f = option_and_then f o

-- The number of an image and a version.
unfoldable pub image_and_version_of : List ℕ → Option (ℕ × Version)
image_and_version_of fields = do
  let words = cut 32 fields
  image ← number_below (2 ^ 8) words.0
  rest ← words.1
  version ← version_of rest
  Some (image, version)

-- The fields after `image`: a number, a version, a counter and a floor.
unfoldable pub image_line_of : List ℕ → Option TableLine
image_line_of fields = do
  let words = cut 32 fields
  number ← number_below (2 ^ 8) words.0
  rest ← words.1
  let words = cut 32 rest
  version ← version_of words.0
  rest ← words.1
  let words = cut 32 rest
  counter ← number_of words.0
  rest ← words.1
  floor ← number_of rest
  Some (table_line.Image number version counter floor)

-- The fields after `needs`: the number of an image, and the lowest version that is enough.
unfoldable pub needs_line_of : List ℕ → Option TableLine
needs_line_of fields = do
  needed ← image_and_version_of fields
  Some (table_line.Needs (record { image = needed.0; minimum = needed.1 }))

-- The two words of an alternative: the number of an image, and the lowest version that is enough.
unfoldable pub alternative_of : List ℕ → List ℕ → Option Dependency
alternative_of image minimum = do
  image ← number_below (2 ^ 8) image
  minimum ← version_of minimum
  Some (record { image = image; minimum = minimum })

-- The alternatives `before`, followed by at most `room` that are read from the fields after them.
unfoldable pub more_alternatives : ℕ → List Dependency → Option (List ℕ) → Option (List Dependency)
more_alternatives room before None = Some before
more_alternatives zero before (Some fields) = None
more_alternatives (suc room) before (Some fields) = do
  let image = cut 32 fields
  rest ← image.1
  let minimum = cut 32 rest
  alternative ← alternative_of image.0 minimum.0
  more_alternatives room (before ++ alternative ∷ []) minimum.1

-- The group of the alternatives `before` and those that are read from the fields after them, at
-- most four.
abbrev pub group_from : List Dependency → Option (List ℕ) → Option Group
group_from before rest =
    option_map (λ alternatives. record { alternatives = record { items = alternatives } })
    (more_alternatives (MOST_ALTERNATIVES - length before) before rest)

-- The fields after `needs-one`: one to four alternatives.
abbrev pub group_of : List ℕ → Option Group
group_of fields = group_from [] (Some fields)

-- The fields after `request`: a version and a counter.
unfoldable pub request_line_of : List ℕ → Option TableLine
request_line_of fields = do
  let words = cut 32 fields
  version ← version_of words.0
  rest ← words.1
  counter ← number_of rest
  Some (table_line.Request version counter)

-- The line of a table that begins with this word, followed by these fields.
abbrev pub table_line_at : List ℕ → List ℕ → Option TableLine
table_line_at word fields =
    if bytes_eq word (codes "image") then image_line_of fields
    else (if bytes_eq word (codes "needs") then needs_line_of fields
    else (if bytes_eq word (codes "needs-one")
    then option_map (λ group. table_line.NeedsOne group) (group_of fields)
    else (if bytes_eq word (codes "request") then request_line_of fields else None)))

-- The line of a table that is read from a text.
unfoldable pub table_line_of : List ℕ → Option TableLine
table_line_of text =
    if bytes_eq text (codes "damaged") then Some table_line.Damaged else (do
      let words = cut 32 text
      fields ← words.1
      table_line_at words.0 fields)

-- The fields after `run` and after `take`: the number of an image, and its version.
unfoldable pub run_line_of : List ℕ → Option ReportLine
run_line_of fields = do
  runs ← image_and_version_of fields
  Some (report_line.Run runs.0 runs.1)

unfoldable pub take_line_of : List ℕ → Option ReportLine
take_line_of fields = do
  taken ← image_and_version_of fields
  Some (report_line.Take taken.0 taken.1)

-- The reason that begins with this word, followed by these fields.
abbrev pub reason_at : List ℕ → List ℕ → Option Reason
reason_at word fields =
    if bytes_eq word (codes "no-such-image")
    then option_and_then (λ image. Some (NoSuchImage image)) (number_below (2 ^ 8) fields)
    else (if bytes_eq word (codes "needs")
    then option_and_then (λ needed. Some (Needs needed.0 needed.1)) (image_and_version_of fields)
    else (if bytes_eq word (codes "needs-one")
    then option_map (λ group. NeedsOne group) (group_of fields) else None))

-- The reason that is read from a text.
unfoldable pub reason_of : List ℕ → Option Reason
reason_of text =
    if bytes_eq text (codes "damaged") then Some Damaged
    else (if bytes_eq text (codes "older") then Some Older
    else (if bytes_eq text (codes "counter") then Some Counter else (do
      let words = cut 32 text
      fields ← words.1
      reason_at words.0 fields)))

-- The fields after `refuse`: the number of an image, and the reason.
unfoldable pub refuse_line_of : List ℕ → Option ReportLine
refuse_line_of fields = do
  let words = cut 32 fields
  image ← number_below (2 ^ 8) words.0
  rest ← words.1
  reason ← reason_of rest
  Some (report_line.Refuse (record { image = image; reason = reason }))

-- The line of a report that begins with this word, followed by these fields.
abbrev pub report_line_at : List ℕ → List ℕ → Option ReportLine
report_line_at word fields =
    if bytes_eq word (codes "run") then run_line_of fields
    else (if bytes_eq word (codes "take") then take_line_of fields
    else (if bytes_eq word (codes "refuse") then refuse_line_of fields else None))

-- The line of a report that is read from a text.
unfoldable pub report_line_of : List ℕ → Option ReportLine
report_line_of text = do
  let words = cut 32 text
  fields ← words.1
  report_line_at words.0 fields
