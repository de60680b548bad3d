-- What the key of a row says, read from its text.
use Rattle.std.specs.Prelude.{ℕ, ◌-◌, List, [], Option, Some, None, codes, length, option_and_then, unwrap_or, if◌then◌else◌}
use Rattle.std.specs.Option.{option_map_or}
use Rattle.std.specs.Str.{bytes_eq}
use Rattle.common.specs.Ascii.{cut}
use Rattle.common.specs.Limits.{MOST_IMAGES}
use Rattle.common.specs.Lines.{◌␣◌}
use Rattle.reports.specs.LineReading.{◌>>=◌, more_alternatives, report_line_of}
use Rattle.reports.specs.declared.report.Refusal.{Refusal}
use Rattle.reports.specs.declared.report_line.ReportLine.{ReportLine}
use Rattle.reports.specs.declared.report_line.ReportLine.TheVariants as line
use Rattle.version_order.specs.VersionText.{version_of}
use Rattle.version_order.specs.declared.dependency.Dependency.{Dependency}
use Rattle.inspecting.specs.declared.fleet.row_key.RowKey.{RowKey}
use Rattle.inspecting.specs.declared.fleet.row_key.RowKey.TheVariants as key

-- The images before, followed by those that are read from the fields after them, at most eight: for
-- each its number and its version.
abbrev pub taken_from : List Dependency → Option (List ℕ) → Option (List Dependency)
taken_from before fields = more_alternatives (MOST_IMAGES - length before) before fields

-- The images and versions of a set, from the fields after `take`.
abbrev pub taken_of : Option (List ℕ) → Option (List Dependency)
taken_of fields = taken_from [] fields

-- The key of a set, from the fields after `take`.
abbrev pub take_key_of : Option (List ℕ) → RowKey
take_key_of fields =
    option_map_or (λ images. key.Take (record { items = images })) (taken_of fields) key.Other

-- The refusal of a line of a report.
abbrev pub refusal_said : ReportLine → Option Refusal
refusal_said (line.Run number version) = None
refusal_said (line.Take number version) = None
refusal_said (line.Refuse refusal) = Some refusal

-- The refusal that is read from a line of a report.
unfoldable pub refusal_of : List ℕ → Option Refusal
refusal_of text = option_and_then refusal_said (report_line_of text)

-- A refused request for a version: a line of a report, with the version before the reason.
unfoldable pub versioned_of : List ℕ → Option RowKey
versioned_of text = do
  let words = cut 32 text
  fields ← words.1
  let image = cut 32 fields
  rest ← image.1
  let version = cut 32 rest
  reason ← version.1
  requested ← version_of version.0
  refusal ← refusal_of (words.0 ␣ image.0 ␣ reason)
  Some (key.Refuse (Some requested) refusal)

-- The key of a refused request, or another.
abbrev pub refuse_key_of : List ℕ → RowKey
refuse_key_of text =
    option_map_or (λ refusal. key.Refuse None refusal) (refusal_of text)
    (unwrap_or (versioned_of text) key.Other)

-- What the text of a key says.
unfoldable pub row_key_of : List ℕ → RowKey
row_key_of text =
    if bytes_eq text (codes "device") then key.Device
    else (if bytes_eq text (codes "bad") then key.Bad
    else (if bytes_eq text (codes "not-valid") then key.NotValid
    else (if bytes_eq (cut 32 text).0 (codes "take") then take_key_of (cut 32 text).1
    else refuse_key_of text)))
