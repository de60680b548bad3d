-- What a report says of each image if these requests are refused.
use Rattle.std.specs.Prelude.{ℕ, Bool, ◌&&◌, not, is_some, List, map}
use Rattle.std.specs.List.{enumerate_from}
use Rattle.reports.specs.declared.table.Image.{Image}
use Rattle.reports.specs.declared.table.Table.{Table}
use Rattle.reports.specs.declared.report.Refusal.{Refusal}
use Rattle.reports.specs.declared.report.ReportedImage.{ReportedImage}
use Rattle.reports.specs.Combination.{intact_entry, entry_in}
use Rattle.reports.specs.Reasons.{is_refused}

-- Whether the request of image j is taken: it is intact and isn't refused.
abbrev pub is_taken_unless_refused : List Refusal → ℕ → Image → Bool
is_taken_unless_refused refusals j image =
    is_some (intact_entry image.request) && not (is_refused refusals j)

-- What a report says of an image whose request is taken, or isn't, with the version that runs then.
abbrev pub reported_as : Image → Bool → ReportedImage
reported_as image is_taken =
    record { is_taken = is_taken; version = (entry_in image is_taken).version }

-- What a report says of image j.
abbrev pub reported_image : List Refusal → ℕ × Image → ReportedImage
reported_image refusals numbered =
    reported_as numbered.1 (is_taken_unless_refused refusals numbered.0 numbered.1)

-- What a report says of each image, in the order of their numbers.
abbrev pub reported_images : Table → List Refusal → List ReportedImage
reported_images table refusals =
    map (reported_image refusals) (enumerate_from 0 table.images.items)
