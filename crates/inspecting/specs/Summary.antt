-- Summaries of a plan: what devices do, how many do it, and which of them is the first.
use Rattle.std.specs.Prelude.{ℕ, ◌+◌, List, ◌∷◌, ◌++◌, [], codes, decimal, map, slice_get, Option, Some, None, option_and_then, if◌then◌else◌}
use Rattle.std.specs.List.{flat_map}
use Rattle.reports.specs.declared.report.Reason.{Reason}
use Rattle.reports.specs.declared.report.Refusal.{Refusal}
use Rattle.reports.specs.declared.report.ReportedImage.{ReportedImage}
use Rattle.reports.specs.declared.table.Request.{Request}
use Rattle.reports.specs.declared.table.Request.TheVariants as request
use Rattle.reports.specs.declared.table.Table.{Table}
use Rattle.reports.specs.ReportText.{reason_text}
use Rattle.common.specs.Lines.{◌␣◌}
use Rattle.version_order.specs.declared.version.Version.{Version}
use Rattle.version_order.specs.VersionText.{version_text}
use Rattle.inspecting.specs.Plan.{Planned}
use Rattle.inspecting.specs.Requested.{version_at}
use Rattle.inspecting.specs.Row.{IsSumOf, Row}
use Rattle.inspecting.specs.declared.fleet.outcome.Decision.{Decision}
use Rattle.inspecting.specs.declared.fleet.outcome.Outcome.{Outcome}
use Rattle.inspecting.specs.declared.fleet.outcome.Outcome.TheVariants.{Decided, NotValid, BadLine, TooLong}

-- An image of a set in the order of images: a space, its number, a space and its version. Nothing
-- for an image that isn't taken.
abbrev pub taken_image : ℕ → ReportedImage → List ℕ
taken_image n image = if image.is_taken then 32 ∷ (decimal n ␣ version_text image.version) else []

-- The images that are taken, numbered from n.
abbrev pub taken_images : ℕ → List ReportedImage → List ℕ
taken_images n [] = []
taken_images n (image ∷ images) = taken_image n image ++ taken_images (n + 1) images

-- The key of the set that a device takes: `take`, and the images.
abbrev pub take_key : List ReportedImage → List ℕ
take_key images = codes "take" ++ taken_images 0 images

-- The key of a refused request: `refuse`, the image, the requested version if the request is
-- intact, and the reason.
abbrev pub refuse_key : ℕ → Option Version → Reason → List ℕ
refuse_key j None reason = codes "refuse" ␣ decimal j ␣ reason_text reason
refuse_key j (Some version) reason =
    codes "refuse" ␣ decimal j ␣ version_text version ␣ reason_text reason

-- The key of a refusal, with these requested versions.
abbrev pub refusal_key : List (Option Version) → Refusal → List ℕ
refusal_key requested refusal =
    refuse_key refusal.image (version_at requested refusal.image) refusal.reason

-- The keys of a decision: the set that the device takes, and each refused request.
abbrev pub decision_keys : Decision → List (List ℕ)
decision_keys decision =
    take_key decision.report.images.items
    ∷ map (refusal_key decision.requested) decision.report.refusals.items

-- The keys of a result.
abbrev pub outcome_keys : Outcome → List (List ℕ)
outcome_keys (Decided decision) = decision_keys decision
outcome_keys NotValid = codes "not-valid" ∷ []
outcome_keys (BadLine n) = codes "bad" ∷ []
outcome_keys TooLong = codes "bad" ∷ []

-- The keys of a device with its result. Each device has the first one.
abbrev pub keys_of : Planned → List (List ℕ)
keys_of planned = codes "device" ∷ outcome_keys planned.outcome

-- A key that a device has once.
abbrev pub once : List ℕ → List ℕ → Row
once name key = record { count = 1; first = name; key = key }

-- The keys of a device, each once.
abbrev pub rows_of : Planned → List Row
rows_of planned = map (once planned.device.name) (keys_of planned)

-- The summary of a plan: the sum of the keys of its devices, in the order of the fleet.
abbrev pub IsSummary : List Planned → List Row → Type 0
IsSummary plan rows = IsSumOf (flat_map rows_of plan) rows

-- The sum of summaries, in their order.
abbrev pub IsSum : List (List Row) → List Row → Type 0
IsSum parts rows = IsSumOf (flat_map (λ part. part) parts) rows
