-- The step of a machine that withdraws a request.
use Rattle.std.specs.Prelude.{◌≡◌, ◌≢◌, ◌⊎◌, ℕ, ◌<◌, ◌==◌, Option, None, Result, Ok, Err, if◌then◌else◌}
use Rattle.flash_model.specs.declared.error.FlashError.TheVariants as flash
use Rattle.machine.specs.declared.upload_error.UploadError.{UploadError}
use Rattle.machine.specs.declared.upload_error.UploadError.TheVariants as no
use Rattle.machine.specs.Device.{DeviceState, Machine, Wanted, closed}

-- The state with another request for an image.
abbrev pub with_request : DeviceState → ℕ → Option Wanted → DeviceState
with_request s i wanted = record s { request = λ j. if j == i then wanted else s.request j }

-- A pending request is withdrawn, or none is pending, or no such image exists. If the flash stops
-- the call, all sessions end and nothing else changes, but a power cut may remove the request.
abbrev pub Withdraws : Machine → ℕ → Result Unit UploadError → Machine → Type 0
Withdraws m i (Ok done) next =
    (m.kept.request i ≢ None) × (next ≡ record m { kept = with_request m.kept i None })
Withdraws m i (Err no.NothingRequested) next =
    (i < m.kept.images → m.kept.request i ≡ None) × (next ≡ m)
Withdraws m i (Err (no.Flash flash.Cut)) next = (m.kept.request i ≢ None)
    × ((next ≡ closed m m.kept) ⊎ (next ≡ closed m (with_request m.kept i None)))
Withdraws m i (Err (no.Flash flash.Off)) next = next ≡ closed m m.kept
Withdraws m i other next = ⊥
