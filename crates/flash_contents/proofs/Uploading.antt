-- Calls of uploads are steps of the machine: manifests, pieces, finished uploads and withdrawals.
use Rattle.std.proofs.Common.{◌≡◌, ℕ, Bool, true, false, List, Option, Some, Result, Ok, Err, refl, sym}
use Rattle.std.proofs.Common.{◌∙◌, subst, ⊎_elim, inl, true≢false}
use Rattle.std.specs.Borrow.{Bor}
use Rattle.machine.specs.declared.event.Event.TheVariants as event
use Rattle.flash_model.specs.Chip.{Chip}
use Rattle.sector_map.specs.declared.layout.SectorMap.{SectorMap}
use Rattle.sector_map.specs.declared.layout.Side.TheVariants.{Primary}
use Rattle.sector_map.specs.Part.{TrailerOf, only}
use Rattle.sector_map.specs.Map.{Keeps}
use Rattle.set_log.specs.declared.state.State.{State}
use Rattle.set_log.specs.declared.state.RecordKind.TheVariants as log
use Rattle.manifest.specs.declared.error.ManifestError.{ManifestError}
use Rattle.manifest.specs.declared.manifest.Manifest as given
use Rattle.manifest.specs.Fault.{IsManifest, IsRefusal}
use Rattle.upload.specs.View.{view}
use Rattle.machine.specs.Device.{DeviceState, Machine, Trial}
use Rattle.upload.specs.Steady.{IsSteadyAt}
use Rattle.upload.specs.Sessions.{AllOpenAt, IsUpAt}
use Rattle.machine.specs.Intake.{is_flash, IsReady, Row, Setup, TakesManifest, TakesText, Uploads}
use Rattle.machine.specs.Accepted.{Accepts}
use Rattle.upload.specs.declared.sessions.Upload.{Upload}
use Rattle.machine.specs.declared.upload_error.UploadError.{UploadError}
use Rattle.machine.specs.declared.upload_error.UploadError.TheVariants as upload
use Rattle.upload.proofs.OpenOnes.{open_of_sessions, sessions_of_open}
use Rattle.machine.specs.Steps.{Completes, DeviceEvent, IsStep}
use Rattle.flash_contents.specs.Holding.{DeviceView, Holds, IsAtRest, IsTrialAt, Rests}
use Rattle.flash_contents.specs.Passing.{StepsTo, needs_rest, upload_reply}
use Rattle.machine.specs.declared.error.Fault.TheVariants as no
use Rattle.machine.specs.declared.reply.Reply.{Reply}
use Rattle.machine.specs.declared.reply.Reply.TheVariants.{Refused}
use Rattle.flash_contents.proofs.Confirming.{steady_kind, trial_kind}
use Rattle.machine.proofs.Runs.{complete_step}
use Rattle.flash_contents.proofs.Stepping.{sessions_kept}

-- ---- whether a set is on trial, by the record of the log

pub rest_steady : (map : SectorMap) (w : Chip) (s : DeviceState) (state : State) → (view map w).log ≡ Some state
    → (state.kind ≡ log.Trial → ⊥) → IsAtRest (view map w) s → IsSteadyAt (view map w) s
rest_steady map w s state read other rest = ⊎_elim
    (λ (was : IsSteadyAt (view map w) s). was)
    (λ (tried : (trial : Trial) × IsTrialAt (view map w) s trial).
    absurd (other (trial_kind map w s tried.0 state read tried.1)))
    rest

pub rest_tries : (map : SectorMap) (w : Chip) (s : DeviceState) (state : State) → (view map w).log ≡ Some state
    → state.kind ≡ log.Trial → IsAtRest (view map w) s → (trial : Trial) × (s.trial ≡ Some trial)
rest_tries map w s state read kind rest = ⊎_elim
    (λ (was : IsSteadyAt (view map w) s). absurd (never (sym (steady_kind map w s state read was) ∙ kind)))
    (λ (tried : (trial : Trial) × IsTrialAt (view map w) s trial). (tried.0, tried.1.opened.trial))
    rest where
      never : log.Steady ≡ log.Trial → ⊥
      never e = cc

-- ---- refusals of the device

pub steps_on_trial : (setup : Setup) (w : DeviceView) (state : State) (happened : DeviceEvent) → w.up ≡ true
    → (view setup.map w.flash).log ≡ Some state → state.kind ≡ log.Trial → needs_rest happened ≡ true
    → StepsTo setup w w happened (Refused no.OnTrial)
steps_on_trial setup w state happened is_booted read kind needs m holds =
    let up = holds.is_booted ∙ is_booted in
    let trying = rest_tries setup.map w.flash m.kept state read kind (holds.rest up) in
    (m, step happened needs up trying, holds)
  where
    step : (e : DeviceEvent) → needs_rest e ≡ true → m.is_booted ≡ true
        → (trial : Trial) × (m.kept.trial ≡ Some trial) → IsStep setup m e (Refused no.OnTrial) m
    step (event.Accept bytes) yet up trying = (up, trying, refl)
    step (event.Piece i bytes) yet up trying = (up, trying, refl)
    step (event.Finish i) yet up trying = (up, trying, refl)
    step (event.Withdraw i) yet up trying = (up, trying, refl)
    step (event.Confirm i) yet up trying = absurd (true≢false (sym yet))
    step event.Boot yet up trying = absurd (true≢false (sym yet))
    step event.Reset yet up trying = absurd (true≢false (sym yet))

-- ---- a call of uploads

-- A call of uploads takes each device that is booted and at rest to one that its row allows.
abbrev pub TakesRow : SectorMap → Chip → Chip → List (Option Upload) → List (Option Upload)
    → (Machine → Row) → Result Unit UploadError → Type 0
TakesRow map old new told tnew row result = (m : Machine) → IsUpAt (view map old) told m
    → (next : Machine) × row m result next × IsUpAt (view map new) tnew next

-- A device that is booted and takes uploads.
up_at : (setup : Setup) (old : Chip) (told : List (Option Upload)) (up : Bool) (m : Machine) (state : State)
    → up ≡ true → (view setup.map old).log ≡ Some state → (state.kind ≡ log.Trial → ⊥)
    → Holds setup.map (record { flash = old; sessions = told; up = up }) m → IsUpAt (view setup.map old) told m
up_at setup old told up m state is_booted read other holds =
    let here = holds.is_booted ∙ is_booted in
    record {
      up = here;
      rest = rest_steady setup.map old m.kept state read other (holds.rest here);
      open_ones = holds.open_ones;
    }

ready : (setup : Setup) (old : Chip) (told : List (Option Upload)) (m : Machine)
    → IsUpAt (view setup.map old) told m → IsReady m
ready setup old told m at = record { up = at.up; rest = at.rest.trial }

holds_up : (setup : Setup) (new : Chip) (tnew : List (Option Upload)) (up : Bool) (next : Machine) → up ≡ true
    → IsUpAt (view setup.map new) tnew next
    → Holds setup.map (record { flash = new; sessions = tnew; up = up }) next
holds_up setup new tnew up next is_booted at = record {
  stands = Rests at.rest;
  is_booted = at.up ∙ sym is_booted;
  rest = λ e. inl at.rest;
  open_ones = at.open_ones;
  closed = λ e. absurd (true≢false (sym at.up ∙ e));
}

-- A result of a row is a complete step of uploads.
uploads_complete : (row : Row) (m next : Machine) (result : Result Unit UploadError) → is_flash result ≡ false
    → IsReady m → row result next → Uploads row m (upload_reply result) next
uploads_complete row m next (Ok tt) none is_ready at = (is_ready, at)
uploads_complete row m next (Err (upload.Flash error)) none is_ready at = absurd (true≢false none)
uploads_complete row m next (Err other) none is_ready at = (is_ready, refl, at)

-- A result of a manifest's row is a complete step.
text_complete : (setup : Setup) (m next : Machine) (bytes : List ℕ) (result : Result Unit UploadError)
    → is_flash result ≡ false → Uploads (TakesManifest setup m bytes) m (upload_reply result) next
    → TakesText setup m bytes (upload_reply result) next
text_complete setup m next bytes (Ok done) none at = at
text_complete setup m next bytes (Err (upload.Flash error)) none at = absurd (true≢false none)
text_complete setup m next bytes (Err other) none at = at

module _ (setup : Setup) (old : Chip) (told : List (Option Upload)) (up : Bool) (state : State) (is_booted : up ≡ true)
    (read : (view setup.map old).log ≡ Some state) (rests : state.kind ≡ log.Trial → ⊥) where
  row_done : (new : Chip) (tnew : List (Option Upload)) (row : Machine → Row) (result : Result Unit UploadError)
      → is_flash result ≡ false → TakesRow setup.map old new told tnew row result
      → (m : Machine) → Holds setup.map (record { flash = old; sessions = told; up = up }) m
      → (next : Machine) × Uploads (row m) m (upload_reply result) next
      × Holds setup.map (record { flash = new; sessions = tnew; up = up }) next
  row_done new tnew row result none takes m holds =
      let at = up_at setup old told up m state is_booted read rests holds in
      let after = takes m at in (
        after.0,
        uploads_complete (row m) m after.0 result none (ready setup old told m at) after.1,
        holds_up setup new tnew up after.0 is_booted after.2,
      )

  -- A call that follows a row is the step of its event, if the row makes that event complete.
  pub row_steps : (new : Chip) (tnew : List (Option Upload)) (row : Machine → Row) (happened : DeviceEvent)
      (result : Result Unit UploadError) (reply : Reply) → reply ≡ upload_reply result → is_flash result ≡ false
      → ((m next : Machine) → Uploads (row m) m (upload_reply result) next
      → Completes setup m happened (upload_reply result) next)
      → TakesRow setup.map old new told tnew row result
      → StepsTo setup (record { flash = old; sessions = told; up = up })
      (record { flash = new; sessions = tnew; up = up }) happened reply
  row_steps new tnew row happened result reply is none completes takes m holds =
      let after = row_done new tnew row result none takes m holds in (
        after.0,
        subst (λ r. IsStep setup m happened r after.0) (sym is)
            (complete_step setup m after.0 happened (upload_reply result) (completes m after.0 after.1)).0,
        after.2,
      )

  -- A manifest that was read.
  manifest_row : (new : Chip) (tnew : List (Option Upload)) (bytes : List ℕ) (manifest : given.Manifest)
      (result : Result Unit UploadError) → IsManifest setup.identity bytes manifest
      → TakesRow setup.map old new told tnew
      (λ m. Accepts setup.map m manifest.sequence manifest.components.items) result
      → TakesRow setup.map old new told tnew (λ m. TakesManifest setup m bytes) result
  manifest_row new tnew bytes manifest result means takes m at =
      let after = takes m at in (after.0, (manifest, means, after.1), after.2)

  pub steps_accept : (new : Chip) (tnew : List (Option Upload)) (bytes : Bor (List ℕ)) (manifest : given.Manifest)
      (result : Result Unit UploadError) (reply : Reply) → reply ≡ upload_reply result → is_flash result ≡ false
      → IsManifest setup.identity bytes.now manifest
      → TakesRow setup.map old new told tnew
      (λ m. Accepts setup.map m manifest.sequence manifest.components.items) result
      → StepsTo setup (record { flash = old; sessions = told; up = up })
      (record { flash = new; sessions = tnew; up = up }) (event.Accept bytes) reply
  steps_accept new tnew bytes manifest result reply is none means takes =
      row_steps new tnew (λ m. TakesManifest setup m bytes.now) (event.Accept bytes) result reply is none
      (λ m next done. text_complete setup m next bytes.now result none done)
      (manifest_row new tnew bytes.now manifest result means takes)

  -- Bytes that aren't a manifest for the device.
  pub steps_bad_manifest : (bytes : Bor (List ℕ)) (fault : ManifestError)
      → IsRefusal setup.identity bytes.now fault
      → StepsTo setup (record { flash = old; sessions = told; up = up })
      (record { flash = old; sessions = told; up = up }) (event.Accept bytes) (Refused (no.Manifest fault))
  steps_bad_manifest bytes fault refused m holds =
      let at = up_at setup old told up m state is_booted read rests holds in
      (m, (ready setup old told m at, refused, refl), holds)

  pub steps_no_memory : (bytes : Bor (List ℕ))
      → StepsTo setup (record { flash = old; sessions = told; up = up })
      (record { flash = old; sessions = told; up = up }) (event.Accept bytes) (Refused no.NoMemory)
  steps_no_memory bytes m holds =
      let at = up_at setup old told up m state is_booted read rests holds in
      (m, (ready setup old told m at, refl), holds)

-- ---- how a device uses them

-- An error that isn't of the flash is refused as such.
pub upload_refused : (error : UploadError) → is_flash {T = Unit} (Err error) ≡ false
    → Refused (no.Upload error) ≡ upload_reply (Err error)
upload_refused (upload.Flash error) none = absurd (true≢false none)
upload_refused other none = refl

-- Open uploads still match the flash after an image is confirmed.
pub open_confirmed : (map : SectorMap) (old new : Chip) (j : ℕ) (told : List (Option Upload))
    → Keeps map (only (TrailerOf j Primary)) old new → AllOpenAt (view map old) told → AllOpenAt (view map new) told
open_confirmed map old new j told keeps opens =
    let had = sessions_of_open (view map old) told opens in
    open_of_sessions (view map new) told had.0 (sessions_kept map old new j told had.0 keeps had.1)
