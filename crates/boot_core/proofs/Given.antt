-- Lemmas for manifests that were parsed before: which state is held afterwards, and which refusals
-- can't come.
use Rattle.std.proofs.Common.{◌≡◌, Bool, true, false, List, Option, Some, None, Result, Err, IsErrOf, refl, sym, ◌∙◌, ap, subst, inl, ⊎_elim}
use Rattle.std.proofs.Common.{true≢false}
use Rattle.flash_model.specs.Chip.{Chip}
use Rattle.flash_model.specs.declared.error.FlashError.TheVariants as flash
use Rattle.sector_map.specs.declared.layout.SectorMap.{SectorMap}
use Rattle.set_log.specs.declared.state.State.{State}
use Rattle.set_log.specs.declared.state.RecordKind.{RecordKind}
use Rattle.set_log.specs.declared.state.RecordKind.TheVariants as log
use Rattle.manifest.specs.declared.identity.Identity.{Identity}
use Rattle.manifest.specs.declared.manifest.Manifest as given
use Rattle.upload.specs.View.{view}
use Rattle.machine.specs.Device.{Machine}
use Rattle.upload.specs.Ending.{EndsUpload}
use Rattle.machine.specs.Intake.{is_flash, Row}
use Rattle.upload.specs.Sessions.{AllClosed, IsUpAt}
use Rattle.upload.specs.declared.sessions.Upload.{Upload}
use Rattle.machine.specs.declared.upload_error.UploadError.{UploadError}
use Rattle.machine.specs.declared.upload_error.UploadError.TheVariants as upload
use Rattle.flash_contents.specs.Holding.{DeviceView, Holds, Rests}
use Rattle.machine.specs.States.{asleep}
use Rattle.machine.specs.declared.error.Fault.{Fault}
use Rattle.machine.specs.declared.error.Fault.TheVariants as no
use Rattle.flash_contents.proofs.Uploading.{TakesRow, rest_steady}
use Rattle.boot_core.specs.Answers.{is_stop}
use Rattle.boot_core.specs.Device.{StaysHeld, seen}
use Rattle.boot_core.specs.Ready.{IsReadiness, LogsRest, RefusesManifest, kind_refusal, log_refusal}
use Rattle.boot_core.proofs.Stopping.{IsStopped, error_is, holds_down, not_tried}

-- ---- what is held

module _ (map : SectorMap) (old new : Chip) (told tmid : List (Option Upload)) (up : Bool) (is_booted : up ≡ true)
    (rests : LogsRest (view map old).log) (row : Machine → Row) (result : Result Unit UploadError)
    (takes : TakesRow map old new told tmid row result) where
  taken : (m : Machine) → Holds map (seen old told up) m → (next : Machine) × IsUpAt (view map new) tmid next
  taken m holds =
      let here = holds.is_booted ∙ is_booted in
      let after = takes m (record {
        up = here;
        rest = rest_steady map old m.kept rests.0 rests.1 (not_tried rests.0.kind rests.2) (holds.rest here);
        open_ones = holds.open_ones;
      }) in (after.0, after.2)

  pub held_up : StaysHeld map (seen old told up) (seen new tmid up)
  held_up m holds =
      let after = taken m holds in (
        after.0,
        record {
          stands = Rests after.1.rest;
          is_booted = after.1.up ∙ sym is_booted;
          rest = λ e. inl after.1.rest;
          open_ones = after.1.open_ones;
          closed = λ e. absurd (true≢false (sym after.1.up ∙ e));
        },
      )

  pub held_down : (tnew : List (Option Upload)) → AllClosed tnew
      → StaysHeld map (seen old told up) (seen new tnew false)
  held_down tnew none m holds =
      let after = taken m holds in
      (asleep after.0.kept, holds_down map new tnew after.0.kept none (Rests after.1.rest))

-- After a refused upload.
pub held_failed : (map : SectorMap) (was : DeviceView) (old new : Chip) (tmid tnew : List (Option Upload))
    (up upn : Bool) (error : UploadError) → old.is_on ≡ true → EndsUpload {T = Unit} (Err error) old new
    → IsStopped (no.Upload error) tmid tnew up upn
    → (AllClosed tnew → StaysHeld map was (seen new tnew false)) → StaysHeld map was (seen new tmid up)
    → StaysHeld map was (seen new tnew upn)
held_failed map was old new tmid tnew up upn error on ends stopped down kept =
    error_is error
    (λ (cut : error ≡ upload.Flash flash.Cut).
    let told_so : is_stop (no.Upload error) ≡ true = ap (λ e. is_stop (no.Upload e)) cut in
    subst (λ b. StaysHeld map was (seen new tnew b)) (sym (stopped.down told_so)) (down (stopped.closed told_so)))
    (λ (off : error ≡ upload.Flash flash.Off).
    absurd (true≢false (sym on ∙ ends.off (subst (λ e. IsErrOf {T = Unit} (Err e) (upload.Flash flash.Off))
    (sym off) refl))))
    (λ (own : is_flash {T = Unit} (Err error) ≡ false).
    subst (λ b. StaysHeld map was (seen new tnew b)) (sym (stopped.stays own))
    (subst (λ l. StaysHeld map was (seen new l up)) (sym (stopped.kept own)) kept))

-- ---- what is refused

-- A refusal of a device that takes no uploads isn't one of a manifest.
pub not_ready_told : (identity : Identity) (manifest : given.Manifest) (up : Bool) (recorded : Option State) (on : Bool)
    (fault : Fault) → IsReadiness (Err fault) up recorded on → RefusesManifest identity manifest fault
not_ready_told identity manifest up recorded on no.NotBooted is = tt
not_ready_told identity manifest up recorded on no.OnTrial is = tt
not_ready_told identity manifest up recorded on no.NotOnTrial is = tt
not_ready_told identity manifest up recorded on no.NotProvisioned is = tt
not_ready_told identity manifest up recorded on (no.RunningDamaged image) is = tt
not_ready_told identity manifest up recorded on no.InvalidSet is = tt
not_ready_told identity manifest up recorded on (no.Flash error) is = tt
not_ready_told identity manifest up recorded on no.NoMemory is = absurd is
not_ready_told identity manifest up recorded on (no.Manifest error) is = absurd is
not_ready_told identity manifest up recorded on (no.Upload error) is = tt

-- A device that takes uploads isn't refused for its state.
pub ready_not : (up : Bool) (recorded : Option State) (on : Bool) (fault : Fault)
    → IsReadiness (Err fault) up recorded on → on ≡ true → up ≡ true → LogsRest recorded → ⊥
ready_not up recorded on no.NotBooted is powered here rests = ⊎_elim (λ down. true≢false (sym here ∙ down))
    (λ boots.
    let one : recorded ≡ Some boots.1.0 = boots.1.1 in
    let other : recorded ≡ Some rests.0 = rests.1 in
    let kind : rests.0.kind ≡ log.Steady = rests.2 in
    boots.1.2 (cc)) is
ready_not up recorded on no.OnTrial is powered here rests =
    let one : recorded ≡ Some is.1.0 = is.1.1 in
    let other : recorded ≡ Some rests.0 = rests.1 in
    let kind : is.1.0.kind ≡ log.Trial = is.1.2 in
    not_tried rests.0.kind rests.2 (cc)
ready_not up recorded on no.NotProvisioned is powered here rests =
    let one : recorded ≡ None = is.1 in
    let other : recorded ≡ Some rests.0 = rests.1 in
    cc
ready_not up recorded on (no.Flash flash.Off) is powered here rests = true≢false (sym powered ∙ is.1)
ready_not up recorded on (no.Flash flash.Cut) is powered here rests = is
ready_not up recorded on no.NotOnTrial is powered here rests = is
ready_not up recorded on (no.RunningDamaged image) is powered here rests = is
ready_not up recorded on no.InvalidSet is powered here rests = is
ready_not up recorded on no.NoMemory is powered here rests = is
ready_not up recorded on (no.Manifest error) is powered here rests = is
ready_not up recorded on (no.Upload error) is powered here rests = is

-- A log at rest refuses nothing.
pub rest_refuses : (recorded : Option State) (fault : Fault) → LogsRest recorded → log_refusal recorded ≡ Some fault
    → ⊥
rest_refuses recorded fault rests refuses =
    let is : recorded ≡ Some rests.0 = rests.1 in
    let kind : rests.0.kind ≡ log.Steady = rests.2 in
    let none : log_refusal recorded ≡ None = ap log_refusal is ∙ ap kind_refusal kind in
    let both : None ≡ Some fault = sym none ∙ refuses in
    cc

interrupted_kind : (kind : RecordKind) → (kind ≡ log.Steady → ⊥) → (kind ≡ log.Trial → ⊥)
    → kind_refusal kind ≡ Some no.NotBooted
interrupted_kind log.Steady steady trial = absurd (steady refl)
interrupted_kind log.Trial steady trial = absurd (trial refl)
interrupted_kind log.Swap steady trial = refl
interrupted_kind log.Settle steady trial = refl
interrupted_kind log.Back steady trial = refl
interrupted_kind log.BackSettle steady trial = refl

some_is : (one other : Fault) → Some one ≡ Some other → one ≡ other
some_is one other same = cc

some_own : (one other : Fault) → Some one ≡ Some other → is_stop one ≡ false → is_stop other ≡ false
some_own one other same own = sym (ap is_stop (some_is one other same)) ∙ own

kind_own : (kind : RecordKind) (fault : Fault) → kind_refusal kind ≡ Some fault → is_stop fault ≡ false
kind_own log.Steady fault refuses = let none : None ≡ Some fault = refuses in absurd (cc)
kind_own log.Trial fault refuses = some_own no.OnTrial fault refuses refl
kind_own log.Swap fault refuses = some_own no.NotBooted fault refuses refl
kind_own log.Settle fault refuses = some_own no.NotBooted fault refuses refl
kind_own log.Back fault refuses = some_own no.NotBooted fault refuses refl
kind_own log.BackSettle fault refuses = some_own no.NotBooted fault refuses refl

-- What the log refuses isn't the flash's.
pub log_own : (recorded : Option State) (fault : Fault) → log_refusal recorded ≡ Some fault → is_stop fault ≡ false
log_own None fault refuses = some_own no.NotProvisioned fault refuses refl
log_own (Some state) fault refuses = kind_own state.kind fault refuses

same_refusal : (recorded : Option State) (one other : Fault) → log_refusal recorded ≡ Some one
    → log_refusal recorded ≡ Some other → one ≡ other
same_refusal recorded one other first second =
    let both : Some one ≡ Some other = sym first ∙ second in
    cc

-- A booted device with power that takes no uploads says what its log refuses.
pub ready_says : (up : Bool) (recorded : Option State) (on : Bool) (fault why : Fault)
    → IsReadiness (Err fault) up recorded on → up ≡ true → on ≡ true → log_refusal recorded ≡ Some why → fault ≡ why
ready_says up recorded on no.NotBooted why is here powered refuses =
    ⊎_elim (λ down. absurd (true≢false (sym here ∙ down)))
    (λ boots. same_refusal recorded no.NotBooted why
    (ap log_refusal boots.1.1 ∙ interrupted_kind boots.1.0.kind boots.1.2 boots.1.3) refuses) is
ready_says up recorded on no.OnTrial why is here powered refuses =
    same_refusal recorded no.OnTrial why (ap log_refusal is.1.1 ∙ ap kind_refusal is.1.2) refuses
ready_says up recorded on no.NotProvisioned why is here powered refuses =
    same_refusal recorded no.NotProvisioned why (ap log_refusal is.1) refuses
ready_says up recorded on (no.Flash flash.Off) why is here powered refuses = absurd (true≢false (sym powered ∙ is.1))
ready_says up recorded on (no.Flash flash.Cut) why is here powered refuses = absurd is
ready_says up recorded on no.NotOnTrial why is here powered refuses = absurd is
ready_says up recorded on (no.RunningDamaged image) why is here powered refuses = absurd is
ready_says up recorded on no.InvalidSet why is here powered refuses = absurd is
ready_says up recorded on no.NoMemory why is here powered refuses = absurd is
ready_says up recorded on (no.Manifest error) why is here powered refuses = absurd is
ready_says up recorded on (no.Upload error) why is here powered refuses = absurd is
