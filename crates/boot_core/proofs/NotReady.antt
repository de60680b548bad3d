-- Lemmas for calls of uploads on a device: what each leaves if the device takes no uploads, and if
-- it does.
use Rattle.std.proofs.Common.{◌≡◌, Bool, true, false, List, Option, Result, Ok, Err, arith, refl, sym, ◌∙◌, ap, subst}
use Rattle.std.proofs.Common.{true≢false}
use Rattle.std.specs.Prelude.{IsErrAnd}
use Rattle.flash_model.specs.Chip.{Chip}
use Rattle.flash_model.specs.declared.error.FlashError.TheVariants as flash
use Rattle.sector_map.specs.declared.layout.SectorMap.{SectorMap}
use Rattle.sector_map.specs.Map.{IsLaidOut, Keeps}
use Rattle.sector_map.specs.Part.{Part}
use Rattle.sector_map.proofs.Parts.{keeps_refl}
use Rattle.set_log.specs.declared.state.State.{State}
use Rattle.set_log.specs.Log.{state_of}
use Rattle.upload.specs.View.{view}
use Rattle.upload.specs.Sessions.{AllOpenAt}
use Rattle.machine.specs.Intake.{is_flash}
use Rattle.upload.specs.declared.sessions.Upload.{Upload}
use Rattle.machine.specs.declared.upload_error.UploadError.{UploadError}
use Rattle.flash_contents.specs.Holding.{DeviceView}
use Rattle.flash_contents.specs.Passing.{needs_rest, needs_up}
use Rattle.machine.specs.Steps.{DeviceEvent}
use Rattle.machine.specs.declared.error.Fault.{Fault}
use Rattle.machine.specs.declared.error.Fault.TheVariants as no
use Rattle.boot_core.specs.Answers.{IsNotBooted, is_stop, may_close}
use Rattle.boot_core.proofs.Given.{log_own, ready_says}
use Rattle.boot_core.proofs.Keeping.{all_stays, keeps_unstopped, up_stays}
use Rattle.boot_core.specs.Device.{made, seen}
use Rattle.boot_core.specs.Ready.{IsReadiness}
use Rattle.boot_core.specs.Taking.{AsksReady, ChecksReady, Stops, TakesHere}
use Rattle.boot_core.proofs.Stopping.{IsStopped, not_ready, not_ready_ends, opens_stopped}

-- A device that isn't booted answers that.
not_up : (fault : Fault) (up : Bool) (recorded : Option State) (on : Bool) → IsReadiness (Err fault) up recorded on
    → up ≡ false → fault ≡ no.NotBooted
not_up no.NotBooted up recorded on is down = refl
not_up no.OnTrial up recorded on is down = absurd (true≢false (sym is.0 ∙ down))
not_up no.NotProvisioned up recorded on is down = absurd (true≢false (sym is.0 ∙ down))
not_up (no.Flash flash.Off) up recorded on is down = absurd (true≢false (sym is.0 ∙ down))
not_up (no.Flash flash.Cut) up recorded on is down = absurd is
not_up no.NotOnTrial up recorded on is down = absurd is
not_up (no.RunningDamaged image) up recorded on is down = absurd is
not_up no.InvalidSet up recorded on is down = absurd is
not_up no.NoMemory up recorded on is down = absurd is
not_up (no.Manifest error) up recorded on is down = absurd is
not_up (no.Upload error) up recorded on is down = absurd is

-- What a refusal that is passed on leaves.
pub stops : (fault given : Fault) (told tnew : List (Option Upload)) (up upn : Bool)
    → Stops fault told up tnew upn given → IsStopped fault told tnew up upn
stops fault given told tnew up upn a = record { down = a.down; closed = a.closed; stays = a.up; kept = a.kept }

module _ (map : SectorMap) (old mid : Chip) (told tnew : List (Option Upload)) (up upn : Bool) (fault given : Fault)
    (asked : ChecksReady map up old mid (Err fault)) (after : Stops fault told up tnew upn given) where
  seen_same : up ≡ false → seen mid tnew upn ≡ seen old told up
  seen_same down =
      let is : fault ≡ no.NotBooted = not_up fault up _ _ asked.ready down in
      let flash : mid ≡ old = asked.same in
      let table : tnew ≡ told = (subst (λ f. Stops f told up tnew upn given) is after).kept refl in
      let awake : upn ≡ up = (subst (λ f. Stops f told up tnew upn given) is after).up refl in
      cc

  -- Unless the flash is off, nothing changes.
  pub declined_all : is_stop given ≡ false → seen mid tnew upn ≡ seen old told up
  declined_all own = all_stays old mid mid told told tnew up upn fault given after.is
      (stops fault given told tnew up upn after) asked.same refl own

  -- A call is declined because the device takes no uploads.
  pub declines : (touched : Part → Bool) (happened : DeviceEvent) → needs_up happened ≡ true
      → needs_rest happened ≡ true
      → IsLaidOut map old → TakesHere map happened touched (seen old told up) (seen mid tnew upn) (Err given)
  declines touched happened needs rests laid = record {
    call = record {
      here = record {
        laid = subst (λ chip. IsLaidOut map chip) (sym asked.same) laid;
        opens = λ opens. opens_stopped (view map mid) fault told tnew up upn (stops fault given told tnew up upn after)
            (subst (λ chip. AllOpenAt (view map chip) told) (sym asked.same) opens);
        steps = λ identity boots on. not_ready (made map identity boots) old mid told tnew up upn happened needs rests
            asked.same given fault after.is asked.ready on (stops fault given told tnew up upn after);
        outside = subst (λ chip. Keeps map touched old chip) (sym asked.same) (keeps_refl map touched old);
        down = λ down. record {
          is = ap (λ f. Err f) (after.is ∙ not_up fault up _ _ asked.ready down);
          same = seen_same down;
        };
        off = λ here off. record {
          is = ap (λ f. Err f) after.is ∙ asked.off here off;
          same = asked.same;
        };
        journal = omega (arith, ap (λ (chip : Chip). chip.journaled) asked.same);
        ends = not_ready_ends (state_of map old) old mid told tnew up upn asked.same given fault after.is asked.ready
            (stops fault given told tnew up upn after);
      };
      unready = λ here powered why refuses.
          let says : given ≡ why = after.is ∙ ready_says up _ _ fault why asked.ready here powered refuses in
          (ap (λ f. Err f) says, declined_all (ap is_stop says ∙ log_own _ why refuses));
      up = up_stays old mid mid told told tnew up upn fault given after.is (stops fault given told tnew up upn after);
      kept = λ keeps. all_stays old mid mid told told tnew up upn fault given after.is
          (stops fault given told tnew up upn after) asked.same refl (keeps_unstopped (may_close happened) given keeps);
    };
    refused = λ own. asked.same;
  }

-- A call is declined by a refusal that is passed on.
pub declined : (map : SectorMap) (old new : DeviceView) (fault : Fault) (result : Result Unit Fault)
    → AsksReady map old new (Err fault) → IsErrAnd result (λ passed. passed ≡ fault)
    → (touched : Part → Bool) (happened : DeviceEvent) → needs_up happened ≡ true → needs_rest happened ≡ true
    → IsLaidOut map old.flash → TakesHere map happened touched old new result
declined map old new fault (Ok done) asks passed touched happened up rest laid = absurd passed
declined map old new fault (Err given) asks passed touched happened up rest laid =
    subst (λ f. TakesHere map happened touched old new (Err f)) (sym passed)
    (declines map old.flash new.flash old.sessions new.sessions old.up new.up fault fault asks.asked asks.stops touched
    happened up rest laid)

-- A device can't be both booted and not.
pub not_down : (result : Result Unit Fault) (old new : DeviceView) → old.up ≡ true → old.up ≡ false
    → IsNotBooted result old new
not_down result old new up down = absurd (true≢false (sym up ∙ down))

-- A call after one that left the flash as it was. The call is refused, and not by the flash.
pub refused_after : (old mid new : Chip) (error : UploadError) (given : Fault) → given ≡ no.Upload error → mid ≡ old
    → (is_flash {T = Unit} (Err error) ≡ false → new ≡ mid) → is_stop given ≡ false → new ≡ old
refused_after old mid new error given is same nothing own = nothing (sym (ap is_stop is) ∙ own) ∙ same
