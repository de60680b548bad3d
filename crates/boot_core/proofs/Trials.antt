-- Whether an image is on trial by the log, and what a confirmation returns then.
use Rattle.std.proofs.Common.{◌≡◌, ℕ, Bool, true, false, List, Option, Some, Result, Ok, Err, refl, sym, subst, ◌∙◌}
use Rattle.std.proofs.Common.{true≢false}
use Rattle.flash_model.specs.Chip.{Chip, Ends}
use Rattle.flash_model.proofs.Ending.{no_error}
use Rattle.flash_model.specs.declared.error.FlashError.{FlashError}
use Rattle.flash_model.specs.declared.error.FlashError.TheVariants as flash
use Rattle.sector_map.specs.declared.layout.SectorMap.{SectorMap}
use Rattle.sector_map.specs.declared.layout.Side.TheVariants.{Primary}
use Rattle.sector_map.specs.Map.{IsLaidOut, Keeps}
use Rattle.sector_map.specs.Part.{TrailerOf, only}
use Rattle.common.specs.Masks.{is_member}
use Rattle.sector_map.proofs.Parts.{laid_out_kept}
use Rattle.machine.specs.declared.event.Event.TheVariants as event
use Rattle.machine.specs.Device.{DeviceState}
use Rattle.upload.specs.View.{view}
use Rattle.upload.specs.declared.sessions.Upload.{Upload}
use Rattle.flash_contents.specs.Holding.{IsAtRest}
use Rattle.manifest.specs.declared.identity.Identity.{Identity}
use Rattle.flash_contents.specs.Passing.{EndsConfirm, StepsTo}
use Rattle.machine.specs.Steps.{cut_of}
use Rattle.flash_contents.proofs.Uploading.{open_confirmed}
use Rattle.boot_core.specs.Answers.{is_stopped, reply_of_result}
use Rattle.boot_core.specs.Device.{made, seen}
use Rattle.boot_core.specs.Taking.{StepsHere}
use Rattle.boot_core.proofs.NotReady.{not_down}
use Rattle.boot_core.proofs.Stopping.{ended}
use Rattle.set_log.specs.Log.{state_of}
use Rattle.set_log.specs.declared.state.State.{State}
use Rattle.set_log.specs.declared.state.RecordKind.TheVariants as log
use Rattle.machine.specs.declared.error.Fault.{Fault}
use Rattle.machine.specs.declared.error.Fault.TheVariants as no
use Rattle.boot_core.specs.declared.confirming.Confirmation.{Confirmation}
use Rattle.boot_core.specs.declared.confirming.Confirmation.TheVariants.{Done, NotOnTrial}
use Rattle.boot_core.specs.Confirming.{AnswersConfirm, AnswersTrial, Confirms, IsOfSet, is_done}
use Rattle.boot_core.specs.Ready.{LogsBoot, LogsTrialOf}

some_same : (x y : State) → Some x ≡ Some y → x ≡ y
some_same x y e = cc

-- The flash stopped the confirmation of an image of the set.
pub set_answers : (OnTrial : Type 0) (map : SectorMap) (old new : Chip) (image : ℕ) (error : FlashError)
    → Ends {T = Unit} (Err error) old new → OnTrial → AnswersTrial OnTrial map image old new (Err error)
set_answers OnTrial map old new image flash.Cut ends tried = tried
set_answers OnTrial map old new image flash.Off ends tried = ends.off refl

-- What a confirmation found, by whether the image is in the set on trial.
abbrev pub found_of : Result Bool FlashError → Result Confirmation FlashError
found_of (Ok true) = Ok Done
found_of (Ok false) = Ok NotOnTrial
found_of (Err error) = Err error

-- If the log says that a set is on trial, an image is on trial exactly if it is in that set.
module _ (map : SectorMap) (image : ℕ) (old : Chip) (state : State) (read : state_of map old ≡ Some state)
    (kind : state.kind ≡ log.Trial) where
  logged : IsOfSet map state.mask image → LogsTrialOf map.images image (state_of map old)
  logged (there, member) = record { state = state; logged = read; trial = kind; there = there; member = member }

  of_set : LogsTrialOf map.images image (state_of map old) → IsOfSet map state.mask image
  of_set tried = (
    tried.there,
    subst (λ (s : State). is_member s.mask image ≡ true) (some_same tried.state state (sym tried.logged ∙ read))
        tried.member,
  )

  not_interrupted : LogsBoot (state_of map old) → ⊥
  not_interrupted boots = boots.3 (subst (λ (s : State). s.kind ≡ log.Trial)
      (some_same state boots.0 (sym read ∙ boots.1)) kind)

  -- What a confirmation of an image of that set found.
  pub tried_answers : (new : Chip) (result : Result Bool FlashError)
      → AnswersTrial (IsOfSet map state.mask image) map image old new result
      → AnswersConfirm map image old new (found_of result)
  tried_answers new (Ok true) (tried, set) = (logged tried, set)
  tried_answers new (Ok false) other = (λ tried. other (of_set tried), not_interrupted)
  tried_answers new (Err flash.Cut) tried = logged tried
  tried_answers new (Err flash.Off) off = off

-- A flash with power stops only the confirmation of an image on trial.
pub stops_tried : (map : SectorMap) (image : ℕ) (old new : Chip) (error : FlashError)
    → AnswersConfirm map image old new (Err error) → old.is_on ≡ true
    → LogsTrialOf map.images image (state_of map old)
stops_tried map image old new flash.Cut tried on = tried
stops_tried map image old new flash.Off off on = absurd (true≢false (sym on ∙ off))

-- A log that has a set on trial says of no interrupted boot.
pub tried_not_interrupted : (images image : ℕ) (recorded : Option State) → LogsTrialOf images image recorded
    → LogsBoot recorded → ⊥
tried_not_interrupted images image recorded tried boots = boots.3 (subst (λ (s : State). s.kind ≡ log.Trial)
    (some_same tried.state boots.0 (sym tried.logged ∙ boots.1)) tried.trial)

pub flash_not_tried : (error : FlashError) (given : Fault) (result : Result Unit Fault) → given ≡ no.Flash error
    → result ≡ Err given → result ≡ Err no.NotOnTrial → ⊥
flash_not_tried error given result passed is told = cc

-- The flash didn't stop the confirmation.
pub confirm_ends : (map : SectorMap) (image : ℕ) (old new : Chip) (told : List (Option Upload)) (up : Bool)
    (found : Confirmation) (result : Result Unit Fault) → IsLaidOut map old → up ≡ true
    → Confirms map image old new (Ok found)
    → ((identity : Identity) (boots : ℕ) → Keeps map (only (TrailerOf image Primary)) old new
    → ((s : DeviceState) → IsAtRest (view map old) s → EndsConfirm (view map new) s image (is_done found))
    → StepsTo (made map identity boots) (seen old told up) (seen new told up) (event.Confirm image)
    (reply_of_result result))
    → cut_of (reply_of_result result) ≡ 0 → is_stopped (reply_of_result result) ≡ false
    → StepsHere map (event.Confirm image) (only (TrailerOf image Primary)) (seen old told up) (seen new told up) result
confirm_ends map image old new told up found result laid booted confirms steps none unstopped = record {
  laid = laid_out_kept map (only (TrailerOf image Primary)) old new laid confirms.outside;
  opens = open_confirmed map old new image told confirms.outside;
  steps = λ identity boots on. steps identity boots confirms.outside confirms.ok;
  outside = confirms.outside;
  down = not_down result (seen old told up) (seen new told up) booted;
  off = λ here off. absurd (no_error found _ (confirms.off off));
  journal = confirms.journal;
  ends = ended old new told told up up (reply_of_result result) none unstopped confirms.ends.uncut;
}
