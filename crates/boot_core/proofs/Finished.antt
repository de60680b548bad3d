-- What a refusal to finish an upload leaves of the flash.
use Rattle.std.proofs.Common.{◌≡◌, ℕ, Bool, List, Option, Result, Ok, Err, IfErr, ap, refl, subst, sym}
use Rattle.flash_model.proofs.Ending.{no_error}
use Rattle.flash_model.specs.Chip.{Chip}
use Rattle.sector_map.specs.declared.layout.SectorMap.{SectorMap}
use Rattle.sector_map.specs.declared.layout.Side.TheVariants.{Secondary}
use Rattle.sector_map.specs.Map.{Keeps}
use Rattle.sector_map.specs.Part.{Slot, incoming_of, only}
use Rattle.sector_map.proofs.Parts.{keeps_refl}
use Rattle.machine.specs.declared.event.Event.TheVariants as event
use Rattle.upload.specs.Finishing.{RefusesFinish}
use Rattle.upload.specs.Sessions.{upload_at}
use Rattle.upload.specs.declared.sessions.Upload.{Upload}
use Rattle.machine.specs.declared.upload_error.UploadError.{UploadError}
use Rattle.flash_contents.specs.Holding.{DeviceView}
use Rattle.machine.specs.declared.error.Fault.{Fault}
use Rattle.boot_core.specs.Device.{seen}
use Rattle.boot_core.specs.Taking.{AsksReady, FinishesHere, PassesOn, TakesCall, TakesHere}
use Rattle.boot_core.proofs.Keeping.{given_size, last_same, own_error}

if_any_err : {T E : Type 0} (result : Result T E) (P : E → Type 0) → ((e : E) → P e) → IfErr result P
if_any_err (Ok done) P each = tt
if_any_err (Err error) P each = each error

-- A call that was declined left the flash as it was.
pub finish_declined : (map : SectorMap) (image : ℕ) (old new : DeviceView) (result : Result Unit Fault)
    → new.flash ≡ old.flash → TakesHere map (event.Finish image) (incoming_of image) old new result
    → FinishesHere map image old new result
finish_declined map image old new result same declined = record {
  call = declined.call;
  size = λ wrong. same;
  slot = if_any_err result _ (λ fault own. subst (λ chip. Keeps map (only (Slot image Secondary)) old.flash chip)
      (sym same) (keeps_refl map (only (Slot image Secondary)) old.flash));
  unit = if_any_err result _ (λ fault own u at. last_same map image u old.flash new.flash same);
  erases = if_any_err result _ (λ fault own. ap (λ (chip : Chip). chip.erases) same);
}

-- A call that was passed on left what `Uploads` left.
pub finish_passed : (map : SectorMap) (image : ℕ) (before : DeviceView) (old new : Chip)
    (told tmid tnew : List (Option Upload)) (up upn : Bool) (taken : Result Unit UploadError)
    (result : Result Unit Fault) → AsksReady map before (seen old told up) (Ok tt)
    → TakesCall map (event.Finish image) (incoming_of image) before (seen new tnew upn) result
    → RefusesFinish map image (upload_at told image) old new taken → PassesOn taken tmid up tnew upn result
    → FinishesHere map image before (seen new tnew upn) result
finish_passed map image before old new told tmid tnew up upn (Ok done) (Ok passed) asked call refused is = record {
  call = call;
  size = λ wrong. absurd (no_error passed _ wrong);
  slot = tt;
  unit = tt;
  erases = tt;
}
finish_passed map image before old new told tmid tnew up upn (Ok done) (Err fault) asked call refused is = absurd is
finish_passed map image before old new told tmid tnew up upn (Err error) (Ok passed) asked call refused is = absurd is
finish_passed map image before old new told tmid tnew up upn (Err error) (Err fault) asked call refused is =
    let left = subst (λ (at : DeviceView). RefusesFinish map image (upload_at at.sessions image) at.flash new (Err error))
    asked.taken refused in
    record {
      call = call;
      size = λ wrong. left.size (given_size error fault (Err fault) is.is refl wrong);
      slot = λ own. left.slot (own_error error fault is.is own);
      unit = λ own u at. left.unit (own_error error fault is.is own) u at;
      erases = λ own. left.erases (own_error error fault is.is own);
    }
