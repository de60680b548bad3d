-- What a piece of an upload leaves on a device whose open uploads needn't match the flash.
use Rattle.std.proofs.Common.{◌≡◌, ℕ, Bool, true, false, List, length, Option, Some, Result, Ok, Err, refl, sym, ◌∙◌, ap, subst}
use Rattle.std.specs.Borrow.{Bor}
use Rattle.std.specs.Prelude.{IsErrAnd, IsErrOf}
use Rattle.machine.specs.declared.event.Event.TheVariants as event
use Rattle.flash_model.proofs.Ending.{no_error}
use Rattle.flash_model.specs.Chip.{Chip}
use Rattle.sector_map.specs.declared.layout.SectorMap.{SectorMap}
use Rattle.sector_map.specs.declared.layout.Side.TheVariants.{Secondary}
use Rattle.sector_map.specs.Map.{IsLaidOut}
use Rattle.sector_map.specs.Part.{Slot, only}
use Rattle.set_log.specs.Log.{state_of}
use Rattle.set_log.specs.declared.state.State.{State}
use Rattle.machine.specs.Device.{DeviceState}
use Rattle.upload.specs.NoSession.{LacksSession}
use Rattle.upload.specs.Sessions.{IsOpenAt, upload_at}
use Rattle.upload.specs.Steady.{IsSteadyAt}
use Rattle.upload.specs.View.{view}
use Rattle.upload.specs.declared.sessions.Upload.{Upload}
use Rattle.machine.specs.declared.upload_error.UploadError.{UploadError}
use Rattle.machine.specs.declared.upload_error.UploadError.TheVariants.{NoSession}
use Rattle.upload.proofs.Ends.{err_passed}
use Rattle.flash_contents.specs.Holding.{DeviceView}
use Rattle.machine.specs.declared.error.Fault.{Fault}
use Rattle.machine.specs.declared.error.Fault.TheVariants as no
use Rattle.boot_core.specs.Answers.{is_stop}
use Rattle.boot_core.specs.Device.{seen}
use Rattle.boot_core.specs.Ready.{IsReadiness, LogsRest}
use Rattle.boot_core.specs.Taking.{AsksReady, PassesOn, TakesHere, TakesPieceHere}
use Rattle.boot_core.proofs.Given.{ready_not}
use Rattle.boot_core.proofs.NotReady.{declined}

-- A check of the device itself doesn't return a fault of an upload.
not_upload : (fault : Fault) (error : UploadError) (up : Bool) (recorded : Option State) (on : Bool)
    → IsReadiness (Err fault) up recorded on → fault ≡ no.Upload error → ⊥
not_upload fault error up recorded on ready is = subst (λ f. IsReadiness (Err f) up recorded on) is ready

same_fault : (result : Result Unit Fault) (one other : Fault) → result ≡ Err one → result ≡ Err other → one ≡ other
same_fault result one other first second = cc

-- A call that was declined left the flash as it was.
pub piece_declined : (map : SectorMap) (image : ℕ) (more : Bor (List ℕ)) (old new : DeviceView) (fault : Fault)
    (result : Result Unit Fault) → AsksReady map old new (Err fault) → IsErrAnd result (λ passed. passed ≡ fault)
    → IsLaidOut map old.flash → TakesPieceHere map image more old new result
piece_declined map image more old new fault result asks passed laid = record {
  taken = declined map old new fault result asks passed (only (Slot image Secondary)) (event.Piece image more)
      refl refl laid;
  rests = λ s rest. subst (λ chip. IsSteadyAt (view map chip) s) (sym asks.asked.same) rest;
  matched = λ u is stands refused. not_upload fault NoSession _ _ _ asks.asked.ready
      (same_fault result fault (no.Upload NoSession) (err_passed result fault passed) refused);
  lacks = λ on up rests lacking. absurd (ready_not old.up _ _ fault asks.asked.ready on up rests);
  only_lacking = λ refused. absurd (not_upload fault NoSession _ _ _ asks.asked.ready
      (same_fault result fault (no.Upload NoSession) (err_passed result fault passed) refused));
}

session_error : (error : UploadError) (fault : Fault) (result : Result Unit Fault) → fault ≡ no.Upload error
    → result ≡ Err fault → result ≡ Err (no.Upload NoSession) → error ≡ NoSession
session_error error fault result is was refused = cc

-- If the device returns `NoSession`, so did the call of `Uploads`.
passed_session : (taken : Result Unit UploadError) (result : Result Unit Fault) (tmid tnew : List (Option Upload))
    (up upn : Bool) → PassesOn taken tmid up tnew upn result → result ≡ Err (no.Upload NoSession)
    → IsErrOf taken NoSession
passed_session (Ok done) (Ok passed) tmid tnew up upn is refused = absurd (no_error passed _ refused)
passed_session (Ok done) (Err fault) tmid tnew up upn is refused = absurd is
passed_session (Err error) (Ok passed) tmid tnew up upn is refused = absurd is
passed_session (Err error) (Err fault) tmid tnew up upn is refused =
    ap (λ e. Err e) (session_error error fault (Err fault) is.is refl refused)

session_is : (error : UploadError) → IsErrOf {T = Unit} (Err error) NoSession → error ≡ NoSession
session_is error is = cc

-- If the call of `Uploads` returns `NoSession`, so does the device, which stays as it was.
session_passed : (taken : Result Unit UploadError) (result : Result Unit Fault) (tmid tnew : List (Option Upload))
    (up upn : Bool) → PassesOn taken tmid up tnew upn result → taken ≡ Err NoSession
    → (result ≡ Err (no.Upload NoSession)) × (tnew ≡ tmid) × (upn ≡ up)
session_passed (Ok done) result tmid tnew up upn is refused = absurd (no_error done _ refused)
session_passed (Err error) (Ok passed) tmid tnew up upn is refused = absurd is
session_passed (Err error) (Err fault) tmid tnew up upn is refused =
    let stays : is_stop (no.Upload error) ≡ false = ap (λ e. is_stop (no.Upload e)) (session_is error refused) in (
      ap (λ f. Err f) (is.is ∙ ap (λ e. no.Upload e) (session_is error refused)),
      is.kept stays,
      is.up stays,
    )

same_device : (old new : Chip) (told tmid tnew : List (Option Upload)) (up upn : Bool) → new ≡ old → tmid ≡ told
    → tnew ≡ tmid → upn ≡ up → seen new tnew upn ≡ seen old told up
same_device old new told tmid tnew up upn flash first second booted = cc

-- A call that was passed on left what `Uploads` left.
pub piece_passed : (map : SectorMap) (image : ℕ) (more : Bor (List ℕ)) (before : DeviceView) (old new : Chip)
    (told tmid tnew : List (Option Upload)) (up upn : Bool) (taken : Result Unit UploadError)
    (result : Result Unit Fault) → AsksReady map before (seen old told up) (Ok tt)
    → TakesHere map (event.Piece image more) (only (Slot image Secondary)) before (seen new tnew upn) result
    → ((s : DeviceState) → IsSteadyAt (view map old) s → IsSteadyAt (view map new) s)
    → ((u : Upload) → upload_at told image ≡ Some u → IsOpenAt (view map old) image u → IsErrOf taken NoSession → ⊥)
    → (old.is_on ≡ true → LacksSession map told image (length more.now) old
    → (taken ≡ Err NoSession) × (new ≡ old) × (tmid ≡ told))
    → (IsErrOf taken NoSession → LacksSession map told image (length more.now) old)
    → PassesOn taken tmid up tnew upn result → TakesPieceHere map image more before (seen new tnew upn) result
piece_passed map image more before old new told tmid tnew up upn taken result ready here rests matched lacks only passed = record {
  taken = here;
  rests = subst (λ (at : DeviceView). (s : DeviceState) → IsSteadyAt (view map at.flash) s
      → IsSteadyAt (view map new) s) ready.taken rests;
  matched = subst (λ (at : DeviceView). (u : Upload) → upload_at at.sessions image ≡ Some u
      → IsOpenAt (view map at.flash) image u → result ≡ Err (no.Upload NoSession) → ⊥) ready.taken
      (λ u is stands refused. matched u is stands (passed_session taken result tmid tnew up upn passed refused));
  lacks = subst (λ (at : DeviceView). at.flash.is_on ≡ true → at.up ≡ true → LogsRest (state_of map at.flash)
      → LacksSession map at.sessions image (length more.now) at.flash
      → (result ≡ Err (no.Upload NoSession)) × (seen new tnew upn ≡ at)) ready.taken (λ on is_up no_trial lacking.
      let left = lacks on lacking in
      let given = session_passed taken result tmid tnew up upn passed left.0 in
      (given.0, same_device old new told tmid tnew up upn left.1 left.2 given.1 given.2));
  only_lacking = subst (λ (at : DeviceView). result ≡ Err (no.Upload NoSession)
      → LacksSession map at.sessions image (length more.now) at.flash) ready.taken
      (λ refused. only (passed_session taken result tmid tnew up upn passed refused));
}
