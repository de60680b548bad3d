-- Lemmas for a device that the flash stopped: it isn't booted, and no upload is open.
use Rattle.std.proofs.Common.{rules, ◌≡◌, ℕ, ◌+◌, Bool, true, false, List, Option, Some, Result, Ok, Err, IfOk, IsErrOf, arith, refl, sym, ◌∙◌, ap, subst, ⊎_elim, inl, inr}
use Rattle.std.specs.Borrow.{Bor}
use Rattle.std.proofs.Common.{true≢false}
use Rattle.machine.specs.declared.event.Event.TheVariants as event
use Rattle.flash_model.specs.Chip.{Chip, Ends, IsCut, IsUncut}
use Rattle.flash_model.specs.declared.error.FlashError.{FlashError}
use Rattle.flash_model.specs.declared.error.FlashError.TheVariants as flash
use Rattle.sector_map.specs.declared.layout.SectorMap.{SectorMap}
use Rattle.set_log.specs.Log.{state_of}
use Rattle.set_log.specs.declared.state.State.{State}
use Rattle.set_log.specs.declared.state.RecordKind.{RecordKind}
use Rattle.set_log.specs.declared.state.RecordKind.TheVariants as log
use Rattle.manifest.specs.declared.manifest.Manifest as given
use Rattle.manifest.specs.Fault.{IsManifest}
use Rattle.upload.specs.View.{View, view}
use Rattle.machine.specs.Device.{DeviceState, Machine, Trial}
use Rattle.upload.specs.Steady.{IsSteadyAt}
use Rattle.upload.specs.Sessions.{AllClosed, AllOpenAt}
use Rattle.upload.specs.Ending.{EndsUpload}
use Rattle.machine.specs.Intake.{is_flash, IsUploadsCut, Row, Setup, TakesManifest}
use Rattle.machine.specs.Accepted.{Accepts}
use Rattle.machine.specs.Piece.{Pieces}
use Rattle.machine.specs.Finish.{FinishRow}
use Rattle.machine.specs.Withdrawal.{Withdraws}
use Rattle.upload.specs.declared.sessions.Upload.{Upload}
use Rattle.machine.specs.declared.upload_error.UploadError.{UploadError}
use Rattle.machine.specs.declared.upload_error.UploadError.TheVariants as upload
use Rattle.upload.proofs.Frames.{sessions_closed}
use Rattle.upload.proofs.OpenOnes.{open_none}
use Rattle.machine.specs.States.{asleep, with_confirmed}
use Rattle.flash_contents.specs.Holding.{DeviceView, Holds, IsAtRest, IsTrialAt, Rests, Stands}
use Rattle.flash_contents.specs.Passing.{CutsBoot, CutsConfirm, StepsTo, needs_rest, needs_up}
use Rattle.machine.specs.Steps.{DeviceEvent, cut_of}
use Rattle.machine.specs.declared.error.Fault.{Fault}
use Rattle.machine.specs.declared.error.Fault.TheVariants as no
use Rattle.machine.specs.declared.reply.Reply.{Reply}
use Rattle.machine.specs.declared.reply.Reply.TheVariants.{Done, Refused, Cut}
use Rattle.flash_contents.proofs.Confirming.{rest_stands, steady_kind, trial_kind}
use Rattle.flash_contents.proofs.Stepping.{steps_no_state, steps_not_up}
use Rattle.flash_contents.proofs.Uploading.{TakesRow, rest_steady, steps_on_trial}
use Rattle.machine.specs.Boots.{is_answer}
use Rattle.boot_core.specs.Answers.{EndsCall, IsBootReply, error_reply, fault_reply, is_stop, is_stopped, reply_of_boot}
use Rattle.boot_core.specs.Device.{seen}
use Rattle.boot_core.specs.declared.confirming.Confirmation.{Confirmation}
use Rattle.boot_core.specs.Ready.{IsReadiness, LogsBoot}
use Rattle.boot_core.specs.Wear.{IsWorn}

-- A device that isn't booted holds the state on its flash.
pub holds_down : (map : SectorMap) (chip : Chip) (told : List (Option Upload)) (s : DeviceState) → AllClosed told
    → Stands map chip s → Holds map (seen chip told false) (asleep s)
holds_down map chip told s none stands = record {
  stands = stands;
  is_booted = refl;
  rest = λ e. absurd (true≢false (sym e));
  open_ones = sessions_closed (view map chip) told none;
  closed = λ e. none;
}

pub boot_down : (setup : Setup) (old new : Chip) (told tnew : List (Option Upload)) (up : Bool) → AllClosed tnew
    → ((s : DeviceState) → Stands setup.map old s → CutsBoot setup.map setup.boots new s)
    → StepsTo setup (seen old told up) (seen new tnew false) event.Boot Cut
boot_down setup old new told tnew up none cuts m holds =
    let after = cuts m.kept holds.stands in
    (asleep after.0, (after.1, refl), holds_down setup.map new tnew after.0 none after.2)

module _ (setup : Setup) (old new : Chip) (told tnew : List (Option Upload)) (up : Bool) (is_booted : up ≡ true)
    (none : AllClosed tnew) where
  pub confirm_down : (i : ℕ)
      → ((s : DeviceState) → IsAtRest (view setup.map old) s → CutsConfirm (view setup.map new) s i)
      → StepsTo setup (seen old told up) (seen new tnew false) (event.Confirm i) Cut
  confirm_down i cuts m holds =
      let here = holds.is_booted ∙ is_booted in
      let after = cuts m.kept (holds.rest here) in
      let done = with_confirmed m.kept after.0 i in
      ⊎_elim
      (λ (still : IsAtRest (view setup.map new) m.kept). (
        asleep m.kept,
        (here, (after.0, after.1, inl refl)),
        holds_down setup.map new tnew m.kept none (rest_stands setup.map new m.kept still),
      ))
      (λ (at : IsAtRest (view setup.map new) done). (
        asleep done,
        (here, (after.0, after.1, inr refl)),
        holds_down setup.map new tnew done none (rest_stands setup.map new done at),
      ))
      after.2

  module _ (state : State) (tmid : List (Option Upload)) (result : Result Unit UploadError)
      (read : (view setup.map old).log ≡ Some state) (rests : state.kind ≡ log.Trial → ⊥)
      (cut : result ≡ Err (upload.Flash flash.Cut)) where
    row_down : (row : Machine → Row) → TakesRow setup.map old new told tmid row result
        → (m : Machine) → Holds setup.map (seen old told up) m
        → (next : Machine) × IsUploadsCut (row m) m next × Holds setup.map (seen new tnew false) next
    row_down row takes m holds =
        let here = holds.is_booted ∙ is_booted in
        let rest = rest_steady setup.map old m.kept state read rests (holds.rest here) in
        let after = takes m (record { up = here; rest = rest; open_ones = holds.open_ones }) in (
          asleep after.0.kept,
          (
            record { up = here; rest = rest.trial },
            (after.0, subst (λ r. row m r after.0) cut after.1, refl),
          ),
          holds_down setup.map new tnew after.0.kept none (Rests after.2.rest),
        )

    pub piece_down : (i : ℕ) (more : Bor (List ℕ))
        → TakesRow setup.map old new told tmid (λ m. Pieces m i more.now) result
        → StepsTo setup (seen old told up) (seen new tnew false) (event.Piece i more) Cut
    piece_down i more takes m holds = row_down (λ k. Pieces k i more.now) takes m holds

    pub finish_down : (i : ℕ) → TakesRow setup.map old new told tmid (λ m. FinishRow m i) result
        → StepsTo setup (seen old told up) (seen new tnew false) (event.Finish i) Cut
    finish_down i takes m holds = row_down (λ k. FinishRow k i) takes m holds

    pub withdraw_down : (i : ℕ) → TakesRow setup.map old new told tmid (λ m. Withdraws m i) result
        → StepsTo setup (seen old told up) (seen new tnew false) (event.Withdraw i) Cut
    withdraw_down i takes m holds = row_down (λ k. Withdraws k i) takes m holds

    pub accept_down : (text : Bor (List ℕ)) (manifest : given.Manifest)
        → IsManifest setup.identity text.now manifest
        → TakesRow setup.map old new told tmid
        (λ m. Accepts setup.map m manifest.sequence manifest.components.items) result
        → StepsTo setup (seen old told up) (seen new tnew false) (event.Accept text) Cut
    accept_down text manifest means takes m holds = row_down (λ k. TakesManifest setup k text.now)
        (λ k at. let after = takes k at in (after.0, (manifest, means, after.1), after.2)) m holds

pub boot_stopped : (setup : Setup) (old new : Chip) (told tnew : List (Option Upload)) (up : Bool) → AllClosed tnew
    → ((s : DeviceState) → Stands setup.map old s → CutsBoot setup.map setup.boots new s)
    → (error : FlashError) → Ends {T = Reply} (Err error) old new → old.is_on ≡ true
    → StepsTo setup (seen old told up) (seen new tnew false) event.Boot (fault_reply (no.Flash error))
boot_stopped setup old new told tnew up none cuts flash.Cut ends on = boot_down setup old new told tnew up none cuts
boot_stopped setup old new told tnew up none cuts flash.Off ends on = absurd (true≢false (sym on ∙ ends.off refl))

-- If the flash had power, it stopped the call only by a power cut.
pub not_uncut : (old new : Chip) (error : FlashError) → Ends {T = Reply} (Err error) old new → old.is_on ≡ true
    → cut_of (fault_reply (no.Flash error)) ≡ 0 → ⊥
not_uncut old new flash.Cut ends on uncut = omega (arith, uncut)
not_uncut old new flash.Off ends on uncut = true≢false (sym on ∙ ends.off refl)

pub stopped_worn : (map : SectorMap) (state : State) (old new : Chip) (error : FlashError)
    → Ends {T = Reply} (Err error) old new → old.is_on ≡ true → cut_of (fault_reply (no.Flash error)) ≡ 0
    → IsWorn map state.kind state.mask old new (fault_reply (no.Flash error))
stopped_worn map state old new error ends on uncut = absurd (not_uncut old new error ends on uncut)

not_idle : (old new : Chip) (error : FlashError) → Ends {T = Reply} (Err error) old new → old.is_on ≡ true
    → new ≡ old → ⊥
not_idle old new flash.Cut ends on same = omega (arith, (ends.cut refl).cuts, ap (λ (chip : Chip). chip.cuts) same)
not_idle old new flash.Off ends on same = true≢false (sym on ∙ ends.off refl)

-- So the log had a record.
pub not_empty : (old new : Chip) (error : FlashError) → Ends {T = Reply} (Err error) old new → old.is_on ≡ true
    → new ≡ old → (result : Result Reply Fault) → result ≡ Err no.NotProvisioned
not_empty old new error ends on same result = absurd (not_idle old new error ends on same)

pub stopped_ends : {T : Type 0} (old new : Chip) (told tnew : List (Option Upload)) (up upn : Bool) → AllClosed tnew
    → upn ≡ false → (error : FlashError) → Ends {T = T} (Err error) old new
    → EndsCall (fault_reply (no.Flash error)) (seen old told up) (seen new tnew upn)
stopped_ends old new told tnew up upn none down flash.Cut ends = record {
  cuts = (ends.cut refl).cuts;
  power = λ e. absurd (omega (arith, e));
  dark = λ e. (ends.cut refl).off;
  off = λ e more. absurd (omega (arith, more));
  down = λ e. down;
  closed = λ e. none;
}
stopped_ends old new told tnew up upn none down flash.Off ends =
    let stays : new ≡ old = ends.asleep (ends.off refl) in
    let cuts : new.cuts ≡ old.cuts = ap (λ (chip : Chip). chip.cuts) stays in
    record {
      cuts = omega (arith, cuts);
      power = λ e. ap (λ (chip : Chip). chip.is_on) stays;
      dark = λ e. absurd (omega (arith, e));
      off = λ e more. ends.off refl;
      down = λ e. down;
      closed = λ e. none;
    }

-- A call that the flash didn't stop ends with its own reply.
pub ended : (old new : Chip) (told tnew : List (Option Upload)) (up upn : Bool) (reply : Reply) → cut_of reply ≡ 0
    → is_stopped reply ≡ false → IsUncut old new → EndsCall reply (seen old told up) (seen new tnew upn)
ended old new told tnew up upn reply none unstopped uncut = record {
  cuts = omega (arith, none, uncut.cuts);
  power = λ e. uncut.on;
  dark = λ e. absurd (omega (arith, none, e));
  off = λ e. absurd (true≢false (sym e ∙ unstopped));
  down = λ e. absurd (true≢false (sym e ∙ unstopped));
  closed = λ e. absurd (true≢false (sym e ∙ unstopped));
}

-- So does a boot.
boot_ended : (reply : Reply) → IsBootReply reply → (cut_of reply ≡ 0) × (is_stopped reply ≡ false)
boot_ended reply told = search rules

pub ended_ends : (old new : Chip) (told tnew : List (Option Upload)) (up upn : Bool) (given reply : Reply)
    → given ≡ reply → IsBootReply reply → Ends (Ok reply) old new
    → EndsCall given (seen old told up) (seen new tnew upn)
ended_ends old new told tnew up upn given reply is replied ends =
    let none = boot_ended reply replied in
    subst (λ r. EndsCall r (seen old told up) (seen new tnew upn)) (sym is)
    (ended old new told tnew up upn reply none.0 none.1 ends.uncut)

pub unprovisioned : (result : Result Reply Fault) → IfOk result (λ reply. is_answer reply ≡ true)
    → reply_of_boot result ≡ Refused no.NotProvisioned → result ≡ Err no.NotProvisioned
unprovisioned result answers is = search rules

-- A fault of the flash is passed on as one.
pub no_own : (error : FlashError) (given : Fault) → given ≡ no.Flash error → is_stop given ≡ false → ⊥
no_own error given is own = true≢false (sym (ap is_stop is) ∙ own)

-- The flash stopped a confirmation.
pub confirm_stopped : (setup : Setup) (old new : Chip) (told tnew : List (Option Upload)) (up upn : Bool) (i : ℕ)
    → up ≡ true → (error : FlashError) → Ends {T = Confirmation} (Err error) old new → old.is_on ≡ true → AllClosed tnew
    → upn ≡ false
    → (IsErrOf {T = Confirmation} (Err error) flash.Cut → (s : DeviceState) → IsAtRest (view setup.map old) s
    → CutsConfirm (view setup.map new) s i)
    → StepsTo setup (seen old told up) (seen new tnew upn) (event.Confirm i) (fault_reply (no.Flash error))
confirm_stopped setup old new told tnew up upn i is_booted flash.Cut ends on none down cuts =
    subst (λ b. StepsTo setup (seen old told up) (seen new tnew b) (event.Confirm i) Cut) (sym down)
    (confirm_down setup old new told tnew up is_booted none i (cuts refl))
confirm_stopped setup old new told tnew up upn i is_booted flash.Off ends on none down cuts =
    absurd (true≢false (sym on ∙ ends.off refl))

-- ---- how calls of uploads end

-- An error of an upload is a power cut, a flash that is off, or the upload's own.
pub error_is : {X : Type 0} (error : UploadError) → (error ≡ upload.Flash flash.Cut → X)
    → (error ≡ upload.Flash flash.Off → X) → (is_flash {T = Unit} (Err error) ≡ false → X) → X
error_is upload.OldSequence cut off own = own refl
error_is upload.TooBig cut off own = own refl
error_is upload.NoSession cut off own = own refl
error_is upload.TooMuch cut off own = own refl
error_is upload.SizeWrong cut off own = own refl
error_is upload.DigestWrong cut off own = own refl
error_is (upload.NotAnImage fault) cut off own = own refl
error_is upload.WrongPrecursor cut off own = own refl
error_is upload.NothingRequested cut off own = own refl
error_is (upload.Flash flash.Cut) cut off own = cut refl
error_is (upload.Flash flash.Off) cut off own = off refl
error_is upload.NoMemory cut off own = own refl

pub error_says : (error : UploadError) → is_flash {T = Unit} (Err error) ≡ false
    → error_reply error ≡ Refused (no.Upload error)
error_says upload.OldSequence own = refl
error_says upload.TooBig own = refl
error_says upload.NoSession own = refl
error_says upload.TooMuch own = refl
error_says upload.SizeWrong own = refl
error_says upload.DigestWrong own = refl
error_says (upload.NotAnImage fault) own = refl
error_says upload.WrongPrecursor own = refl
error_says upload.NothingRequested own = refl
error_says (upload.Flash error) own = absurd (true≢false own)
error_says upload.NoMemory own = refl

-- What a refusal that is passed on leaves.
pub record IsStopped (fault : Fault) (told tnew : List (Option Upload)) (up upn : Bool) : Type 0 where
  pub down : is_stop fault ≡ true → upn ≡ false
  pub closed : is_stop fault ≡ true → AllClosed tnew
  pub stays : is_stop fault ≡ false → upn ≡ up
  pub kept : is_stop fault ≡ false → tnew ≡ told

-- A refused call of uploads is a step.
pub failed : (setup : Setup) (old new : Chip) (told tmid tnew : List (Option Upload)) (up upn : Bool)
    (happened : DeviceEvent) (error : UploadError) → old.is_on ≡ true → EndsUpload {T = Unit} (Err error) old new
    → IsStopped (no.Upload error) tmid tnew up upn
    → (AllClosed tnew → error ≡ upload.Flash flash.Cut
    → StepsTo setup (seen old told up) (seen new tnew false) happened Cut)
    → (is_flash {T = Unit} (Err error) ≡ false
    → StepsTo setup (seen old told up) (seen new tmid up) happened (Refused (no.Upload error)))
    → (fault : Fault) → fault ≡ no.Upload error
    → StepsTo setup (seen old told up) (seen new tnew upn) happened (fault_reply fault)
failed setup old new told tmid tnew up upn happened error on ends stopped down kept fault is =
    subst (λ f. StepsTo setup (seen old told up) (seen new tnew upn) happened (fault_reply f)) (sym is)
    (error_is error
    (λ (cut : error ≡ upload.Flash flash.Cut).
    let told_so : is_stop (no.Upload error) ≡ true = ap (λ e. is_stop (no.Upload e)) cut in
    subst (λ e. StepsTo setup (seen old told up) (seen new tnew upn) happened (error_reply e)) (sym cut)
    (subst (λ b. StepsTo setup (seen old told up) (seen new tnew b) happened Cut) (sym (stopped.down told_so))
    (down (stopped.closed told_so) cut)))
    (λ (off : error ≡ upload.Flash flash.Off).
    absurd (true≢false (sym on ∙ ends.off (subst (λ e. IsErrOf {T = Unit} (Err e) (upload.Flash flash.Off))
    (sym off) refl))))
    (λ (own : is_flash {T = Unit} (Err error) ≡ false).
    subst (λ r. StepsTo setup (seen old told up) (seen new tnew upn) happened r) (sym (error_says error own))
    (subst (λ b. StepsTo setup (seen old told up) (seen new tnew b) happened (Refused (no.Upload error)))
    (sym (stopped.stays own))
    (subst (λ l. StepsTo setup (seen old told up) (seen new l up) happened (Refused (no.Upload error)))
    (sym (stopped.kept own)) (kept own)))))

-- How a refused call of uploads ends.
pub failed_ends : (old mid new : Chip) (told tmid tnew : List (Option Upload)) (up upn : Bool) (error : UploadError)
    → mid ≡ old → EndsUpload {T = Unit} (Err error) mid new → IsStopped (no.Upload error) tmid tnew up upn
    → (fault : Fault) → fault ≡ no.Upload error → EndsCall (fault_reply fault) (seen old told up) (seen new tnew upn)
failed_ends old mid new told tmid tnew up upn error same ends stopped fault is =
    subst (λ f. EndsCall (fault_reply f) (seen old told up) (seen new tnew upn)) (sym is)
    (error_is error
    (λ (cut : error ≡ upload.Flash flash.Cut).
    let told_so : is_stop (no.Upload error) ≡ true = ap (λ e. is_stop (no.Upload e)) cut in
    let was : IsCut mid new = ends.cut (subst (λ e. IsErrOf {T = Unit} (Err e) (upload.Flash flash.Cut))
    (sym cut) refl) in
    subst (λ e. EndsCall (error_reply e) (seen old told up) (seen new tnew upn)) (sym cut)
    (record {
      cuts = was.cuts ∙ ap (λ (chip : Chip). chip.cuts + 1) same;
      power = λ e. absurd (omega (arith, e));
      dark = λ e. was.off;
      off = λ e more. absurd (omega (arith, more));
      down = λ e. stopped.down told_so;
      closed = λ e. stopped.closed told_so;
    }))
    (λ (off : error ≡ upload.Flash flash.Off).
    let told_so : is_stop (no.Upload error) ≡ true = ap (λ e. is_stop (no.Upload e)) off in
    let was : mid.is_on ≡ false = ends.off (subst (λ e. IsErrOf {T = Unit} (Err e) (upload.Flash flash.Off))
    (sym off) refl) in
    let stays : new ≡ old = ends.asleep was ∙ same in
    let cuts : new.cuts ≡ old.cuts = ap (λ (chip : Chip). chip.cuts) stays in
    subst (λ e. EndsCall (error_reply e) (seen old told up) (seen new tnew upn)) (sym off)
    (record {
      cuts = omega (arith, cuts);
      power = λ e. ap (λ (chip : Chip). chip.is_on) stays;
      dark = λ e. absurd (omega (arith, e));
      off = λ e more. sym (ap (λ (chip : Chip). chip.is_on) same) ∙ was;
      down = λ e. stopped.down told_so;
      closed = λ e. stopped.closed told_so;
    }))
    (λ (own : is_flash {T = Unit} (Err error) ≡ false).
    let was : IsUncut mid new = ends.uncut own in
    let cuts : new.cuts ≡ old.cuts = was.cuts ∙ ap (λ (chip : Chip). chip.cuts) same in
    subst (λ r. EndsCall r (seen old told up) (seen new tnew upn)) (sym (error_says error own))
    (record {
      cuts = omega (arith, cuts);
      power = λ e. was.on ∙ ap (λ (chip : Chip). chip.is_on) same;
      dark = λ e. absurd (omega (arith, e));
      off = λ e. absurd (true≢false (sym e ∙ own));
      down = λ e. absurd (true≢false (sym e ∙ own));
      closed = λ e. absurd (true≢false (sym e ∙ own));
    })))

-- How a call of uploads that succeeds ends.
pub done_ends : (old mid new : Chip) (told tnew : List (Option Upload)) (up : Bool) → mid ≡ old
    → EndsUpload {T = Unit} (Ok tt) mid new → EndsCall Done (seen old told up) (seen new tnew up)
done_ends old mid new told tnew up same ends =
    let was : IsUncut mid new = ends.uncut refl in
    let cuts : new.cuts ≡ old.cuts = was.cuts ∙ ap (λ (chip : Chip). chip.cuts) same in
    record {
      cuts = omega (arith, cuts);
      power = λ e. was.on ∙ ap (λ (chip : Chip). chip.is_on) same;
      dark = λ e. absurd (omega (arith, e));
      off = λ e. absurd (true≢false (sym e));
      down = λ e. absurd (true≢false (sym e));
      closed = λ e. absurd (true≢false (sym e));
    }

-- The uploads that are left match the flash.
pub opens_stopped : (w : View) (fault : Fault) (told tnew : List (Option Upload)) (up upn : Bool)
    → IsStopped fault told tnew up upn → AllOpenAt w told → AllOpenAt w tnew
opens_stopped w fault told tnew up upn stopped opens = either (is_stop fault) refl where
  either : (b : Bool) → is_stop fault ≡ b → AllOpenAt w tnew
  either true is = open_none w tnew (stopped.closed is)
  either false is = subst (λ l. AllOpenAt w l) (sym (stopped.kept is)) opens

-- ---- a device that takes no uploads now

still : (setup : Setup) (old mid : Chip) (told tnew : List (Option Upload)) (up upn : Bool) (happened : DeviceEvent)
    (reply : Reply) → mid ≡ old → tnew ≡ told → upn ≡ up
    → StepsTo setup (seen old told up) (seen old told up) happened reply
    → StepsTo setup (seen old told up) (seen mid tnew upn) happened reply
still setup old mid told tnew up upn happened reply same kept on steps =
    subst (λ chip. StepsTo setup (seen old told up) (seen chip tnew upn) happened reply) (sym same)
    (subst (λ l. StepsTo setup (seen old told up) (seen old l upn) happened reply) (sym kept)
    (subst (λ b. StepsTo setup (seen old told up) (seen old told b) happened reply) (sym on) steps))

-- A log at rest has no trial.
pub not_tried : (kind : RecordKind) → kind ≡ log.Steady → kind ≡ log.Trial → ⊥
not_tried kind rests tried = never (sym rests ∙ tried) where
  never : log.Steady ≡ log.Trial → ⊥
  never e = cc

-- No booted device holds a flash whose log says that a boot was interrupted.
steps_boots : (setup : Setup) (w : DeviceView) (happened : DeviceEvent) → w.up ≡ true
    → LogsBoot (state_of setup.map w.flash) → StepsTo setup w w happened (Refused no.NotBooted)
steps_boots setup w happened up boots m holds = absurd (⊎_elim
    (λ (steady : IsSteadyAt (view setup.map w.flash) m.kept).
    boots.2 (steady_kind setup.map w.flash m.kept boots.0 boots.1 steady))
    (λ (tried : (trial : Trial) × IsTrialAt (view setup.map w.flash) m.kept trial).
    boots.3 (trial_kind setup.map w.flash m.kept tried.0 boots.0 boots.1 tried.1))
    (holds.rest (holds.is_booted ∙ up)))

pub steps_interrupted : (setup : Setup) (old mid : Chip) (told : List (Option Upload)) (up : Bool)
    (happened : DeviceEvent) → up ≡ true → LogsBoot (state_of setup.map old) → mid ≡ old
    → StepsTo setup (seen old told up) (seen mid told up) happened (Refused no.NotBooted)
steps_interrupted setup old mid told up happened booted boots same =
    still setup old mid told told up up happened (Refused no.NotBooted) same refl refl
    (steps_boots setup (seen old told up) happened booted boots)

module _ (setup : Setup) (old mid : Chip) (told tnew : List (Option Upload)) (up upn : Bool) (happened : DeviceEvent)
    (needs : needs_up happened ≡ true) (rests : needs_rest happened ≡ true) (same : mid ≡ old) where
  refused : (fault : Fault) → IsReadiness (Err fault) up (state_of setup.map old) old.is_on → old.is_on ≡ true
      → IsStopped fault told tnew up upn
      → StepsTo setup (seen old told up) (seen mid tnew upn) happened (fault_reply fault)
  refused no.NotBooted is on stopped = still setup old mid told tnew up upn happened (Refused no.NotBooted) same
      (stopped.kept refl) (stopped.stays refl) (⊎_elim
      (λ down. steps_not_up setup (seen old told up) happened down needs)
      (λ boots. steps_boots setup (seen old told up) happened boots.0 boots.1) is)
  refused no.OnTrial is on stopped = still setup old mid told tnew up upn happened (Refused no.OnTrial) same
      (stopped.kept refl) (stopped.stays refl)
      (steps_on_trial setup (seen old told up) is.1.0 happened is.0 is.1.1 is.1.2 rests)
  refused no.NotProvisioned is on stopped = steps_no_state setup (seen old told up) (seen mid tnew upn) happened
      (Refused no.NotProvisioned) is.1
  refused (no.Flash flash.Off) is on stopped = absurd (true≢false (sym on ∙ is.1))
  refused (no.Flash flash.Cut) is on stopped = absurd is
  refused no.NotOnTrial is on stopped = absurd is
  refused (no.RunningDamaged image) is on stopped = absurd is
  refused no.InvalidSet is on stopped = absurd is
  refused no.NoMemory is on stopped = absurd is
  refused (no.Manifest error) is on stopped = absurd is
  refused (no.Upload error) is on stopped = absurd is

  pub not_ready : (given fault : Fault) → given ≡ fault
      → IsReadiness (Err fault) up (state_of setup.map old) old.is_on → old.is_on ≡ true
      → IsStopped fault told tnew up upn
      → StepsTo setup (seen old told up) (seen mid tnew upn) happened (fault_reply given)
  not_ready given fault is ready on stopped =
      subst (λ f. StepsTo setup (seen old told up) (seen mid tnew upn) happened (fault_reply f)) (sym is)
      (refused fault ready on stopped)

-- A call that changed nothing, and whose reply isn't that the flash stopped it.
pub idle_ends : (old mid : Chip) (told tnew : List (Option Upload)) (up upn : Bool) (reply : Reply)
    → cut_of reply ≡ 0 → is_stopped reply ≡ false → mid ≡ old
    → EndsCall reply (seen old told up) (seen mid tnew upn)
idle_ends old mid told tnew up upn reply uncut unstopped same =
    let cuts : mid.cuts ≡ old.cuts = ap (λ (chip : Chip). chip.cuts) same in
    record {
      cuts = omega (arith, cuts, uncut);
      power = λ e. ap (λ (chip : Chip). chip.is_on) same;
      dark = λ e. absurd (omega (arith, uncut, e));
      off = λ e. absurd (true≢false (sym e ∙ unstopped));
      down = λ e. absurd (true≢false (sym e ∙ unstopped));
      closed = λ e. absurd (true≢false (sym e ∙ unstopped));
    }

module _ (recorded : Option State) (old mid : Chip) (told tnew : List (Option Upload)) (up upn : Bool)
    (same : mid ≡ old) where
  refused_ends : (fault : Fault) → IsReadiness (Err fault) up recorded old.is_on → IsStopped fault told tnew up upn
      → EndsCall (fault_reply fault) (seen old told up) (seen mid tnew upn)
  refused_ends no.NotBooted is stopped = idle_ends old mid told tnew up upn (Refused no.NotBooted) refl refl same
  refused_ends no.OnTrial is stopped = idle_ends old mid told tnew up upn (Refused no.OnTrial) refl refl same
  refused_ends no.NotProvisioned is stopped =
      idle_ends old mid told tnew up upn (Refused no.NotProvisioned) refl refl same
  refused_ends (no.Flash flash.Off) is stopped =
      let cuts : mid.cuts ≡ old.cuts = ap (λ (chip : Chip). chip.cuts) same in
      record {
        cuts = omega (arith, cuts);
        power = λ e. ap (λ (chip : Chip). chip.is_on) same;
        dark = λ e. absurd (omega (arith, e));
        off = λ e more. is.1;
        down = λ e. stopped.down refl;
        closed = λ e. stopped.closed refl;
      }
  refused_ends (no.Flash flash.Cut) is stopped = absurd is
  refused_ends no.NotOnTrial is stopped = absurd is
  refused_ends (no.RunningDamaged image) is stopped = absurd is
  refused_ends no.InvalidSet is stopped = absurd is
  refused_ends no.NoMemory is stopped = absurd is
  refused_ends (no.Manifest error) is stopped = absurd is
  refused_ends (no.Upload error) is stopped = absurd is

  pub not_ready_ends : (given fault : Fault) → given ≡ fault → IsReadiness (Err fault) up recorded old.is_on
      → IsStopped fault told tnew up upn → EndsCall (fault_reply given) (seen old told up) (seen mid tnew upn)
  not_ready_ends given fault is ready stopped =
      subst (λ f. EndsCall (fault_reply f) (seen old told up) (seen mid tnew upn)) (sym is)
      (refused_ends fault ready stopped)
