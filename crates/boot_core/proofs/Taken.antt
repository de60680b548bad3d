-- Lemmas for a call of `Uploads` on a device that takes uploads: its result is passed on.
use Rattle.std.proofs.Common.{◌≡◌, ◌+◌, ◌≤◌, ℕ, Bool, true, false, List, Option, Result, Ok, Err, IfErr, refl, sym, ap, subst}
use Rattle.std.specs.Borrow.{Bor}
use Rattle.machine.specs.declared.event.Event.TheVariants as event
use Rattle.flash_model.proofs.Ending.{no_error}
use Rattle.flash_model.specs.Chip.{Chip}
use Rattle.flash_model.specs.declared.error.FlashError.TheVariants as flash
use Rattle.sector_map.specs.declared.layout.SectorMap.{SectorMap}
use Rattle.sector_map.specs.Map.{IsLaidOut, Keeps}
use Rattle.sector_map.specs.Part.{Part}
use Rattle.sector_map.proofs.Parts.{laid_out_kept}
use Rattle.set_log.specs.Log.{state_of}
use Rattle.machine.specs.Device.{Machine}
use Rattle.upload.specs.Ending.{EndsUpload}
use Rattle.machine.specs.Intake.{is_flash, Row, Setup, Uploads}
use Rattle.machine.specs.Finish.{FinishRow}
use Rattle.machine.specs.Piece.{Pieces}
use Rattle.machine.specs.Withdrawal.{Withdraws}
use Rattle.upload.specs.Sessions.{AllClosed, AllOpenAt}
use Rattle.upload.specs.View.{view}
use Rattle.upload.specs.declared.sessions.Upload.{Upload}
use Rattle.machine.specs.declared.upload_error.UploadError.{UploadError}
use Rattle.machine.specs.declared.upload_error.UploadError.TheVariants as upload
use Rattle.flash_contents.specs.Holding.{DeviceView}
use Rattle.flash_contents.specs.Passing.{StepsTo, upload_reply}
use Rattle.machine.specs.Steps.{Completes, DeviceEvent}
use Rattle.machine.specs.declared.error.Fault.{Fault}
use Rattle.machine.specs.declared.error.Fault.TheVariants as no
use Rattle.machine.specs.declared.reply.Reply.{Reply}
use Rattle.machine.specs.declared.reply.Reply.TheVariants.{Cut, Done, Refused}
use Rattle.flash_contents.proofs.Uploading.{TakesRow, row_steps, upload_refused}
use Rattle.boot_core.specs.Answers.{IsOff, is_stop, keeps_all, may_close}
use Rattle.boot_core.specs.Device.{made, seen}
use Rattle.boot_core.specs.Ready.{LogsRest}
use Rattle.boot_core.specs.Taking.{AsksReady, PassesOn, RefusesByLog, TakesCall, TakesHere, journal_of}
use Rattle.boot_core.proofs.Given.{rest_refuses}
use Rattle.boot_core.proofs.Keeping.{all_stays, keeps_unstopped, up_stays}
use Rattle.boot_core.proofs.NotReady.{not_down, refused_after, stops}
use Rattle.boot_core.proofs.Stopping.{done_ends, failed, failed_ends, finish_down, not_tried, opens_stopped, piece_down, withdraw_down}

-- A device takes uploads: it is booted, and its log has a state in which no set is on trial.
abbrev pub IsReadyAt : SectorMap → DeviceView → Type 0
IsReadyAt map at = (at.up ≡ true) × LogsRest (state_of map at.flash)

module _ (map : SectorMap) (before after : DeviceView) (ready : AsksReady map before after (Ok tt)) where
  pub ready_now : IsReadyAt map after
  ready_now = subst (IsReadyAt map) (sym ready.taken) ready.asked.ready

  -- The check changed nothing.
  pub laid_now : IsLaidOut map before.flash → IsLaidOut map after.flash
  laid_now laid = subst (λ (at : DeviceView). IsLaidOut map at.flash) (sym ready.taken) laid

  pub opens_now : AllOpenAt (view map before.flash) before.sessions → AllOpenAt (view map after.flash) after.sessions
  opens_now opens =
      subst (λ (at : DeviceView). AllOpenAt (view map at.flash) at.sessions) (sym ready.taken) opens

  -- The flash has power.
  not_off : after.up ≡ true → after.flash.is_on ≡ false → ⊥
  not_off = subst (λ (at : DeviceView). at.up ≡ true → at.flash.is_on ≡ false → ⊥) (sym ready.taken)
      (λ up off. no_error tt _ (ready.asked.off up off))

-- An event of uploads: a call that does what its row says is a step of a machine that takes
-- uploads.
pub record IsUploadEvent (happened : DeviceEvent) (row : Machine → Row) : Type 0 where
  pub own : (setup : Setup) (old new : Chip) (told tnew : List (Option Upload)) (up : Bool)
      → IsReadyAt setup.map (seen old told up) → (taken : Result Unit UploadError) (reply : Reply)
      → reply ≡ upload_reply taken → is_flash taken ≡ false → TakesRow setup.map old new told tnew row taken
      → StepsTo setup (seen old told up) (seen new tnew up) happened reply
  pub cut : (setup : Setup) (old new : Chip) (told tmid tnew : List (Option Upload)) (up : Bool)
      → IsReadyAt setup.map (seen old told up) → (taken : Result Unit UploadError) → AllClosed tnew
      → taken ≡ Err (upload.Flash flash.Cut) → TakesRow setup.map old new told tmid row taken
      → StepsTo setup (seen old told up) (seen new tnew false) happened Cut

module _ (happened : DeviceEvent) (row : Machine → Row)
    (completes : (setup : Setup) (m next : Machine) (reply : Reply) → Uploads (row m) m reply next
    → Completes setup m happened reply next) where
  own_step : (setup : Setup) (old new : Chip) (told tnew : List (Option Upload)) (up : Bool)
      → IsReadyAt setup.map (seen old told up) → (taken : Result Unit UploadError) (reply : Reply)
      → reply ≡ upload_reply taken → is_flash taken ≡ false → TakesRow setup.map old new told tnew row taken
      → StepsTo setup (seen old told up) (seen new tnew up) happened reply
  own_step setup old new told tnew up ready taken reply is none =
      row_steps setup old told up ready.1.0 ready.0 ready.1.1 (not_tried _ ready.1.2) new tnew row happened taken reply is none
      (λ m next. completes setup m next (upload_reply taken))

pub piece_event : (i : ℕ) (more : Bor (List ℕ)) → IsUploadEvent (event.Piece i more) (λ m. Pieces m i more.now)
piece_event i more = record {
  own = own_step (event.Piece i more) (λ m. Pieces m i more.now) (λ setup m next reply done. done);
  cut = λ setup old new told tmid tnew up ready taken none cut row.
      piece_down setup old new told tnew up ready.0 none ready.1.0 tmid taken ready.1.1 (not_tried _ ready.1.2) cut i more row;
}

pub finish_event : (i : ℕ) → IsUploadEvent (event.Finish i) (λ m. FinishRow m i)
finish_event i = record {
  own = own_step (event.Finish i) (λ m. FinishRow m i) (λ setup m next reply done. done);
  cut = λ setup old new told tmid tnew up ready taken none cut row.
      finish_down setup old new told tnew up ready.0 none ready.1.0 tmid taken ready.1.1 (not_tried _ ready.1.2) cut i row;
}

pub withdraw_event : (i : ℕ) → IsUploadEvent (event.Withdraw i) (λ m. Withdraws m i)
withdraw_event i = record {
  own = own_step (event.Withdraw i) (λ m. Withdraws m i) (λ setup m next reply done. done);
  cut = λ setup old new told tmid tnew up ready taken none cut row.
      withdraw_down setup old new told tnew up ready.0 none ready.1.0 tmid taken ready.1.1 (not_tried _ ready.1.2) cut i row;
}

-- What a call of `Uploads` did.
pub record IsTaken (map : SectorMap) (happened : DeviceEvent) (touched : Part → Bool) (old new : Chip)
    (told tmid : List (Option Upload)) (Takes : Machine → Row) (taken : Result Unit UploadError) : Type 0 where
  pub outside : Keeps map touched old new
  pub opens : AllOpenAt (view map old) told → AllOpenAt (view map new) tmid
  pub ends : EndsUpload taken old new
  pub kept : IfErr taken (λ error. keeps_all (may_close happened) (no.Upload error) ≡ true
      → (new ≡ old) × (tmid ≡ told))
  pub journal : new.journaled ≤ old.journaled + journal_of happened
  pub row : TakesRow map old new told tmid Takes taken

module _ (map : SectorMap) (happened : DeviceEvent) (touched : Part → Bool) (before : DeviceView) (old new : Chip)
    (told tmid tnew : List (Option Upload)) (up upn : Bool) (row : Machine → Row)
    (is : IsUploadEvent happened row) (laid : IsLaidOut map before.flash)
    (ready : AsksReady map before (seen old told up) (Ok tt)) where
  now : IsReadyAt map (seen old told up)
  now = ready_now map before (seen old told up) ready

  laid_new : Keeps map touched old new → IsLaidOut map new
  laid_new keeps = laid_out_kept map touched old new (laid_now map before (seen old told up) ready laid) keeps

  never_off : (result : Result Unit Fault) → up ≡ true → old.is_on ≡ false → IsOff result old new
  never_off result awake off = absurd (not_off map before (seen old told up) ready awake off)

  never_unready : (new : DeviceView) (result : Result Unit Fault)
      → RefusesByLog map (seen old told up) new result
  never_unready new result awake powered why refuses = absurd (rest_refuses _ why now.1 refuses)

  by_result : (taken : Result Unit UploadError) (result : Result Unit Fault)
      → IsTaken map happened touched old new told tmid row taken → PassesOn taken tmid up tnew upn result
      → TakesCall map happened touched (seen old told up) (seen new tnew upn) result
  by_result (Ok done) (Ok passed) call (same, awake) =
      let after : seen new tmid up ≡ seen new tnew upn = cc in
      subst (λ at. TakesCall map happened touched (seen old told up) at (Ok passed)) after (record {
        here = record {
          laid = laid_new call.outside;
          opens = call.opens;
          steps = λ identity boots on.
              is.own (made map identity boots) old new told tmid up now (Ok tt) Done refl refl call.row;
          outside = call.outside;
          down = not_down (Ok passed) (seen old told up) (seen new tmid up) now.0;
          off = never_off (Ok passed);
          journal = call.journal;
          ends = done_ends old old new told tmid up refl call.ends;
        };
        unready = never_unready (seen new tmid up) (Ok passed);
        up = tt;
        kept = tt;
      })
  by_result (Ok done) (Err fault) call passed = absurd passed
  by_result (Err error) (Ok done) call passed = absurd passed
  by_result (Err error) (Err fault) call passed =
      let stopped = stops (no.Upload error) fault tmid tnew up upn passed in
      record {
        here = record {
          laid = laid_new call.outside;
          opens = λ opens. opens_stopped (view map new) (no.Upload error) tmid tnew up upn stopped
              (call.opens opens);
          steps = λ identity boots on. failed (made map identity boots) old new told tmid tnew up upn happened error on
              call.ends stopped
              (λ none cut. is.cut (made map identity boots) old new told tmid tnew up now (Err error) none
              (ap (λ e. Err e) cut) call.row)
              (λ own. is.own (made map identity boots) old new told tmid up now (Err error) (Refused (no.Upload error))
              (upload_refused error own) own call.row)
              fault passed.is;
          outside = call.outside;
          down = not_down (Err fault) (seen old told up) (seen new tnew upn) now.0;
          off = never_off (Err fault);
          journal = call.journal;
          ends = failed_ends old old new told tmid tnew up upn error refl call.ends stopped fault passed.is;
        };
        unready = never_unready (seen new tnew upn) (Err fault);
        up = up_stays old new new told tmid tnew up upn (no.Upload error) fault passed.is stopped;
        kept = λ keeps.
            let own = subst (λ f. keeps_all (may_close happened) f ≡ true) passed.is keeps in
            let (same, table) = call.kept own in
            all_stays old new new told tmid tnew up upn (no.Upload error) fault passed.is stopped same table
            (keeps_unstopped (may_close happened) fault keeps);
      }

  pub takes_call : (taken : Result Unit UploadError) (result : Result Unit Fault)
      → IsTaken map happened touched old new told tmid row taken → PassesOn taken tmid up tnew upn result
      → TakesCall map happened touched before (seen new tnew upn) result
  takes_call taken result call passed =
      subst (λ at. TakesCall map happened touched at (seen new tnew upn) result) ready.taken
      (by_result taken result call passed)

  -- A refusal that isn't the flash's leaves the flash as it was.
  nothing_after : (taken : Result Unit UploadError) (result : Result Unit Fault)
      → IfErr taken (λ error. is_flash {T = Unit} (Err error) ≡ false → new ≡ old)
      → PassesOn taken tmid up tnew upn result → IfErr result (λ fault. is_stop fault ≡ false → new ≡ before.flash)
  nothing_after (Ok done) (Ok passed) nothing is = tt
  nothing_after (Ok done) (Err fault) nothing passed = absurd passed
  nothing_after (Err error) (Ok done) nothing passed = absurd passed
  nothing_after (Err error) (Err fault) nothing passed =
      refused_after before.flash old new error fault passed.is ready.asked.same nothing

  pub takes_here : (taken : Result Unit UploadError) (result : Result Unit Fault)
      → IsTaken map happened touched old new told tmid row taken
      → IfErr taken (λ error. is_flash {T = Unit} (Err error) ≡ false → new ≡ old)
      → PassesOn taken tmid up tnew upn result → TakesHere map happened touched before (seen new tnew upn) result
  takes_here taken result call nothing passed = record {
    call = takes_call taken result call passed;
    refused = nothing_after taken result nothing passed;
  }
