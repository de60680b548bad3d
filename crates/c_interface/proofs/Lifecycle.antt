-- What the calls of C promise, in terms of the machine.
use Rattle.std.proofs.Common.{◌≡◌, ◌≤◌, ℕ, List, [], false, Result, Ok, Err, OnOk, ap, refl, sym, arith, inl, inr, ◌∙◌}
use Rattle.std.proofs.lemmas.Bool.{true≢false}
use Rattle.flash_model.specs.Chip.{Chip}
use Rattle.flash_model.specs.declared.error.FlashError.TheVariants as flash
use Rattle.upload.specs.Sessions.{AllClosed}
use Rattle.machine.specs.declared.upload_error.UploadError.TheVariants as upload
use Rattle.machine.specs.declared.error.Fault.{Fault}
use Rattle.machine.specs.declared.error.Fault.TheVariants as no
use Rattle.machine.specs.declared.reply.Reply.{Reply}
use Rattle.boot_core.specs.Answers.{fault_reply, reply_of_result}
use Rattle.boot_core.specs.Device.{seen}
use Rattle.boot_core.proofs.Stopping.{holds_down}
use Rattle.c_interface.specs.declared.call_result.CallResult.{CallResult}
use Rattle.c_interface.specs.declared.cuts.CutRow.{CutRow}
use Rattle.c_interface.specs.DeviceCall.{Boot}
use Rattle.c_interface.specs.declared.saved_state.SavedState.{SavedState}
use Rattle.c_interface.specs.declared.setup.CheckedSetup.{CheckedSetup}
use Rattle.c_interface.specs.declared.setup.Setup.{Setup}
use Rattle.c_interface.specs.Answers.{Answers, Replied, NotCalled}
use Rattle.c_interface.specs.CallResult.{number_of}
use Rattle.c_interface.specs.Calls.{IsRefusedBefore, StepsBetween}
use Rattle.c_interface.specs.Lifecycle.{HoldsFirstIn, IsBoot}
use Rattle.c_interface.specs.Numbers.{DONE, NO_MAP}
use Rattle.c_interface.specs.Provisioning.{AnswersProvision, ProvisionsBetween}
use Rattle.c_interface.specs.Provisioning as provisioning
use Rattle.c_interface.specs.SavedState as saved
use Rattle.c_interface.specs.Recording.{AnswersProvisionRecorded, AnswersRecorded}
use Rattle.c_interface.specs.Recording as recording
use Rattle.c_interface.specs.Setup.{IsCheckedSetup, IsRefusedSetup, NoMap, NoTrial, NoFlash}

not_called : (setup : Setup) (bytes : List ℕ) (number : ℕ) → IsRefusedSetup setup bytes number → NO_MAP ≤ number
not_called setup bytes number (NoMap is none) = omega (arith, is)
not_called setup bytes number (NoTrial is map made none) = omega (arith, is)
not_called setup bytes number (NoFlash is map made trial none) = omega (arith, is)

no_call : (setup : Setup) (cuts : List CutRow) (bytes : List ℕ) (number : ℕ)
    → IsRefusedBefore setup cuts bytes number → NO_MAP ≤ number
no_call setup cuts bytes number (inl refused) = not_called setup bytes number refused
no_call setup cuts bytes number (inr many) = omega (arith, many.number_is)

-- A boot between two states of a flash, over any kind of flash.
pub boots_in : (setup : Setup) (checked : CheckedSetup) (old new : List ℕ) (was is : SavedState) (reply : Reply)
    (number : ℕ) (first last : Chip) → IsCheckedSetup setup old checked → number ≡ number_of reply
    → StepsBetween checked Boot old was new is reply first last → IsBoot setup old was new is number
boots_in setup checked old new was is reply number first last is_checked at calls = inl (record {
  checked = checked;
  is_checked = is_checked;
  reply = reply;
  number_is = at;
  steps = λ m held.
      let next = calls.each (λ piece. absurd (true≢false (sym piece))) held.device held.is_device in
      let step = next.2 m held.holds in
      (step.0, step.1, record { device = next.0; is_device = next.1; holds = step.2 });
})

pub boot_in : {says : Reply → Type 0} (setup : Setup) (cuts : List CutRow) (old new : List ℕ) (was is : SavedState)
    (call_result : CallResult) (number : ℕ) → Answers setup cuts Boot old was new is call_result says number
    → IsBoot setup old was new is number
boot_in setup cuts old new was is call_result number (Replied reply calls of none told at) =
    boots_in setup calls.checked old new was is reply number calls.steps.first calls.steps.last calls.is_checked at calls.steps.steps
boot_in setup cuts old new was is call_result number (NotCalled refused bytes kept result) = inr (record {
  number_is = no_call setup cuts old number refused;
  bytes = bytes;
  saved = kept;
})

-- a refusal has another number than DONE
not_done : (fault : Fault) → number_of (fault_reply fault) ≡ DONE → ⊥
not_done no.NotBooted e = omega (arith, e)
not_done no.OnTrial e = omega (arith, e)
not_done no.NotOnTrial e = omega (arith, e)
not_done no.NotProvisioned e = omega (arith, e)
not_done (no.RunningDamaged image) e = omega (arith, e)
not_done no.InvalidSet e = omega (arith, e)
not_done (no.Flash flash.Cut) e = omega (arith, e)
not_done (no.Flash flash.Off) e = omega (arith, e)
not_done no.NoMemory e = omega (arith, e)
not_done (no.Manifest error) e = omega (arith, e)
not_done (no.Upload upload.OldSequence) e = omega (arith, e)
not_done (no.Upload upload.TooBig) e = omega (arith, e)
not_done (no.Upload upload.NoSession) e = omega (arith, e)
not_done (no.Upload upload.TooMuch) e = omega (arith, e)
not_done (no.Upload upload.SizeWrong) e = omega (arith, e)
not_done (no.Upload upload.DigestWrong) e = omega (arith, e)
not_done (no.Upload (upload.NotAnImage fault)) e = omega (arith, e)
not_done (no.Upload upload.WrongPrecursor) e = omega (arith, e)
not_done (no.Upload upload.NothingRequested) e = omega (arith, e)
not_done (no.Upload (upload.Flash flash.Cut)) e = omega (arith, e)
not_done (no.Upload (upload.Flash flash.Off)) e = omega (arith, e)
not_done (no.Upload upload.NoMemory) e = omega (arith, e)

done_ok : {P : Type 0} (result : Result Unit Fault) → number_of (reply_of_result result) ≡ DONE → OnOk result P → P
done_ok (Ok done) number p = p
done_ok (Err fault) number p = absurd (not_done fault number)

-- Provisioning between two states of a flash, over any kind of flash.
pub first_between : (setup : Setup) (checked : CheckedSetup) (old new : List ℕ) (reply : Reply) (before after : Chip)
    → IsCheckedSetup setup old checked → ProvisionsBetween checked.map old new reply before after → number_of reply ≡ DONE
    → HoldsFirstIn setup old new
first_between setup checked old new reply before after is_checked on done =
    let number_of_it = ap number_of (sym on.replies) ∙ done in
    let first = done_ok on.result number_of_it on.stands in
    let uncut = done_ok on.result number_of_it on.provisions.ends.uncut in
    let none : AllClosed [] = λ j. refl in
    let flash : saved.IsFlashOf checked.map new after = record {
      laid_out = on.provisions.laid;
      has = on.is_after;
      on = uncut.on ∙ on.is_before.on;
    } in
    record {
      checked = checked;
      is_checked = is_checked;
      before = before;
      is_before = on.is_before.has;
      state = first.0;
      first = first.1;
      holds = record {
        device = seen after [] false;
        is_device = record {
          flash = flash;
          saved = saved.NotBooted refl none (λ sessions booted. absurd (omega (arith, booted.booted)));
        };
        holds = holds_down checked.map after [] first.0 none (first.2 after flash);
      };
    }

pub first_in : (setup : Setup) (cuts : List CutRow) (old new : List ℕ) (call_result : CallResult) (number : ℕ)
    → AnswersProvision setup cuts old new call_result number → number ≡ DONE → HoldsFirstIn setup old new
first_in setup cuts old new call_result number (provisioning.Replied checked reply is_checked few on of none at) done =
    first_between setup checked old new reply on.before on.after is_checked on.between (sym at ∙ done)
first_in setup cuts old new call_result number (provisioning.NotCalled refused same result) done =
    absurd (omega (arith, no_call setup cuts old number refused, done))

-- ---- the same with a journal

pub boot_recorded : {says : Reply → Type 0} (setup : Setup) (old new before after : List ℕ) (was is : SavedState)
    (call_result : CallResult) (number : ℕ)
    → AnswersRecorded setup Boot old was new is before after call_result says number → IsBoot setup old was new is number
boot_recorded setup old new before after was is call_result number (recording.Replied reply calls of told at) =
    boots_in setup calls.checked old new was is reply number calls.steps.first calls.steps.last calls.is_checked at calls.steps.steps
boot_recorded setup old new before after was is call_result number (recording.NotCalled refused bytes kept journal result) =
    inr (record { number_is = not_called setup old number refused; bytes = bytes; saved = kept })

pub first_recorded : (setup : Setup) (old new before after : List ℕ) (call_result : CallResult) (number : ℕ)
    → AnswersProvisionRecorded setup old new before after call_result number → number ≡ DONE → HoldsFirstIn setup old new
first_recorded setup old new before after call_result number (recording.Provisioned reply on of at) done =
    first_between setup on.checked old new reply on.provisions.first on.provisions.last on.is_checked on.provisions.between
    (sym at ∙ done)
first_recorded setup old new before after call_result number (recording.NotProvisioned refused same journal result) done =
    absurd (omega (arith, not_called setup old number refused, done))
