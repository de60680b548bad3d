-- What is written if finishing an upload is refused.
use Rattle.std.proofs.Common.{◌≡◌, ◌+◌, ◌-◌, ℕ, List, length, Option, Some, Ok, Err, Result, sym, ◌∙◌, subst}
use Rattle.std.specs.Prelude.{IsErrOf}
use Rattle.flash_model.specs.Chip.{Chip, SameOutside}
use Rattle.flash_model.specs.declared.error.FlashError.{FlashError}
use Rattle.sector_map.specs.declared.layout.SectorMap.{SectorMap}
use Rattle.sector_map.specs.declared.layout.Side.TheVariants.{Secondary}
use Rattle.sector_map.specs.Part.{Slot, only}
use Rattle.sector_map.specs.Map.{Keeps, start_of}
use Rattle.machine.specs.declared.upload_error.UploadError.{UploadError}
use Rattle.machine.specs.declared.upload_error.UploadError.TheVariants as no
use Rattle.upload.specs.declared.sessions.Upload.{Upload}
use Rattle.upload.specs.View.{View}
use Rattle.upload.specs.Sessions.{IsOpenAt, IsUploadAt, session_of}
use Rattle.upload.specs.Finish.{EndsFinish, Judges}
use Rattle.upload.specs.Finishing.{RefusesFinish, WritesLastUnit}
use Rattle.upload.specs.Slots.{Appends}
use Rattle.upload.proofs.Ends.{not_no_session, not_size}
use Rattle.std.proofs.lemmas.Option.{same_Some}
use Rattle.std.proofs.Common.{true≢false}
use Rattle.flash_model.proofs.Ending.{no_error}

module _ (map : SectorMap) (image : ℕ) (old new : Chip) where
  -- The call failed at the flash.
  pub stopped_finish : (upload : Option Upload) (error : FlashError)
      → RefusesFinish map image upload old new (Err (no.Flash error))
  stopped_finish upload error = record {
    no_session = λ is. absurd (not_no_session error is);
    size = λ is. absurd (not_size error is);
    slot = λ plain. absurd (true≢false plain);
    unit = λ plain. absurd (true≢false plain);
    erases = λ plain. absurd (true≢false plain);
  }

  -- The call succeeded.
  pub done_finish : (upload : Option Upload) → RefusesFinish map image upload old new (Ok tt)
  done_finish upload = record {
    no_session = λ is. absurd (no_error tt no.NoSession is);
    size = λ is. absurd (no_error tt no.SizeWrong is);
    slot = tt;
    unit = tt;
    erases = tt;
  }

  -- The slot was checked after the last unit was written.
  pub judged_finish : (u : Upload) (error : UploadError) (bytes digest : List ℕ)
      → Judges bytes digest (Err error) → Keeps map (only (Slot image Secondary)) old new
      → WritesLastUnit map image u old new → new.erases ≡ old.erases
      → RefusesFinish map image (Some u) old new (Err error)
  judged_finish u error bytes digest judges slot unit erases = record {
    no_session = λ is. absurd (subst (λ (r : Result Unit UploadError). Judges bytes digest r) is judges);
    size = λ is. absurd (subst (λ (r : Result Unit UploadError). Judges bytes digest r) is judges);
    slot = λ plain. slot;
    unit = λ plain v is. subst (λ (x : Upload). WritesLastUnit map image x old new) (same_Some u v is) unit;
    erases = λ plain. erases;
  }

-- The last unit lies where the held bytes begin.
pub last_unit : {T : Type 0} (map : SectorMap) (image held : ℕ) (u : Upload) (old mid new : Chip)
    (result : Result T FlashError) → held ≡ length u.held.items → new ≡ mid
    → Appends map image (u.received - held) u.held.items 8 old mid result → WritesLastUnit map image u old new
last_unit map image held u old mid new result long same wrote = record {
  unit = subst (λ (chip : Chip). SameOutside (start_of map (Slot image Secondary)
      + (u.received - length u.held.items)) 8 old chip) (sym same)
      (subst (λ n. SameOutside (start_of map (Slot image Secondary) + (u.received - n)) 8 old mid) long wrote.range);
  none = λ none. same ∙ wrote.none none;
}

-- A call on an open upload doesn't return `NoSession`.
pub some_refusal : (old new : View) (image : ℕ) (u : Upload) (result : Result Unit UploadError)
    → IsOpenAt old image u
    → ((written : List ℕ) → IsUploadAt old image u written → EndsFinish new image (session_of u written) result)
    → IsErrOf result no.NoSession → ⊥
some_refusal old new image u result (written, was) ends is =
    subst (λ (r : Result Unit UploadError). EndsFinish new image (session_of u written) r) is (ends written was)
