-- Running images stay intact and valid after uploads, and so in complete runs.
use Rattle.std.proofs.Common.{◌≡◌, ◌⊎◌, ℕ, ◌==◌, Bool, true, false, List, [], ◌∷◌, Option, Some, None, Result, Ok, Err}
use Rattle.std.specs.Prelude.{is_some}
use Rattle.std.proofs.Common.{refl, sym, ◌∙◌, ap, subst, ⊎_elim, inl, inr, if◌then◌else◌}
use Rattle.machine.specs.declared.event.Event.TheVariants as event
use Rattle.flash_model.specs.declared.error.FlashError.TheVariants as flash
use Rattle.sector_map.specs.declared.layout.SectorMap.{SectorMap}
use Rattle.manifest.specs.declared.manifest.Component.{Component}
use Rattle.reports.specs.declared.table.Request.{Request}
use Rattle.reports.specs.declared.table.Request.TheVariants as request
use Rattle.machine.specs.declared.upload_error.UploadError.{UploadError}
use Rattle.machine.specs.declared.upload_error.UploadError.TheVariants as upload
use Rattle.machine.specs.Device.{DeviceState, Machine, Session, Wanted, closed}
use Rattle.machine.specs.Accepted.{Accepts, IsAcceptCut, accepted, latest}
use Rattle.machine.specs.Piece.{Pieces}
use Rattle.machine.specs.Finish.{Finishes, FinishRow, IsGoodUpload, asked}
use Rattle.machine.specs.Withdrawal.{Withdraws, with_request}
use Rattle.machine.specs.States.{asleep, entry_of, with_confirmed}
use Rattle.machine.specs.Boots.{Confirms, IsAllSound, IsRequestOf}
use Rattle.machine.specs.Intake.{IsUploadsCut, Row, Setup, TakesManifest, TakesText, Uploads}
use Rattle.machine.specs.Steps.{Completes, DeviceEvent, IsCutTo, IsRun, IsStep}
use Rattle.machine.specs.declared.error.Fault.TheVariants as no
use Rattle.machine.specs.declared.reply.Reply.{Reply}
use Rattle.machine.specs.declared.reply.Reply.TheVariants.{Done, Booted, Reverted, TrialAgain, Refused, Cut}
use Rattle.machine.proofs.SoundBoots.{IsAskedAlike, all_sound, boot_cut_sound, booted_sound}
use Rattle.machine.proofs.SoundBoots.{confirmed_sound, sound_alike}

-- ---- states that differ only in their requests

-- The same images run, and a table can have each new request.
pub record IsAlike (s t : DeviceState) : Type 0 where
  pub images : t.images ≡ s.images
  pub trial : t.trial ≡ s.trial
  pub running : (i : ℕ) → t.running i ≡ s.running i
  pub asks : (i : ℕ) → IsAskedAlike s t i

alike_refl : (s : DeviceState) → IsAlike s s
alike_refl s = record { images = refl; trial = refl; running = λ i. refl; asks = λ i. inl refl }

alike_same : (s t : DeviceState) → t ≡ s → IsAlike s t
alike_same s t is = subst (λ k. IsAlike s k) (sym is) (alike_refl s)

-- The state of the flash is unchanged.
kept_same : (m next other : Machine) → other.kept ≡ m.kept → next ≡ other → IsAlike m.kept next.kept
kept_same m next other kept is = alike_same m.kept next.kept (ap (λ (k : Machine). k.kept) is ∙ kept)

alike_sound : (s t : DeviceState) → IsAlike s t → s.trial ≡ None → IsAllSound s → IsAllSound t
alike_sound s t alike none all = all_sound t (alike.trial ∙ none)
    (sound_alike s t alike.images (λ i lt. alike.running i) alike.asks all.now)

-- Another request for one image.
alike_with : (s : DeviceState) (i : ℕ) (wanted : Option Wanted) → (fit : Request) × IsRequestOf wanted fit
    → IsAlike s (with_request s i wanted)
alike_with s i wanted fits = record {
  images = refl;
  trial = refl;
  running = λ j. refl;
  asks = λ j. at j (j == i);
} where
  at : (j : ℕ) (b : Bool) → ((if b then wanted else s.request j) ≡ s.request j)
      ⊎ ((fit : Request) × IsRequestOf (if b then wanted else s.request j) fit)
  at j true = inr fits
  at j false = inl refl

alike_asked : (m next : Machine) (i : ℕ) (wanted : Option Wanted) → (fit : Request) × IsRequestOf wanted fit
    → next.kept ≡ with_request m.kept i wanted → IsAlike m.kept next.kept
alike_asked m next i wanted fits is =
    subst (λ k. IsAlike m.kept k) (sym is) (alike_with m.kept i wanted fits)

-- ---- the rows of uploads

pieces_alike : (m next : Machine) (i : ℕ) (bytes : List ℕ) (result : Result Unit UploadError)
    → Pieces m i bytes result next → IsAlike m.kept next.kept
pieces_alike m next i bytes (Ok done) (session, opened, room, is) = kept_same m next _ refl is
pieces_alike m next i bytes (Err upload.NoSession) (none, is) = kept_same m next m refl is
pieces_alike m next i bytes (Err upload.TooMuch) (session, opened, more, is) = kept_same m next _ refl is
pieces_alike m next i bytes (Err (upload.Flash error)) (session, opened, room, none, is) =
    kept_same m next _ refl is
pieces_alike m next i bytes (Err other) never = absurd never

withdraws_alike : (m next : Machine) (i : ℕ) (result : Result Unit UploadError) → Withdraws m i result next
    → IsAlike m.kept next.kept
withdraws_alike m next i (Ok done) (stood, is) =
    alike_asked m next i None (request.None, refl) (ap (λ (k : Machine). k.kept) is)
withdraws_alike m next i (Err upload.NothingRequested) (none, is) = kept_same m next m refl is
withdraws_alike m next i (Err (upload.Flash flash.Cut)) (stood, either) = ⊎_elim
    (λ (is : next ≡ closed m m.kept). kept_same m next _ refl is)
    (λ (is : next ≡ closed m (with_request m.kept i None)).
    alike_asked m next i None (request.None, refl) (ap (λ (k : Machine). k.kept) is))
    either
withdraws_alike m next i (Err (upload.Flash flash.Off)) is = kept_same m next _ refl is
withdraws_alike m next i (Err other) never = absurd never

-- A table can have the request of a good upload.
good_fits : (session : Session) → IsGoodUpload session
    → (fit : Request) × IsRequestOf (Some (asked session)) fit
good_fits session good = (
  request.Entry (entry_of good.image.0),
  (good.image.0, good.image.1, refl),
)

finishes_alike : (m next : Machine) (i : ℕ) (session : Session) (result : Result Unit UploadError)
    → Finishes m i session result next → IsAlike m.kept next.kept
finishes_alike m next i session (Ok done) (good, is) =
    alike_asked m next i (Some (asked session)) (good_fits session good) (ap (λ (k : Machine). k.kept) is)
finishes_alike m next i session (Err upload.SizeWrong) (wrong, is) = kept_same m next _ refl is
finishes_alike m next i session (Err upload.DigestWrong) (size, wrong, is) = kept_same m next _ refl is
finishes_alike m next i session (Err (upload.NotAnImage fault)) (whole, first, is) = kept_same m next _ refl is
finishes_alike m next i session (Err (upload.Flash flash.Cut)) (size, none, either) = ⊎_elim
    (λ (is : next ≡ closed m m.kept). kept_same m next _ refl is)
    (λ (done : IsGoodUpload session × (next ≡ closed m (with_request m.kept i (Some (asked session))))).
    alike_asked m next i (Some (asked session)) (good_fits session done.0) (ap (λ (k : Machine). k.kept) done.1))
    either
finishes_alike m next i session (Err (upload.Flash flash.Off)) (size, none, is) = kept_same m next _ refl is
finishes_alike m next i session (Err other) never = absurd never

finish_alike : (m next : Machine) (i : ℕ) (result : Result Unit UploadError) → FinishRow m i result next
    → IsAlike m.kept next.kept
finish_alike m next i result row = ⊎_elim
    (λ (none : (m.session i ≡ None) × (result ≡ Err upload.NoSession) × (next ≡ m)). kept_same m next m refl none.2)
    (λ (opened : (session : Session) × (m.session i ≡ Some session) × Finishes m i session result next).
    finishes_alike m next i opened.0 result opened.2)
    row

named_asks : (named : Option Component) (wanted : Option Wanted)
    → ((if is_some named then None else wanted) ≡ wanted) ⊎ ((fit : Request) × IsRequestOf (if is_some named then None else wanted) fit)
named_asks None wanted = inl refl
named_asks (Some c) wanted = inr (request.None, refl)

accepted_alike : (m : Machine) (sequence : ℕ) (cs : List Component)
    → IsAlike m.kept (accepted m sequence cs).kept
accepted_alike m sequence cs = record {
  images = refl;
  trial = refl;
  running = λ i. refl;
  asks = λ i. named_asks (latest cs i) (m.kept.request i);
}

cut_alike : (s next : DeviceState) (sequence : ℕ) (cs : List Component) → IsAcceptCut s sequence cs next
    → IsAlike s next
cut_alike s next sequence cs cut = record {
  images = ap (λ (k : DeviceState). k.images) cut.rest;
  trial = ap (λ (k : DeviceState). k.trial) cut.rest;
  running = λ i. ap (λ (k : DeviceState). k.running i) cut.rest;
  asks = λ i. ⊎_elim
      (λ (old : (next.sequence ≡ s.sequence) × ((j : ℕ) → next.request j ≡ s.request j)). inl (old.1 i))
      (λ (new : (next.sequence ≡ sequence)
      × ((j : ℕ) → (next.request j ≡ s.request j) ⊎ (next.request j ≡ None))). ⊎_elim
      (λ (same : next.request i ≡ s.request i). inl same)
      (λ (gone : next.request i ≡ None).
      inr (request.None, subst (λ w. IsRequestOf w request.None) (sym gone) refl))
      (new.1 i))
      cut.either;
}

accepts_alike : (map : SectorMap) (m next : Machine) (sequence : ℕ) (cs : List Component)
    (result : Result Unit UploadError) → Accepts map m sequence cs result next → IsAlike m.kept next.kept
accepts_alike map m next sequence cs (Ok done) (may, is) = subst (λ (k : Machine). IsAlike m.kept k.kept) (sym is)
    (accepted_alike m sequence cs)
accepts_alike map m next sequence cs (Err upload.OldSequence) (old, is) = kept_same m next m refl is
accepts_alike map m next sequence cs (Err upload.TooBig) (newer, big, is) = kept_same m next m refl is
accepts_alike map m next sequence cs (Err upload.WrongPrecursor) (newer, fit, wrong, is) = kept_same m next m refl is
accepts_alike map m next sequence cs (Err (upload.Flash flash.Cut)) (may, cut, is) =
    cut_alike m.kept next.kept sequence cs cut
accepts_alike map m next sequence cs (Err (upload.Flash flash.Off)) is = kept_same m next _ refl is
accepts_alike map m next sequence cs (Err other) never = absurd never

manifest_alike : (setup : Setup) (m next : Machine) (bytes : List ℕ) (result : Result Unit UploadError)
    → TakesManifest setup m bytes result next → IsAlike m.kept next.kept
manifest_alike setup m next bytes result (manifest, means, accepts) =
    accepts_alike setup.map m next manifest.sequence manifest.components.items result accepts

-- ---- steps

same_sound : (m next : Machine) → next ≡ m → IsAllSound m.kept → IsAllSound next.kept
same_sound m next is all = subst (λ (k : Machine). IsAllSound k.kept) (sym is) all

uploads_sound : (row : Row) (m next : Machine) (reply : Reply)
    → ((result : Result Unit UploadError) → row result next → IsAlike m.kept next.kept) → Uploads row m reply next
    → IsAllSound m.kept → IsAllSound next.kept
uploads_sound row m next Done alike (is_ready, at) all =
    alike_sound m.kept next.kept (alike (Ok tt) at) is_ready.rest all
uploads_sound row m next (Refused no.NotBooted) alike (down, is) all = same_sound m next is all
uploads_sound row m next (Refused no.OnTrial) alike (up, trying, is) all = same_sound m next is all
uploads_sound row m next (Refused (no.Upload error)) alike (is_ready, none, at) all =
    alike_sound m.kept next.kept (alike (Err error) at) is_ready.rest all
uploads_sound row m next other alike never all = absurd never

text_sound : (setup : Setup) (m next : Machine) (bytes : List ℕ) (reply : Reply)
    → TakesText setup m bytes reply next → IsAllSound m.kept → IsAllSound next.kept
text_sound setup m next bytes Done at all = uploads_sound (TakesManifest setup m bytes) m next Done
    (λ result row. manifest_alike setup m next bytes result row) at all
text_sound setup m next bytes (Refused (no.Upload error)) at all = uploads_sound (TakesManifest setup m bytes) m next
    (Refused (no.Upload error)) (λ result row. manifest_alike setup m next bytes result row) at all
text_sound setup m next bytes (Refused (no.Manifest fault)) (is_ready, refused, is) all = same_sound m next is all
text_sound setup m next bytes (Refused no.NoMemory) (is_ready, is) all = same_sound m next is all
text_sound setup m next bytes (Refused no.NotBooted) (down, is) all = same_sound m next is all
text_sound setup m next bytes (Refused no.OnTrial) (up, trying, is) all = same_sound m next is all
text_sound setup m next bytes other never all = absurd never

confirms_sound : (m next : Machine) (i : ℕ) (reply : Reply) → Confirms m i reply next → IsAllSound m.kept
    → IsAllSound next.kept
confirms_sound m next i Done (up, (trial, on, is)) all = subst (λ (k : Machine). IsAllSound k.kept) (sym is)
    (confirmed_sound m.kept trial i on.0 all)
confirms_sound m next i (Refused no.NotBooted) (down, is) all = same_sound m next is all
confirms_sound m next i (Refused no.NotOnTrial) (up, other, is) all = same_sound m next is all
confirms_sound m next i other never all = absurd never

completes_sound : (setup : Setup) (m next : Machine) (happened : DeviceEvent) (reply : Reply)
    → Completes setup m happened reply next → IsAllSound m.kept → IsAllSound next.kept
completes_sound setup m next (event.Accept bytes) reply at all = text_sound setup m next bytes.now reply at all
completes_sound setup m next (event.Piece i bytes) reply at all = uploads_sound (Pieces m i bytes.now) m next reply
    (λ result row. pieces_alike m next i bytes.now result row) at all
completes_sound setup m next (event.Finish i) reply at all = uploads_sound (FinishRow m i) m next reply
    (λ result row. finish_alike m next i result row) at all
completes_sound setup m next (event.Withdraw i) reply at all = uploads_sound (Withdraws m i) m next reply
    (λ result row. withdraws_alike m next i result row) at all
completes_sound setup m next (event.Confirm i) reply at all = confirms_sound m next i reply at all
completes_sound setup m next event.Boot reply (booted, is) all =
    booted_sound setup.boots m.kept reply next.kept booted all
completes_sound setup m next event.Reset reply (done, is) all =
    subst (λ (k : Machine). IsAllSound k.kept) (sym is) all

-- ---- steps with a power cut

uploads_cut_sound : (row : Row) (m next : Machine)
    → ((mid : Machine) (result : Result Unit UploadError) → row result mid → IsAlike m.kept mid.kept)
    → IsUploadsCut row m next → IsAllSound m.kept → IsAllSound next.kept
uploads_cut_sound row m next alike (is_ready, (mid, at, is)) all =
    subst (λ (k : Machine). IsAllSound k.kept) (sym is)
    (alike_sound m.kept mid.kept (alike mid (Err (upload.Flash flash.Cut)) at) is_ready.rest all)

cut_sound : (setup : Setup) (m next : Machine) (happened : DeviceEvent) → IsCutTo setup m happened next
    → IsAllSound m.kept → IsAllSound next.kept
cut_sound setup m next (event.Accept bytes) cut all = uploads_cut_sound (TakesManifest setup m bytes.now) m next
    (λ mid result row. manifest_alike setup m mid bytes.now result row) cut all
cut_sound setup m next (event.Piece i bytes) cut all = uploads_cut_sound (Pieces m i bytes.now) m next
    (λ mid result row. pieces_alike m mid i bytes.now result row) cut all
cut_sound setup m next (event.Finish i) cut all = uploads_cut_sound (FinishRow m i) m next
    (λ mid result row. finish_alike m mid i result row) cut all
cut_sound setup m next (event.Withdraw i) cut all = uploads_cut_sound (Withdraws m i) m next
    (λ mid result row. withdraws_alike m mid i result row) cut all
cut_sound setup m next (event.Confirm i) (up, (trial, on, either)) all = ⊎_elim
    (λ (is : next ≡ asleep m.kept). subst (λ (k : Machine). IsAllSound k.kept) (sym is) all)
    (λ (is : next ≡ asleep (with_confirmed m.kept trial i)). subst (λ (k : Machine). IsAllSound k.kept) (sym is)
    (confirmed_sound m.kept trial i on.0 all))
    either
cut_sound setup m next event.Boot (cut, is) all = boot_cut_sound setup.boots m.kept next.kept cut all
cut_sound setup m next event.Reset never all = absurd never

-- ---- runs

step_sound : (setup : Setup) (m next : Machine) (happened : DeviceEvent) (reply : Reply)
    → IsStep setup m happened reply next → IsAllSound m.kept → IsAllSound next.kept
step_sound setup m next happened Done step all = completes_sound setup m next happened Done step all
step_sound setup m next happened (Booted table report permanent) step all =
    completes_sound setup m next happened (Booted table report permanent) step all
step_sound setup m next happened (Reverted mask) step all =
    completes_sound setup m next happened (Reverted mask) step all
step_sound setup m next happened (TrialAgain set left) step all =
    completes_sound setup m next happened (TrialAgain set left) step all
step_sound setup m next happened (Refused fault) step all =
    completes_sound setup m next happened (Refused fault) step all
step_sound setup m next happened Cut step all = cut_sound setup m next happened step all

pub run_sound : (setup : Setup) (m last : Machine) (events : List DeviceEvent) (replies : List Reply)
    → IsRun setup m events replies last → IsAllSound m.kept → IsAllSound last.kept
run_sound setup m last [] [] run all = same_sound m last run all
run_sound setup m last [] (r ∷ replies) run all = absurd run
run_sound setup m last (e ∷ events) [] run all = absurd run
run_sound setup m last (e ∷ events) (r ∷ replies) (next, step, run) all =
    run_sound setup next last events replies run (step_sound setup m next e r step all)
