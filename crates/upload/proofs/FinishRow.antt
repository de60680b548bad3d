-- Finishing an upload is a step of the machine.
use Rattle.std.proofs.Common.{◌≡◌, ℕ, ◌<◌, ◌==◌, Bool, true, false, List, replicate, Option, Some, None, Result, Ok, Err, refl, sym, ◌∙◌, ap, subst, ⊎_elim, inl, inr, if◌then◌else◌}
use Rattle.std.proofs.lemmas.Bool.{eq-eqb}
use Rattle.std.proofs.lemmas.Option.{none-some}
use Rattle.flash_model.specs.declared.error.FlashError.TheVariants as flash
use Rattle.sector_map.specs.declared.layout.Side.TheVariants.{Secondary}
use Rattle.sector_map.specs.Part.{incoming_of}
use Rattle.common.specs.declared.kind.Kind.{Kind}
use Rattle.common.specs.declared.kind.Kind.TheVariants.{Test, Permanent}
use Rattle.trailer.specs.Fields.{erased_fields, trailer_of}
use Rattle.trailer.specs.Standing.{is_permanent, requested_fields, standing_kind}
use Rattle.common.specs.Kind.{kind_of}
use Rattle.upload.specs.View.{View, KeepsView}
use Rattle.machine.specs.Device.{Machine, Session, Wanted, closed}
use Rattle.common.specs.Bytes.{Starts}
use Rattle.upload.specs.Steady.{IsFront, IsRequested, IsSteadyAt, told_by, request_in}
use Rattle.machine.specs.Finish.{IsImage, Finishes, FinishRow, asked}
use Rattle.upload.specs.Sessions.{upload_at, AllOpenAt, IsWith, IsUploadAt, session_of, HasSessions, IsUpAt}
use Rattle.upload.specs.Ending.{IsClosedAfter}
use Rattle.machine.specs.Intake.{is_flash}
use Rattle.machine.specs.Piece.{with_session}
use Rattle.machine.specs.Withdrawal.{with_request}
use Rattle.upload.specs.Finish.{EndsFinish, IsFinishedAt}
use Rattle.upload.specs.declared.sessions.Upload.{Upload}
use Rattle.machine.specs.declared.upload_error.UploadError.{UploadError}
use Rattle.machine.specs.declared.upload_error.UploadError.TheVariants as no
use Rattle.upload.proofs.Images.{image_is_set}
use Rattle.upload.proofs.OpenOnes.{open_none, open_nothing, open_to}
use Rattle.upload.proofs.Frames.{others_kept, steady_to, steady_unasked, erased_stands, sessions_to, closed_up, not_asked}
use Rattle.upload.proofs.PieceRow.{session_here}

kind_back : (k : Kind) → kind_of (is_permanent k) ≡ k
kind_back Test = refl
kind_back Permanent = refl

some_wanted : (a b : Wanted) → Some a ≡ Some b → a ≡ b
some_wanted a b e = cc

some_bytes : (a b : List ℕ) → Some a ≡ Some b → a ≡ b
some_bytes a b e = cc

-- The request of a finished upload.
pub asks : (w : View) (i : ℕ) (s : Session) → IsFinishedAt w i s
    → IsRequested (w.trailer i Secondary) (w.slot i Secondary) (Some (asked s))
asks w i s fin =
    let starts : Starts (w.slot i Secondary) s.received = (replicate fin.slot.left 0xff, fin.slot.is) in
    let set = image_is_set (w.slot i Secondary) s.received fin.good.image.0 starts fin.good.image.1 in
    record {
      kind = ap (λ t. told_by t (w.slot i Secondary)) fin.trailer
          ∙ ap (λ b. standing_kind (trailer_of (requested_fields s.kind)) b) set ∙ ap (λ k. Some k)
          (kind_back s.kind);
      front = λ wanted is. subst (λ (x : Wanted). IsFront (w.slot i Secondary) x.bytes)
          (some_wanted (asked s) wanted is) (record {
            image = λ bytes e. subst (λ l. Starts (w.slot i Secondary) l
                × IsImage l) (some_bytes s.received bytes e) (starts, fin.good.image);
            none = λ e. absurd (none-some s.received (sym e));
          });
    }

module _ (i : ℕ) (old new : View) (keeps : KeepsView (incoming_of i) old new)
    (told tmid tnew : List (Option Upload)) (u : Upload) (here : Some u ≡ upload_at told i)
    (out : IsWith i None told tmid) where
  steady_asked : (m : Machine) (s : Session) → IsFinishedAt new i s → IsSteadyAt old m.kept
      → IsSteadyAt new (with_request m.kept i (Some (asked s)))
  steady_asked m s fin was = steady_to i old new (others_kept i old new keeps) m.kept
      (λ j. if j == i then Some (asked s) else m.kept.request j)
      (λ j e. ap (λ b. if b then Some (asked s) else m.kept.request j) e)
      (subst (λ b. IsRequested (new.trailer i Secondary) (new.slot i Secondary)
      (if b then Some (asked s) else m.kept.request i)) (sym (eq-eqb i i refl)) (asks new i s fin)) was

  sessions_out : (m : Machine) → tnew ≡ tmid → IsUpAt old told m
      → HasSessions new tnew (λ j. if j == i then None else m.session j)
  sessions_out m same up = subst (λ t. HasSessions new t (λ j. if j == i then None else m.session j)) (sym same)
      (sessions_to i old new (others_kept i old new keeps) told tmid None None m.session out tt up.open_ones)

  unasked_before : (m : Machine) (written : List ℕ) → IsUploadAt old i u written → request_in new i ≡ None
      → IsUpAt old told m → (m.kept.request i ≡ None) × IsSteadyAt new m.kept
  unasked_before m written at none up = steady_unasked i old new
      (others_kept i old new keeps) m.kept at.there
      (erased_stands (old.trailer i Secondary) (old.slot i Secondary) at.trailer) none up.rest

  asked_none : (m : Machine) (written : List ℕ) → IsUploadAt old i u written → IsUpAt old told m
      → m.kept.request i ≡ None
  asked_none m written at up = not_asked (old.trailer i Secondary) (old.slot i Secondary) (m.kept.request i)
      (erased_stands (old.trailer i Secondary) (old.slot i Secondary) at.trailer)
      (up.rest.each i (subst (λ n. i < n) up.rest.images at.there)).request

  -- A refused call only closes the session.
  left : (m : Machine) (written : List ℕ) → IsUploadAt old i u written
      → new.trailer i Secondary ≡ erased_fields → tnew ≡ tmid → IsUpAt old told m
      → IsUpAt new tnew (with_session m i None)
  left m written at trailer same up = record {
    up = up.up;
    rest = (unasked_before m written at (erased_stands (new.trailer i Secondary)
        (new.slot i Secondary) trailer) up).1;
    open_ones = sessions_out m same up;
  }

  finishes : (result : Result Unit UploadError) → IsClosedAfter result tmid tnew → (m : Machine)
      → IsUpAt old told m → (written : List ℕ) → IsUploadAt old i u written
      → EndsFinish new i (session_of u written) result → (next : Machine)
      × Finishes m i (session_of u written) result next × IsUpAt new tnew next
  finishes (Ok done) after m up written at fin = (
    with_session (record m { kept = with_request m.kept i (Some (asked (session_of u written))) }) i None,
    (fin.good, refl),
    record {
      up = up.up;
      rest = steady_asked m (session_of u written) fin up.rest;
      open_ones = sessions_out m
          (after.same refl) up;
    },
  )
  finishes (Err no.SizeWrong) after m up written at fin =
      (with_session m i None, (fin.0, refl), left m written at fin.1 (after.same refl) up)
  finishes (Err no.DigestWrong) after m up written at fin =
      (with_session m i None, (fin.0, fin.1, refl), left m written at fin.2 (after.same refl) up)
  finishes (Err (no.NotAnImage code)) after m up written at fin =
      (with_session m i None, (fin.0, fin.1, refl), left m written at fin.2 (after.same refl) up)
  finishes (Err (no.Flash flash.Off)) after m up written at fin =
      let (before, rest) = unasked_before m written at fin.1 up in (
        closed m m.kept,
        (fin.0, before, refl),
        closed_up new tnew m m.kept up.up rest (after.closed refl),
      )
  finishes (Err (no.Flash flash.Cut)) after m up written at fin = ⊎_elim
      (λ (none : request_in new i ≡ None).
      let (before, rest) = unasked_before m written at none up in
      (closed m m.kept, (fin.0, before, inl refl), closed_up new tnew m m.kept up.up rest (after.closed refl)))
      (λ (done : IsFinishedAt new i (session_of u written)). (
        closed m (with_request m.kept i (Some (asked (session_of u written)))),
        (fin.0, asked_none m written at up, inr (done.good, refl)),
        closed_up new tnew m (with_request m.kept i (Some (asked (session_of u written)))) up.up
            (steady_asked m (session_of u written) done up.rest) (after.closed refl),
      ))
      fin.1
  finishes (Err other) after m up written at fin = absurd fin

  pub finish_row : (result : Result Unit UploadError)
      → ((written : List ℕ) → IsUploadAt old i u written → EndsFinish new i (session_of u written) result)
      → IsClosedAfter result tmid tnew
      → (m : Machine) → IsUpAt old told m → (next : Machine) × FinishRow m i result next × IsUpAt new tnew next
  finish_row result ends after m up =
      let (written, at, is) = session_here old i u told m here up in
      let (next, row, now) = finishes result after m up written at (ends written at) in
      (next, inr (session_of u written, is, row), now)

-- The other uploads still match the flash.
module _ (i : ℕ) (old new : View) (keeps : KeepsView (incoming_of i) old new) (told tmid tnew : List (Option Upload))
    (out : IsWith i None told tmid) where
  pub finish_open : (result : Result Unit UploadError) → IsClosedAfter result tmid tnew → AllOpenAt old told
      → AllOpenAt new tnew
  finish_open result after opens = by_case (is_flash result) refl where
    by_case : (b : Bool) → is_flash result ≡ b → AllOpenAt new tnew
    by_case true e = open_none new tnew (after.closed e)
    by_case false e = subst (λ t. AllOpenAt new t) (sym (after.same e))
        (open_to i old new told tmid None (others_kept i old new keeps) out (open_nothing i new) opens)
