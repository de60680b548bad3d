-- Withdrawing a request is a step of the machine.
use Rattle.std.proofs.Common.{◌≡◌, ◌≢◌, ℕ, ◌<◌, ◌==◌, Bool, true, false, List, Option, Some, None, Result, Ok, Err, refl, sym, ◌∙◌, ap, subst, ⊎_elim, inl, inr, if◌then◌else◌}
use Rattle.std.specs.Prelude.{option_map}
use Rattle.std.proofs.lemmas.Bool.{eq-eqb, eqb-true}
use Rattle.flash_model.specs.declared.error.FlashError.TheVariants as flash
use Rattle.sector_map.specs.declared.layout.Side.TheVariants.{Secondary}
use Rattle.sector_map.specs.Part.{incoming_of}
use Rattle.trailer.specs.Fields.{erased_fields}
use Rattle.upload.specs.View.{View, KeepsView}
use Rattle.machine.specs.Device.{DeviceState, Machine, Session, Wanted, closed}
use Rattle.upload.specs.Steady.{IsRequested, IsSteadyAt, request_in}
use Rattle.upload.specs.Sessions.{upload_at, AllOpenAt, HasSession, HasSessions, IsUpAt}
use Rattle.upload.specs.Ending.{IsClosedAfter}
use Rattle.upload.specs.Withdrawal.{EndsWithdraw}
use Rattle.machine.specs.Withdrawal.{Withdraws, with_request}
use Rattle.upload.specs.declared.sessions.Upload.{Upload}
use Rattle.machine.specs.declared.upload_error.UploadError.{UploadError}
use Rattle.machine.specs.declared.upload_error.UploadError.TheVariants as no
use Rattle.upload.proofs.OpenOnes.{open_none, open_of_sessions, sessions_of_open}
use Rattle.upload.proofs.Frames.{others_kept, steady_to, session_same, closed_up, erased_stands, not_asked, unasked}

-- An image without a session still has none.
still_none : (old new : View) (i : ℕ) (o : Option Upload) (s : Option Session)
    → ((u : Upload) → o ≡ Some u → ⊥) → HasSession old i o s → HasSession new i o s
still_none old new i None None none was = tt
still_none old new i None (Some s) none was = was
still_none old new i (Some u) s none was = absurd (none u refl)

has_trailer : (w : View) (i : ℕ) (u : Upload) (s : Option Session) → HasSession w i (Some u) s
    → w.trailer i Secondary ≡ erased_fields
has_trailer w i u None was = absurd was
has_trailer w i u (Some s) (written, at, is) = at.trailer

module _ (i : ℕ) (old new : View) (lt : i < old.images) (keeps : KeepsView (incoming_of i) old new)
    (told tnew : List (Option Upload)) where
  sessions_still : (session : ℕ → Option Session) → request_in old i ≢ None → HasSessions old told session
      → HasSessions new told session
  sessions_still session stands was = record { each = λ j. by_case j (j == i) refl } where
    by_case : (j : ℕ) (b : Bool) → (j == i) ≡ b → HasSession new j (upload_at told j) (session j)
    by_case j true same =
        let here : j ≡ i = eqb-true j i same in
        still_none old new j (upload_at told j) (session j) (λ u is.
        stands (erased_stands (old.trailer i Secondary) (old.slot i Secondary)
        (subst (λ k. old.trailer k Secondary ≡ erased_fields) here
        (has_trailer old j u (session j) (subst (λ o. HasSession old j o (session j)) is
        (was.each j)))))) (was.each j)
    by_case j false same = session_same i old new (others_kept i old new keeps) j (upload_at told j) (session j)
        ((others_kept i old new keeps).slots j same) ((others_kept i old new keeps).trailers j same) (was.each j)

  steady_gone : (s : DeviceState) → request_in new i ≡ None → IsSteadyAt old s
      → IsSteadyAt new (with_request s i None)
  steady_gone s none was = steady_to i old new (others_kept i old new keeps) s
      (λ j. if j == i then None else s.request j)
      (λ j e. ap (λ b. if b then None else s.request j) e)
      (subst (λ b. IsRequested (new.trailer i Secondary) (new.slot i Secondary)
      (if b then None else s.request i)) (sym (eq-eqb i i refl))
      (unasked (new.trailer i Secondary) (new.slot i Secondary) none)) was

  steady_kept : (s : DeviceState) → new.slot i Secondary ≡ old.slot i Secondary
      → new.trailer i Secondary ≡ old.trailer i Secondary → IsSteadyAt old s → IsSteadyAt new s
  steady_kept s slot trailer was = steady_to i old new (others_kept i old new keeps) s s.request (λ j e. refl)
      (subst (λ l. IsRequested (new.trailer i Secondary) l (s.request i)) (sym slot)
      (subst (λ t. IsRequested t (old.slot i Secondary) (s.request i)) (sym trailer)
      (was.each i (subst (λ n. i < n) was.images lt)).request)) was

  none_stands : (s : DeviceState) → IsSteadyAt old s → s.request i ≡ None → request_in old i ≡ None
  none_stands s was none = (was.each i (subst (λ n. i < n) was.images lt)).request.kind ∙ ap
      (λ o. option_map (λ (w : Wanted). w.kind) o) none

  asked : (m : Machine) → request_in old i ≢ None → IsUpAt old told m → m.kept.request i ≢ None
  asked m stands up none = stands (none_stands m.kept up.rest none)

  pub withdraw_row : (result : Result Unit UploadError) → EndsWithdraw old new i result
      → IsClosedAfter result told tnew
      → (m : Machine) → IsUpAt old told m → (next : Machine) × Withdraws m i result next × IsUpAt new tnew next
  withdraw_row (Ok done) (stands, trailer) after m up = (
    record m { kept = with_request m.kept i None },
    (asked m stands up, refl),
    record {
      up = up.up;
      rest = steady_gone m.kept (erased_stands (new.trailer i Secondary) (new.slot i Secondary) trailer) up.rest;
      open_ones = subst (λ t. HasSessions new t m.session) (sym (after.same refl))
          (sessions_still m.session stands up.open_ones);
    },
  )
  withdraw_row (Err no.NothingRequested) (none, same) after m up = (
    m,
    (
      (λ le. not_asked (old.trailer i Secondary) (old.slot i Secondary) (m.kept.request i) none
          (up.rest.each i le).request),
      refl,
    ),
    subst (λ w. IsUpAt w tnew m) (sym same) (subst (λ t. IsUpAt old t m) (sym (after.same refl)) up),
  )
  withdraw_row (Err (no.Flash flash.Off)) same after m up = (
    closed m m.kept,
    refl,
    closed_up new tnew m m.kept up.up (subst (λ w. IsSteadyAt w m.kept) (sym same) up.rest) (after.closed refl),
  )
  withdraw_row (Err (no.Flash flash.Cut)) (stands, either) after m up = ⊎_elim
      (λ (same : (new.slot i Secondary ≡ old.slot i Secondary) × (new.trailer i Secondary ≡ old.trailer i Secondary)).
      (closed m m.kept, (asked m stands up, inl refl), closed_up new tnew m m.kept up.up (steady_kept m.kept same.0 same.1 up.rest) (after.closed refl)))
      (λ (none : request_in new i ≡ None).
      (closed m (with_request m.kept i None), (asked m stands up, inr refl), closed_up new tnew m (with_request m.kept i None) up.up (steady_gone m.kept none up.rest) (after.closed refl)))
      either
  withdraw_row (Err other) ends after m up = absurd ends

-- Uploads that matched the flash still do, or all are closed.
module _ (i : ℕ) (old new : View) (lt : i < old.images) (keeps : KeepsView (incoming_of i) old new)
    (told tnew : List (Option Upload)) where
  pub withdraw_open : (result : Result Unit UploadError) → EndsWithdraw old new i result
      → IsClosedAfter result told tnew
      → AllOpenAt old told → AllOpenAt new tnew
  withdraw_open (Ok done) ends after opens =
      let had = sessions_of_open old told opens in
      subst (λ t. AllOpenAt new t) (sym (after.same refl))
      (open_of_sessions new told had.0 (sessions_still i old new lt keeps told tnew had.0 ends.0 had.1))
  withdraw_open (Err no.NothingRequested) ends after opens =
      subst (λ w. AllOpenAt w tnew) (sym ends.1) (subst (λ t. AllOpenAt old t) (sym (after.same refl)) opens)
  withdraw_open (Err (no.Flash error)) ends after opens = open_none new tnew (after.closed refl)
  withdraw_open (Err other) ends after opens = absurd ends
