-- What doesn't change in a device at rest if one image's secondary slot and trailer are written.
use Rattle.std.proofs.Common.{◌≡◌, ◌≢◌, ℕ, ◌<◌, ◌≤◌, ◌==◌, ◌&&◌, Bool, true, false, List, length, Option, Some, None, refl, sym, ◌∙◌, ap, subst, if◌then◌else◌}
use Rattle.std.proofs.Math.Bool.{and-false}
use Rattle.std.proofs.lemmas.Bool.{eqb-true, ne_eqb}
use Rattle.std.proofs.lemmas.Option.{none-some}
use Rattle.sector_map.specs.declared.layout.Side.TheVariants.{Primary, Secondary}
use Rattle.sector_map.specs.Part.{Slot, only, incoming_of}
use Rattle.trailer.specs.Fields.{Fields, erased_fields}
use Rattle.upload.specs.View.{View, KeepsView}
use Rattle.machine.specs.Device.{DeviceState, Machine, Wanted, Session, closed}
use Rattle.upload.specs.Steady.{IsFront, IsRequested, IsImageAt, IsSteadyAt, told_by}
use Rattle.upload.specs.Sessions.{upload_at, IsWith, AllClosed, IsWritten, IsUploadAt, session_of, HasSession, HasSessions, IsUpAt}
use Rattle.upload.specs.declared.sessions.Upload.{Upload}

-- All images but one are unchanged, and so is this one's primary slot.
pub record IsOthersKept (i : ℕ) (old new : View) : Type 0 where
  pub images : new.images ≡ old.images
  pub log : new.log ≡ old.log
  pub primary : (j : ℕ) → new.slot j Primary ≡ old.slot j Primary
  pub slots : (j : ℕ) → (j == i) ≡ false → new.slot j Secondary ≡ old.slot j Secondary
  pub trailers : (j : ℕ) → (j == i) ≡ false → new.trailer j Secondary ≡ old.trailer j Secondary

pub others_kept : (i : ℕ) (old new : View) → KeepsView (incoming_of i) old new → IsOthersKept i old new
others_kept i old new keeps = record {
  images = keeps.images;
  log = keeps.log refl;
  primary = λ j. keeps.slots j Primary (and-false (j == i));
  slots = λ j e. keeps.slots j Secondary (ap (λ b. b && true) e);
  trailers = λ j e. keeps.trailers j Secondary (ap (λ b. b && true) e);
}

pub others_slot : (i : ℕ) (old new : View) → KeepsView (only (Slot i Secondary)) old new → IsOthersKept i old new
others_slot i old new keeps = record {
  images = keeps.images;
  log = keeps.log refl;
  primary = λ j. keeps.slots j Primary (and-false (j == i));
  slots = λ j e. keeps.slots j Secondary (ap (λ b. b && true) e);
  trailers = λ j e. keeps.trailers j Secondary refl;
}

-- If the trailer has no request, the state has none.
pub not_asked : (t : Fields) (l : List ℕ) (wanted : Option Wanted) → told_by t l ≡ None
    → IsRequested t l wanted → wanted ≡ None
not_asked t l None none was = refl
not_asked t l (Some w) none was = let e : None ≡ Some w.kind = sym none ∙ was.kind in absurd
    (none-some w.kind e)

pub unasked : (t : Fields) (l : List ℕ) → told_by t l ≡ None → IsRequested t l None
unasked t l none = record { kind = none; front = λ w e. absurd (none-some w e) }

pub erased_stands : (t : Fields) (l : List ℕ) → t ≡ erased_fields → told_by t l ≡ None
erased_stands t l e = ap (λ t. told_by t l) e

-- An open upload depends only on the secondary slot and its trailer.
pub session_kept : (old new : View) (i : ℕ) (o : Option Upload) (s : Option Session) → new.images ≡ old.images
    → new.slot i Secondary ≡ old.slot i Secondary → new.trailer i Secondary ≡ old.trailer i Secondary
    → HasSession old i o s → HasSession new i o s
session_kept old new i None None images slot trailer was = tt
session_kept old new i None (Some s) images slot trailer was = was
session_kept old new i (Some u) None images slot trailer was = was
session_kept old new i (Some u) (Some s) images slot trailer (written, was, is) = (
  written,
  record {
    there = subst (λ n. i < n) (sym images) was.there;
    units = was.units;
    slot = subst (λ l. IsWritten l written) (sym slot) was.slot;
    trailer = trailer ∙ was.trailer;
    few = was.few;
    count = was.count;
    fits = was.fits;
    room = subst (λ l. u.size ≤ length l) (sym slot) was.room;
  },
  is,
)

-- A device at rest after the requests changed.
module _ (i : ℕ) (old new : View) (keeps : IsOthersKept i old new) where
  at_image : (s : DeviceState) (request : ℕ → Option Wanted) (j : ℕ) (b : Bool) → (j == i) ≡ b
      → ((j == i) ≡ false → request j ≡ s.request j)
      → IsRequested (new.trailer i Secondary) (new.slot i Secondary) (request i)
      → IsImageAt old s j → IsImageAt new (record s { request = request }) j
  at_image s request j true same others asked was =
      let here : j ≡ i = eqb-true j i same in
      record {
        running = subst (λ l. IsFront l (s.running j)) (sym (keeps.primary j)) was.running;
        request = subst (λ k. IsRequested (new.trailer k Secondary) (new.slot k Secondary) (request k))
            (sym here) asked;
      }
  at_image s request j false same others asked was = record {
    running = subst (λ l. IsFront l (s.running j)) (sym (keeps.primary j)) was.running;
    request = subst (λ wanted. IsRequested (new.trailer j Secondary) (new.slot j Secondary) wanted)
        (sym (others same))
        (subst (λ l. IsRequested (new.trailer j Secondary) l (s.request j)) (sym (keeps.slots j same))
        (subst (λ t. IsRequested t (old.slot j Secondary) (s.request j)) (sym (keeps.trailers j same)) was.request));
  }

  pub steady_to : (s : DeviceState) (request : ℕ → Option Wanted)
      → ((j : ℕ) → (j == i) ≡ false → request j ≡ s.request j)
      → IsRequested (new.trailer i Secondary) (new.slot i Secondary) (request i)
      → IsSteadyAt old s → IsSteadyAt new (record s { request = request })
  steady_to s request others asked was = record {
    trial = was.trial;
    images = keeps.images ∙ was.images;
    log = keeps.log ∙ was.log;
    each = λ j lt. at_image s request j (j == i) refl (others j) asked (was.each j lt);
  }

  -- The image had no request, and still has none.
  pub steady_unasked : (s : DeviceState) → i < old.images
      → told_by (old.trailer i Secondary) (old.slot i Secondary) ≡ None
      → told_by (new.trailer i Secondary) (new.slot i Secondary) ≡ None → IsSteadyAt old s
      → (s.request i ≡ None) × IsSteadyAt new s
  steady_unasked s lt none still was =
      let asked = not_asked (old.trailer i Secondary) (old.slot i Secondary) (s.request i) none
      (was.each i (subst (λ n. i < n) was.images lt)).request in (
        asked,
        steady_to s s.request (λ j e. refl) (subst
            (λ wanted. IsRequested (new.trailer i Secondary) (new.slot i Secondary) wanted) (sym asked)
            (unasked (new.trailer i Secondary) (new.slot i Secondary) still)) was,
      )

  pub session_same : (j : ℕ) (o : Option Upload) (s : Option Session)
      → new.slot j Secondary ≡ old.slot j Secondary → new.trailer j Secondary ≡ old.trailer j Secondary
      → HasSession old j o s → HasSession new j o s
  session_same j o s slot trailer was = session_kept old new j o s keeps.images slot trailer was

  with_session_at : (told tnew : List (Option Upload)) (o : Option Upload) (s : Option Session) (session : ℕ
      → Option Session) (j : ℕ) (b : Bool) → (j == i) ≡ b
      → upload_at tnew j ≡ (if b then o else upload_at told j) → HasSession new i o s
      → HasSession old j (upload_at told j) (session j)
      → HasSession new j (upload_at tnew j) (if b then s else session j)
  with_session_at told tnew o s session j true same now at was =
      subst (λ u. HasSession new j u s) (sym now) (subst (λ k. HasSession new k o s) (sym (eqb-true j i same)) at)
  with_session_at told tnew o s session j false same now at was =
      subst (λ u. HasSession new j u (session j)) (sym now)
      (session_same j (upload_at told j) (session j) (keeps.slots j same) (keeps.trailers j same) was)

  pub sessions_to : (told tnew : List (Option Upload)) (o : Option Upload) (s : Option Session) (session : ℕ
      → Option Session) → IsWith i o told tnew → HasSession new i o s
      → HasSessions old told session → HasSessions new tnew (λ j. if j == i then s else session j)
  sessions_to told tnew o s session now at was = record {
    each = λ j. with_session_at told tnew o s session j
        (j == i) refl (now j) at (was.each j);
  }

pub sessions_closed : (w : View) (sessions : List (Option Upload)) → AllClosed sessions
    → HasSessions w sessions (λ i. None)
sessions_closed w sessions none = record { each = λ j. subst (λ u. HasSession w j u None) (sym (none j)) tt }

-- A machine whose uploads are all closed.
pub closed_up : (w : View) (sessions : List (Option Upload)) (m : Machine) (s : DeviceState) → m.is_booted ≡ true
    → IsSteadyAt w s → AllClosed sessions → IsUpAt w sessions (closed m s)
closed_up w sessions m s up rest none = record {
  up = up;
  rest = rest;
  open_ones = sessions_closed w sessions none;
}

pub opened_as : (w : View) (i : ℕ) (u : Upload) (s : Option Session) → HasSession w i (Some u) s
    → (written : List ℕ) × IsUploadAt w i u written × (s ≡ Some (session_of u written))
opened_as w i u None was = absurd was
opened_as w i u (Some s) (written, was, is) = (written, was, ap (λ x. Some x) is)

-- A session that is taken out of the table and put back.
pub with_with : (i : ℕ) (first second : Option Upload) (a b c : List (Option Upload)) → IsWith i first a b
    → IsWith i second b c → IsWith i second a c
with_with i first second a b c one two j = twice (j == i) (upload_at a j) (upload_at b j) (upload_at c j)
    (one j) (two j) where
      twice : (d : Bool) (x y z : Option Upload) → y ≡ (if d then first else x) → z ≡ (if d then second else y)
          → z ≡ (if d then second else x)
      twice true x y z e f = f
      twice false x y z e f = f ∙ e

-- The uploads of other images don't change.
pub with_others : (i j : ℕ) (upload : Option Upload) (a b : List (Option Upload)) → j ≢ i → IsWith i upload a b
    → upload_at b j ≡ upload_at a j
with_others i j upload a b away now = now j ∙ ap (λ is. if is then upload else upload_at a j) (ne_eqb j i away)
