-- Open uploads that match the flash are the sessions of a device, and conversely.
use Rattle.std.proofs.Common.{◌≡◌, ℕ, List, Option, Some, None, refl, sym, ◌∙◌, subst}
use Rattle.std.proofs.lemmas.Option.{none-some}
use Rattle.upload.specs.View.{View}
use Rattle.machine.specs.Device.{Session}
use Rattle.upload.specs.Sessions.{upload_at, AllClosed, AllOpenAt, IsOpenAt, IsWith, HasSession, HasSessions, session_of}
use Rattle.upload.specs.declared.sessions.Upload.{Upload}
use Rattle.upload.proofs.Frames.{IsOthersKept, sessions_to}

one_upload : (a b : Upload) → Some a ≡ Some b → a ≡ b
one_upload a b e = cc

-- The session of an upload that matches the flash.
abbrev session_for : (w : View) (i : ℕ) (o : Option Upload) → ((u : Upload) → o ≡ Some u → IsOpenAt w i u)
    → Option Session
session_for w i None opens = None
session_for w i (Some u) opens = Some (session_of u (opens u refl).0)

session_has : (w : View) (i : ℕ) (o : Option Upload) (opens : (u : Upload) → o ≡ Some u → IsOpenAt w i u)
    → HasSession w i o (session_for w i o opens)
session_has w i None opens = tt
session_has w i (Some u) opens = ((opens u refl).0, (opens u refl).1, refl)

-- Uploads that match the flash are the sessions of a device.
pub sessions_of_open : (w : View) (sessions : List (Option Upload)) → AllOpenAt w sessions
    → (session : ℕ → Option Session) × HasSessions w sessions session
sessions_of_open w sessions opens = (
  λ i. session_for w i (upload_at sessions i) (opens i),
  record { each = λ i. session_has w i (upload_at sessions i) (opens i) },
)

open_of : (w : View) (i : ℕ) (o : Option Upload) (s : Option Session) (u : Upload) → HasSession w i o s → o ≡ Some u
    → IsOpenAt w i u
open_of w i None s u has is = absurd (none-some u is)
open_of w i (Some v) None u has is = absurd has
open_of w i (Some v) (Some s) u has is =
    subst (λ (x : Upload). IsOpenAt w i x) (one_upload v u is) (has.0, has.1)

-- The sessions of a device match the flash.
pub open_of_sessions : (w : View) (sessions : List (Option Upload)) (session : ℕ → Option Session)
    → HasSessions w sessions session → AllOpenAt w sessions
open_of_sessions w sessions session has i u is = open_of w i (upload_at sessions i) (session i) u (has.each i) is

-- A table without open uploads matches any flash.
pub open_none : (w : View) (sessions : List (Option Upload)) → AllClosed sessions → AllOpenAt w sessions
open_none w sessions none i u is = absurd (none-some u (sym (none i) ∙ is))

-- One image has another upload or none, and all other images are unchanged.
pub open_to : (i : ℕ) (old new : View) (told tnew : List (Option Upload)) (o : Option Upload) → IsOthersKept i old new
    → IsWith i o told tnew → ((u : Upload) → o ≡ Some u → IsOpenAt new i u) → AllOpenAt old told → AllOpenAt new tnew
open_to i old new told tnew o keeps now opens was =
    let had = sessions_of_open old told was in
    open_of_sessions new tnew _ (sessions_to i old new keeps told tnew o (session_for new i o opens) had.0 now
    (session_has new i o opens) had.1)

-- An upload that received more bytes matches the flash.
pub open_more : (i : ℕ) (w : View) (v : Upload) → IsOpenAt w i v → (u : Upload) → Some v ≡ Some u → IsOpenAt w i u
open_more i w v at u is = subst (λ (x : Upload). IsOpenAt w i x) (one_upload v u is) at

pub open_nothing : (i : ℕ) (w : View) (u : Upload) → None ≡ Some u → IsOpenAt w i u
open_nothing i w u is = absurd (none-some u is)
