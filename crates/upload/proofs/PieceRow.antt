-- Adding a piece is a step of the machine.
use Rattle.std.proofs.Common.{◌≡◌, ◌⊎◌, ◌↔◌, ℕ, ◌+◌, ◌<◌, ◌≤◌, ◌==◌, Bool, true, false, IsTrue, List, length, Option, Some, None, Ok, Err, refl, sym, ◌∙◌, ap, subst, arith, length-append, inl, inr, ⊎_elim, if◌then◌else◌}
use Rattle.std.proofs.lemmas.Bool.{cases_lt, eqb-true, false≢true}
use Rattle.std.proofs.lemmas.List.{ext_get_or}
use Rattle.std.proofs.lemmas.Bool.Decides.{nat_tests}
use Rattle.std.proofs.lemmas.Option.{none-some, same_Some}
use Rattle.flash_model.specs.Chip.{Chip}
use Rattle.flash_model.specs.declared.error.FlashError.{FlashError}
use Rattle.sector_map.specs.declared.layout.SectorMap.{SectorMap}
use Rattle.sector_map.specs.Map.{Keeps}
use Rattle.trailer.specs.Fields.{erased_fields, fields_at}
use Rattle.sector_map.specs.declared.layout.Side.TheVariants.{Secondary}
use Rattle.sector_map.specs.Part.{Slot, only}
use Rattle.upload.specs.View.{View, KeepsView, view}
use Rattle.machine.specs.Device.{DeviceState, Machine, closed}
use Rattle.upload.specs.Steady.{IsSteadyAt}
use Rattle.upload.specs.Sessions.{upload_at, IsWith, AllClosed, IsOpenAt, IsUploadAt, session_of, HasSession, IsUpAt}
use Rattle.machine.specs.Piece.{Pieces, appended, with_session}
use Rattle.upload.specs.Piece.{TakesMore}
use Rattle.upload.specs.NoSession.{IsReadyFor, LacksSession, NotOpen, NotReady}
use Rattle.upload.specs.declared.sessions.Upload.{Upload}
use Rattle.machine.specs.declared.upload_error.UploadError.TheVariants as no
use Rattle.upload.proofs.Views.{view_kept, view_refl}
use Rattle.upload.proofs.Frames.{others_slot, steady_unasked, erased_stands, sessions_to, closed_up, opened_as, with_with}

-- The session of an upload in the table.
pub session_here : (w : View) (i : ℕ) (u : Upload) (sessions : List (Option Upload)) (m : Machine)
    → Some u ≡ upload_at sessions i → IsUpAt w sessions m
    → (written : List ℕ) × IsUploadAt w i u written × (m.session i ≡ Some (session_of u written))
session_here w i u sessions m is up = opened_as w i u (m.session i)
    (subst (λ o. HasSession w i o (m.session i)) (sym is) (up.open_ones.each i))

pub long_session : (u : Upload) (written : List ℕ) (w : View) (i : ℕ) → IsUploadAt w i u written
    → length (session_of u written).received ≡ u.received
long_session u written w i was = length-append written u.held.items ∙ sym was.count

module _ (i : ℕ) (old new : View) (keeps : KeepsView (only (Slot i Secondary)) old new)
    (told : List (Option Upload)) (u : Upload) (here : Some u ≡ upload_at told i) where
  -- A write to the slot of an open upload keeps the device at rest: the image has no request.
  pub rests : (m : Machine) → IsUpAt old told m → (m.kept.request i ≡ None) × IsSteadyAt new m.kept
  rests m up =
      let (written, at, is) = session_here old i u told m here up in
      steady_unasked i old new (others_slot i old new keeps) m.kept at.there
      (erased_stands (old.trailer i Secondary) (old.slot i Secondary) at.trailer)
      (erased_stands (new.trailer i Secondary) (new.slot i Secondary)
      (keeps.trailers i Secondary refl ∙ at.trailer)) up.rest

  pub piece_done : (v : Upload) (bytes : List ℕ) (tmid tnew : List (Option Upload)) → IsWith i None told tmid
      → IsWith i (Some v) tmid tnew → u.received + length bytes ≤ u.size
      → TakesMore old new i u v bytes
      → (m : Machine) → IsUpAt old told m → (next : Machine) × Pieces m i bytes (Ok tt) next × IsUpAt new tnew next
  piece_done v bytes tmid tnew out back fits adds m up =
      let (written, at, is) = session_here old i u told m here up in
      let (more, now, same) = adds written at in
      let long = long_session u written old i at in (
        with_session m i (Some (appended (session_of u written) bytes)),
        (session_of u written, is, omega (arith, long, fits), refl),
        record {
          up = up.up;
          rest = (rests m up).1;
          open_ones = sessions_to i old new (others_slot i old new keeps) told tnew (Some v)
              (Some (appended (session_of u written) bytes)) m.session
              (with_with i None (Some v) told tmid tnew out back) (more, now, sym same) up.open_ones;
        },
      )

  pub piece_cut : (bytes : List ℕ) (error : FlashError) (tnew : List (Option Upload)) → AllClosed tnew
      → u.received + length bytes ≤ u.size → (m : Machine) → IsUpAt old told m
      → (next : Machine) × Pieces m i bytes (Err (no.Flash error)) next × IsUpAt new tnew next
  piece_cut bytes error tnew none fits m up =
      let (written, at, is) = session_here old i u told m here up in
      let long = long_session u written old i at in
      let (asked, rest) = rests m up in (
        closed m m.kept,
        (session_of u written, is, omega (arith, long, fits), asked, refl),
        closed_up new tnew m m.kept up.up rest none,
      )

pub session_out : (i : ℕ) (w : View) (told tnew : List (Option Upload)) → IsWith i None told tnew
    → (m : Machine) → IsUpAt w told m → IsUpAt w tnew (with_session m i None)
session_out i w told tnew out m up = record {
  up = up.up;
  rest = up.rest;
  open_ones = sessions_to i w w (others_slot i w w
      (view_refl (only (Slot i Secondary)) w)) told tnew None None m.session out tt up.open_ones;
}

pub piece_more : (i : ℕ) (w : View) (told tnew : List (Option Upload)) (u : Upload) (bytes : List ℕ)
    → Some u ≡ upload_at told i → IsWith i None told tnew → u.size < u.received + length bytes
    → (m : Machine) → IsUpAt w told m
    → (next : Machine) × Pieces m i bytes (Err no.TooMuch) next × IsUpAt w tnew next
piece_more i w told tnew u bytes is out more m up =
    let (written, at, here) = session_here w i u told m is up in
    let long = long_session u written w i at in (
      with_session m i None,
      (
        session_of u written,
        here,
        omega
            (arith, long, more),
        refl,
      ),
      session_out i w told tnew out m up,
    )

some_upload : (a b : Upload) → Some a ≡ Some b → a ≡ b
some_upload a b e = cc

same_image : (i : ℕ) → (i == i) ≡ true
same_image i = grind (arith, nat_tests)

-- The table has the upload that received more bytes.
pub took_more : (i : ℕ) (old new : View) (told tmid tnew : List (Option Upload)) (before after : Upload)
    (bytes : List ℕ) → Some before ≡ upload_at told i → IsWith i (Some after) tmid tnew
    → TakesMore old new i before after bytes → (u : Upload) → upload_at told i ≡ Some u
    → (now : Upload) × (upload_at tnew i ≡ Some now) × TakesMore old new i u now bytes
took_more i old new told tmid tnew before after bytes was put takes u is = (
  after,
  put i ∙ ap (λ b. if b then Some after else upload_at tmid i) (same_image i),
  subst (λ v. TakesMore old new i v after bytes) (some_upload before u (was ∙ is)) takes,
)

-- Bytes can't both fit an upload and exceed its size.
pub no_room : (a b : Upload) (n : ℕ) → Some a ≡ Some b → b.received + n ≤ b.size → a.size < a.received + n → ⊥
no_room a b n same fits long =
    let is = same_Some a b same in
    omega (arith, fits, long, ap (λ (v : Upload). v.received) is, ap (λ (v : Upload). v.size) is)

-- A write to a slot whose trailer reads as erased keeps a device at rest.
pub steady_written : (map : SectorMap) (i : ℕ) (old new : Chip) → Keeps map (only (Slot i Secondary)) old new
    → (new ≡ old) ⊎ ((i < map.images) × (fields_at map old i Secondary ≡ erased_fields))
    → (s : DeviceState) → IsSteadyAt (view map old) s → IsSteadyAt (view map new) s
steady_written map i old new outside (inl same) s rest =
    subst (λ chip. IsSteadyAt (view map chip) s) (sym same) rest
steady_written map i old new outside (inr (lt, blank)) s rest =
    let keeps = view_kept map (only (Slot i Secondary)) old new outside in
    let w = view map old in
    let v = view map new in
    (steady_unasked i w v (others_slot i w v keeps) s lt
    (erased_stands (w.trailer i Secondary) (w.slot i Secondary) blank)
    (erased_stands (v.trailer i Secondary) (v.slot i Secondary) (keeps.trailers i Secondary refl ∙ blank)) rest).1

-- Nothing is written unless the trailer reads as erased.
pub unwritten : (same blank : Type 0) (there : Type 0) → same ⊎ (there × blank) → (blank → ⊥) → same
unwritten same blank there (inl is) never = is
unwritten same blank there (inr (lt, is)) never = absurd (never is)

-- More bytes than an upload's size allows.
pub exceeds : (size received n : ℕ) (told : Bool) → (IsTrue told ↔ received + n ≤ size) → told ≡ false
    → size < received + n
exceeds size received n told tells not = ⊎_elim
    (λ (lt : size < received + n). lt)
    (λ (fits : received + n ≤ size). absurd (false≢true (sym not ∙ tells.1 fits)))
    (cases_lt size (received + n))

-- An upload that is taken out of the table and put back leaves the table as it was.
pub table_back : (i : ℕ) (told tmid tnew : List (Option Upload)) (u v : Upload) → Some u ≡ upload_at told i → v ≡ u
    → IsWith i None told tmid → IsWith i (Some v) tmid tnew → length tmid ≡ length told
    → length tnew ≡ length tmid → tnew ≡ told
table_back i told tmid tnew u v here is out back first second =
    let now = with_with i None (Some v) told tmid tnew out back in
    ext_get_or None tnew told (second ∙ first) (λ k lt. at k (k == i) refl (now k)) where
      at : (k : ℕ) (b : Bool) → (k == i) ≡ b → upload_at tnew k ≡ (if b then Some v else upload_at told k)
          → upload_at tnew k ≡ upload_at told k
      at k true same now = now ∙ ap (λ x. Some x) is ∙ here ∙ ap (λ j. upload_at told j) (sym (eqb-true k i same))
      at k false same now = now

-- A device whose upload matches the flash doesn't come to a result that says that it doesn't.
pub piece_unmatched : (i : ℕ) (w v : View) (told tnew : List (Option Upload)) (u : Upload) (bytes : List ℕ)
    → Some u ≡ upload_at told i → (IsOpenAt w i u → ⊥) → (m : Machine) → IsUpAt w told m
    → (next : Machine) × Pieces m i bytes (Err no.NoSession) next × IsUpAt v tnew next
piece_unmatched i w v told tnew u bytes is never m up =
    let (written, at, here) = session_here w i u told m is up in
    absurd (never (written, at))

-- Some upload takes a piece: the open one has no room for its bytes, they complete no unit, or it is ready for them.
pub has_session : (map : SectorMap) (told : List (Option Upload)) (i n : ℕ) (chip : Chip) (taken : Upload)
    → Some taken ≡ upload_at told i
    → (taken.received + n ≤ taken.size → 8 ≤ length taken.held.items + n
    → (IsReadyFor map i taken n chip → ⊥) → ⊥)
    → LacksSession map told i n chip → ⊥
has_session map told i n chip taken here takes (NotOpen none) = none-some taken (sym (here ∙ none))
has_session map told i n chip taken here takes (NotReady u is fits enough never) =
    subst (λ (v : Upload). v.received + n ≤ v.size → 8 ≤ length v.held.items + n
    → (IsReadyFor map i v n chip → ⊥) → ⊥) (same_Some taken u (here ∙ is)) takes fits enough never

pub too_long : (u : Upload) (n : ℕ) → u.size < u.received + n → u.received + n ≤ u.size → ⊥
too_long u n long fits = omega (arith, long, fits)
