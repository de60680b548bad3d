-- Accepting a manifest is a step of the machine: the successful call, and the interrupted one.
use Rattle.std.specs.Option.{option_or}
use Rattle.std.specs.Prelude.{is_some, option_map, if◌then◌else◌}
use Rattle.std.proofs.Common.{◌≡◌, ◌⊎◌, ℕ, ◌<◌, ◌≤◌, false, List, [], length, Option, Some, None, refl, sym, ◌∙◌, ap, subst, arith, ⊎_elim, inl, inr}
use Rattle.sector_map.specs.declared.layout.Side.TheVariants.{Primary, Secondary}
use Rattle.sector_map.specs.Part.{Log, only}
use Rattle.set_log.specs.declared.state.State.{State}
use Rattle.set_log.specs.declared.state.RecordKind.TheVariants.{Steady}
use Rattle.manifest.specs.declared.manifest.Component.{Component}
use Rattle.upload.specs.View.{View, KeepsView}
use Rattle.machine.specs.Device.{DeviceState, Machine, Session, Wanted}
use Rattle.upload.specs.Steady.{IsFront, IsRequested, IsImageAt, IsSteadyAt, logged}
use Rattle.upload.specs.Sessions.{AllOpenAt, upload_at, session_of, HasSession, IsUpAt}
use Rattle.upload.specs.Withdrawal.{IsKeptOrGone}
use Rattle.upload.specs.Taking.{LeavesAccept}
use Rattle.machine.specs.Accepted.{latest, opened, accepted, IsAcceptCut}
use Rattle.upload.specs.Accepted.{OpenedAt, IsOpening, IsOpened}
use Rattle.upload.specs.declared.sessions.Upload.{Upload}
use Rattle.upload.proofs.Frames.{erased_stands, session_kept, unasked}
use Rattle.upload.proofs.Added.{session_eq}
use Rattle.upload.proofs.OpenOnes.{open_of_sessions, sessions_of_open}

some_state : (a b : State) → Some a ≡ Some b → a ≡ b
some_state a b e = cc

-- A log has one state.
pub same_state : (w : View) (a b : State) → w.log ≡ Some a → w.log ≡ Some b → a ≡ b
same_state w a b first second = some_state a b (sym first ∙ second)

-- So it has one state with another sequence number.
pub same_record : (w : View) (a : State) (q : ℕ) → w.log ≡ Some a → {b : State} → w.log ≡ Some b
    → Some (record a { sequence = q }) ≡ Some (record b { sequence = q })
same_record w a q first {b} second = ap (λ (st : State). Some (record st { sequence = q })) (same_state w a b first second)

-- What a power cut leaves while the sequence number is recorded.
pub leaves_early : (old mid : View) (state : State) (q : ℕ) → old.log ≡ Some state → KeepsView (only Log) old mid
    → (mid.log ≡ old.log) ⊎ (mid.log ≡ Some (record state { sequence = q })) → LeavesAccept old mid q
leaves_early old mid state q read keeps either = record {
  log = λ one is. ⊎_elim (λ kept. inl kept) (λ wrote. inr (wrote ∙ same_record old state q read is)) either;
  each = λ j. inl (keeps.slots j Secondary refl, keeps.trailers j Secondary refl);
  first = λ one is. inr (λ j. (keeps.slots j Secondary refl, keeps.trailers j Secondary refl));
}

-- What a power cut leaves after the sequence number is recorded.
pub leaves_late : (old mid new : View) (state : State) (q : ℕ) (cs : List Component) → old.log ≡ Some state
    → KeepsView (only Log) old mid → mid.log ≡ Some (record state { sequence = q })
    → IsOpening mid new (latest cs) → LeavesAccept old new q
leaves_late old mid new state q cs read keeps wrote opening = record {
  log = λ one is. inr (opening.log ∙ wrote ∙ same_record old state q read is);
  each = λ j. ⊎_elim
      (λ kept. inl (kept.0 ∙ keeps.slots j Secondary refl, kept.1 ∙ keeps.trailers j Secondary refl))
      (λ gone. inr gone) (opening.either j);
  first = λ one is. inl (opening.log ∙ wrote ∙ same_record old state q read is);
}

-- An image is unchanged if its slots and trailer are.
pub image_same : (old new : View) (s : DeviceState) (i : ℕ) → new.slot i Primary ≡ old.slot i Primary
    → new.slot i Secondary ≡ old.slot i Secondary → new.trailer i Secondary ≡ old.trailer i Secondary
    → IsImageAt old s i → IsImageAt new s i
image_same old new s i primary slot trailer was = record {
  running = subst (λ l. IsFront l (s.running i)) (sym primary) was.running;
  request = subst (λ l. IsRequested (new.trailer i Secondary) l (s.request i)) (sym slot)
      (subst (λ t. IsRequested t (old.slot i Secondary) (s.request i)) (sym trailer) was.request);
}

-- Only the log was written.
pub sequenced : (old mid : View) (state : State) (q : ℕ) (s : DeviceState) → old.log ≡ Some state
    → KeepsView (only Log) old mid → mid.log ≡ Some (record state { sequence = q }) → IsSteadyAt old s
    → IsSteadyAt mid (record s { sequence = q })
sequenced old mid state q s read keeps wrote was = record {
  trial = was.trial;
  images = keeps.images ∙ was.images;
  log = wrote ∙ ap (λ (st : State). Some (record st { sequence = q }))
      (same_state old state (logged Steady 0 false 0 s) read was.log);
  each = λ i lt. let at = image_same old mid s i (keeps.slots i Primary refl) (keeps.slots i Secondary refl)
      (keeps.trailers i Secondary refl) (was.each i lt) in
      record { running = at.running; request = at.request };
}

pub unsequenced : (old mid : View) (s : DeviceState) → KeepsView (only Log) old mid → mid.log ≡ old.log
    → IsSteadyAt old s → IsSteadyAt mid s
unsequenced old mid s keeps wrote was = record {
  trial = was.trial;
  images = keeps.images ∙ was.images;
  log = wrote ∙ was.log;
  each = λ i lt. image_same old mid s i (keeps.slots i Primary refl) (keeps.slots i Secondary refl)
      (keeps.trailers i Secondary refl) (was.each i lt);
}

pub sequence_cut : (old mid : View) (state : State) (q : ℕ) (cs : List Component) → old.log ≡ Some state
    → KeepsView (only Log) old mid → (mid.log ≡ old.log) ⊎ (mid.log ≡ Some (record state { sequence = q }))
    → (s : DeviceState) → IsSteadyAt old s → (next : DeviceState) × IsAcceptCut s q cs next × IsSteadyAt mid next
sequence_cut old mid state q cs read keeps either s was = ⊎_elim
    (λ (same : mid.log ≡ old.log). (
      s,
      record {
        rest = refl;
        others = λ i e. refl;
        either = inl
            (refl, λ i. refl);
      },
      unsequenced old mid s keeps same was,
    ))
    (λ (wrote : mid.log ≡ Some (record state { sequence = q })). (
      record s { sequence = q },
      record {
        rest = refl;
        others = λ i e. refl;
        either = inr
            (refl, λ i. inl refl);
      },
      sequenced old mid state q s read keeps wrote was,
    ))
    either

-- The request of an image after a power cut, if the manifest may list the image.
abbrev left_of : (old new : View) (i : ℕ) → Option Component → IsKeptOrGone old new i → Option Wanted → Option Wanted
left_of old new i None e wanted = wanted
left_of old new i (Some c) (inl same) wanted = wanted
left_of old new i (Some c) (inr none) wanted = None

module _ (mid new : View) (named : ℕ → Option Component) (opening : IsOpening mid new named) where
  steady_left : (t : DeviceState) (request : ℕ → Option Wanted)
      → ((i : ℕ) → i < t.images → IsRequested (new.trailer i Secondary) (new.slot i Secondary) (request i))
      → IsSteadyAt mid t → IsSteadyAt new (record t { request = request })
  steady_left t request asked was = record {
    trial = was.trial;
    images = opening.images ∙ was.images;
    log = opening.log ∙ was.log;
    each = λ i lt. record {
      running = subst (λ l. IsFront l (t.running i)) (sym (opening.primary i))
          (was.each i lt).running;
      request = asked i lt;
    };
  }

  as_before : (i : ℕ) (wanted : Option Wanted) → new.slot i Secondary ≡ mid.slot i Secondary
      → new.trailer i Secondary ≡ mid.trailer i Secondary
      → IsRequested (mid.trailer i Secondary) (mid.slot i Secondary) wanted
      → IsRequested (new.trailer i Secondary) (new.slot i Secondary) wanted
  as_before i wanted slot trailer was = subst (λ l. IsRequested (new.trailer i Secondary) l wanted)
      (sym slot) (subst (λ t. IsRequested t (mid.slot i Secondary) wanted) (sym trailer) was)

  asked_left : (i : ℕ) (wanted : Option Wanted) (o : Option Component) (e : IsKeptOrGone mid new i)
      → named i ≡ o → IsRequested (mid.trailer i Secondary) (mid.slot i Secondary) wanted
      → IsRequested (new.trailer i Secondary) (new.slot i Secondary) (left_of mid new i o e wanted)
  asked_left i wanted None e is was = as_before i wanted (opening.slots i is) (opening.trailers i is) was
  asked_left i wanted (Some c) (inl same) is was = as_before i wanted same.0 same.1 was
  asked_left i wanted (Some c) (inr none) is was = unasked (new.trailer i Secondary) (new.slot i Secondary) none

  left_either : (i : ℕ) (wanted : Option Wanted) (o : Option Component) (e : IsKeptOrGone mid new i)
      → (left_of mid new i o e wanted ≡ wanted) ⊎ (left_of mid new i o e wanted ≡ None)
  left_either i wanted None e = inl refl
  left_either i wanted (Some c) (inl same) = inl refl
  left_either i wanted (Some c) (inr none) = inr refl

  left_other : (i : ℕ) (wanted : Option Wanted) (o : Option Component) (e : IsKeptOrGone mid new i)
      → o ≡ None → left_of mid new i o e wanted ≡ wanted
  left_other i wanted o e is = subst (λ o. left_of mid new i o e wanted ≡ wanted) (sym is) refl

  left_steady : (s : DeviceState) (q : ℕ) → IsSteadyAt mid (record s { sequence = q })
      → IsSteadyAt new (record s {
        sequence = q;
        request = λ i. left_of mid new i (named i)
            (opening.either i) (s.request i);
      })
  left_steady s q was = steady_left (record s { sequence = q })
      (λ i. left_of mid new i (named i) (opening.either i) (s.request i))
      (λ i lt. asked_left i (s.request i) (named i) (opening.either i) refl (was.each i lt).request) was

  pub cut_after : (s : DeviceState) (q : ℕ) (cs : List Component) → ((i : ℕ) → latest cs i ≡ named i)
      → IsSteadyAt mid (record s { sequence = q }) → (next : DeviceState) × IsAcceptCut s q cs next
      × IsSteadyAt new next
  cut_after s q cs same was = (
    record s { sequence = q; request = λ i. left_of mid new i (named i) (opening.either i) (s.request i) },
    record {
      rest = refl;
      others = λ i e. left_other i (s.request i) (named i) (opening.either i)
          (sym (same i) ∙ e);
      either = inr (refl, λ i. left_either i (s.request i) (named i) (opening.either i));
    },
    left_steady s q was,
  )

module _ (old mid new : View) (cs : List Component) (told tnew : List (Option Upload))
    (keeps : KeepsView (only Log) old mid)
    (fits : (i : ℕ) (c : Component) → latest cs i ≡ Some c → (i < mid.images)
    × (c.size ≤ length (mid.slot i Secondary)))
    (all : IsOpened mid new told tnew (latest cs)) where
  session_at : (i : ℕ) (o : Option Component) (s : Option Session) → latest cs i ≡ o
      → OpenedAt (upload_at tnew i) (upload_at told i) o → HasSession old i (upload_at told i) s
      → HasSession new i (upload_at tnew i) (option_or (option_map opened o) s)
  session_at i None s is now was = subst (λ u. HasSession new i u s) (sym now)
      (session_kept old new i (upload_at told i) s (all.opening.images ∙ keeps.images)
      (all.opening.slots i is ∙ keeps.slots i Secondary refl)
      (all.opening.trailers i is ∙ keeps.trailers i Secondary refl) was)
  session_at i (Some c) s is (u, now, fresh) was =
      let fit = fits i c is in
      let empty = all.empty i c is in
      let none : length u.held.items ≡ 0 = ap length fresh.held in
      let long = all.opening.long i in
      subst (λ o. HasSession new i o (Some (opened c))) (sym now) (
        [],
        record {
          there = subst (λ n. i < n) (sym all.opening.images) fit.0;
          units = (0, refl);
          slot = empty.1;
          trailer = empty.0;
          few = omega (arith, none);
          count = omega (arith, none, fresh.received);
          fits = omega (arith, fresh.received);
          room = omega (arith, fit.1, long, fresh.size);
        },
        session_eq (opened c) (session_of u []) (sym fresh.size) (sym fresh.digest) (sym fresh.kind) (sym fresh.held),
      )

  asked_after : (i : ℕ) (wanted : Option Wanted) (o : Option Component) → latest cs i ≡ o
      → IsRequested (mid.trailer i Secondary) (mid.slot i Secondary) wanted
      → IsRequested (new.trailer i Secondary) (new.slot i Secondary) (if is_some o then None else wanted)
  asked_after i wanted None is was = as_before mid new (latest cs) all.opening i wanted
      (all.opening.slots i is) (all.opening.trailers i is) was
  asked_after i wanted (Some c) is was = unasked (new.trailer i Secondary) (new.slot i Secondary)
      (erased_stands (new.trailer i Secondary) (new.slot i Secondary) (all.empty i c is).0)

  pub accept_done : (state : State) (q : ℕ) → old.log ≡ Some state
      → mid.log ≡ Some (record state { sequence = q }) → (m : Machine) → IsUpAt old told m
      → IsUpAt new tnew (accepted m q cs)
  accept_done state q read wrote m up =
      let was = sequenced old mid state q m.kept read keeps wrote up.rest in
      record {
        up = up.up;
        rest = steady_left mid new (latest cs) all.opening (record m.kept { sequence = q })
            (λ i. if is_some (latest cs i) then None else m.kept.request i)
            (λ i lt. asked_after i (m.kept.request i) (latest cs i) refl (was.each i lt).request) was;
        open_ones = record {
          each = λ i. session_at i (latest cs i) (m.session i) refl (all.table i)
              (up.open_ones.each i);
        };
      }

  -- Uploads still match the flash.
  pub opens_all : AllOpenAt old told → AllOpenAt new tnew
  opens_all opens =
      let had = sessions_of_open old told opens in
      open_of_sessions new tnew (λ i. option_or (option_map opened (latest cs i)) (had.0 i))
      (record { each = λ i. session_at i (latest cs i) (had.0 i) refl (all.table i) (had.1.each i) })
