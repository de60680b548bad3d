-- A boot of a device on trial.
use Rattle.std.proofs.Common.{◌≡◌, ◌≢◌, ◌⊎◌, ℕ, ◌+◌, ◌<◌, ◌≤◌, Bool, true, false, List, length, Option, Some, None}
use Rattle.std.proofs.Common.{refl, sym, ◌∙◌, ap, subst, arith, ⊎_elim, inl, inr, max, slice_index, set}
use Rattle.std.proofs.Common.{length-set, get_or-set_same, get_or-set_other, true≢false}
use Rattle.std.proofs.lemmas.Bool.{cases_eq}
use Rattle.std.proofs.lemmas.Option.{none-some}
use Rattle.flash_model.specs.Chip.{Chip}
use Rattle.sector_map.specs.declared.layout.SectorMap.{SectorMap}
use Rattle.sector_map.specs.declared.layout.Side.TheVariants.{Primary, Secondary}
use Rattle.sector_map.specs.Part.{Log, only}
use Rattle.common.specs.Masks.{is_member}
use Rattle.sector_map.specs.Map.{Keeps}
use Rattle.trailer.specs.Fields.{Fields}
use Rattle.set_log.specs.declared.state.State.{State}
use Rattle.set_log.specs.declared.state.RecordKind.TheVariants as log
use Rattle.upload.specs.View.{KeepsView, view}
use Rattle.upload.proofs.Views.{view_kept}
use Rattle.machine.specs.Device.{DeviceState, Trial}
use Rattle.upload.specs.Steady.{IsFront, IsImageAt, IsSteadyAt, logged}
use Rattle.reports.specs.declared.table.Entry.{Entry}
use Rattle.machine.specs.States.{IsConfirmed, IsRaised, settled, tried_again}
use Rattle.machine.specs.Boots.{Boots, GoesBack, GoesOn, HasDamaged, IsBootCut, IsEntryOf, IsReadAs}
use Rattle.flash_contents.specs.Holding.{IsTriedAt, IsTrialAt, IsTrialOpen, Stands, Rests, Tries, Opens, SwapsBack}
use Rattle.flash_contents.specs.Passing.{IsOpenOrAt, IsSwappingBackSome, EndsBoot, CutsBoot}
use Rattle.flash_contents.specs.Reading.{RunsAt, AreSetOk, IsFloorOf, IsReadOf}
use Rattle.flash_contents.specs.Starting.{AreIntact, IsLost}
use Rattle.flash_contents.proofs.Starting.{front_none, held_lost, held_running}
use Rattle.machine.specs.declared.reply.Reply.{Reply}
use Rattle.machine.specs.declared.reply.Reply.TheVariants.{Booted, Reverted, TrialAgain, Refused}
use Rattle.machine.specs.declared.error.Fault.TheVariants as no
use Rattle.flash_contents.proofs.Frames.{image_same, rests_with, same_state}
use Rattle.flash_contents.proofs.Reverting.{tried_same, open_logged}
use Rattle.flash_contents.proofs.Ending.{member_or}
use Rattle.flash_contents.proofs.Confirming.{trial_over}
use Rattle.flash_contents.proofs.Raising.{entry_counter}

-- ---- what is read of one slot

entry_held : (held : Option (List ℕ)) (entry : Entry) → IsEntryOf held entry → held ≡ None → ⊥
entry_held None entry is e = is
entry_held (Some bytes) entry is e = none-some bytes (sym e)

pub floor_stays : (held : Option (List ℕ)) (floor : ℕ) → IsReadOf held None → IsFloorOf held floor floor
floor_stays held floor is = record {
  raised = λ bytes d e image. absurd (none-some bytes (sym is ∙ e));
  damaged = λ e. refl;
}

pub floor_raised : (held : Option (List ℕ)) (entry : Entry) (floor new : ℕ) → IsReadOf held (Some entry)
    → new ≡ max floor entry.counter → IsFloorOf held floor new
floor_raised held entry floor new is at = record {
  raised = λ bytes d e image. at ∙ ap (λ m. max floor m) (entry_counter held entry bytes d is e image);
  damaged = λ e. absurd (entry_held held entry is e);
}

-- ---- floors raised one by one

below_next : (i n : ℕ) → i < n + 1 → i ≢ n → i < n
below_next i n lt away = omega arith

past_next : (i n : ℕ) → n + 1 ≤ i → i ≢ n
past_next i n le = omega arith

past_this : (i n : ℕ) → n + 1 ≤ i → n ≤ i
past_this i n le = omega arith

-- One floor more is raised.
module _ (s : DeviceState) (n v : ℕ) (floors before : List ℕ) (lt : n < length before) (same : s.floors ≡ floors)
    (was : IsRaised n s.running s.floors before) (new : IsFloorOf (s.running n) (slice_index floors n) v) where
  -- The floor that is written.
  set_here : (i : ℕ) → i ≡ n → slice_index (set before n v) i ≡ v
  set_here i here = ap (λ k. slice_index (set before n v) k) here ∙ get_or-set_same before n v 0 lt

  floor_here : (i : ℕ) → i ≡ n → slice_index floors n ≡ slice_index s.floors i
  floor_here i here = ap (λ l. slice_index l n) (sym same) ∙ ap (λ k. slice_index s.floors k) (sym here)

  running_here : (i : ℕ) (held : Option (List ℕ)) → i ≡ n → s.running i ≡ held → s.running n ≡ held
  running_here i held here e = ap s.running (sym here) ∙ e

  -- The other floors.
  set_away : (i : ℕ) → i ≢ n → slice_index (set before n v) i ≡ slice_index before i
  set_away i away = get_or-set_other before n i v 0 away

  pub raised_more : IsRaised (n + 1) s.running s.floors (set before n v)
  raised_more = record {
    size = length-set before n v ∙ was.size;
    raised = λ i bytes d le e image. ⊎_elim
        (λ (here : i ≡ n). set_here i here ∙ new.raised bytes d (running_here i (Some bytes) here e) image
        ∙ ap (λ m. max m d.counter) (floor_here i here))
        (λ (away : i ≢ n). set_away i away ∙ was.raised i bytes d (below_next i n le away) e image)
        (cases_eq i n);
    damaged = λ i le e. ⊎_elim
        (λ (here : i ≡ n). set_here i here ∙ new.damaged (running_here i None here e) ∙ floor_here i here)
        (λ (away : i ≢ n). set_away i away ∙ was.damaged i (below_next i n le away) e)
        (cases_eq i n);
    rest = λ i le. set_away i (past_next i n le) ∙ was.rest i (past_this i n le);
  }

-- ---- what a trial's record says

pub runs_open : (map : SectorMap) (w : Chip) (s : DeviceState) (trial : Trial) → IsTrialOpen (view map w) s trial
    → RunsAt (view map w) s
runs_open map w s trial was = record {
  images = was.images;
  each = λ i lt. ⊎_elim
      (λ (member : is_member trial.set i ≡ true). (was.tried i member).running)
      (λ (other : is_member trial.set i ≡ false). (was.others i lt other).running)
      (member_or (is_member trial.set i));
}

pub open_of : (map : SectorMap) (w : Chip) (s : DeviceState) (trial : Trial) → IsOpenOrAt (view map w) s trial
    → IsTrialOpen (view map w) s trial
open_of map w s trial either = ⊎_elim
    (λ (at : IsTrialAt (view map w) s trial). at.opened)
    (λ (opened : GoesBack s trial × IsTrialOpen (view map w) s trial). opened.1)
    either

module _ (map : SectorMap) (w : Chip) (s : DeviceState) (trial : Trial) (state : State)
    (read : (view map w).log ≡ Some state) (was : IsTrialOpen (view map w) s trial) where
  trial_record : state ≡ logged log.Trial trial.set was.permanent trial.left s
  trial_record = same_state map w state (logged log.Trial trial.set was.permanent trial.left s) read was.log

  trial_mask : state.mask ≡ trial.set
  trial_mask = ap (λ (st : State). st.mask) trial_record

  trial_left : state.left ≡ trial.left
  trial_left = ap (λ (st : State). st.left) trial_record

  trial_floors : s.floors ≡ state.floors
  trial_floors = ap (λ (st : State). st.floors) (sym trial_record)

-- ---- how a boot continues a trial

confirmed_not : (map : SectorMap) (w : Chip) (s : DeviceState) (trial : Trial) (mask : ℕ) (b : Bool)
    → mask ≡ trial.set → IsTrialOpen (view map w) s trial → AreSetOk (view map w) mask b → b ≡ false
    → IsConfirmed s trial → ⊥
confirmed_not map w s trial mask true is was ok e confirmed = true≢false e
confirmed_not map w s trial mask false is was (i, lt, member, unset) e confirmed =
    let here : is_member trial.set i ≡ true = sym (ap (λ m. is_member m i) is) ∙ member in
    true≢false (sym (confirmed.each i (subst (λ n. i < n) was.images lt) here)
    ∙ sym (was.tried i here).confirmed ∙ unset)

module _ (map : SectorMap) (old : Chip) (state : State) (b : Bool) (read : (view map old).log ≡ Some state)
    (ok : AreSetOk (view map old) state.mask b) where
  not_over : b ≡ false → (s : DeviceState) (trial : Trial) → IsTrialOpen (view map old) s trial
      → IsConfirmed s trial → ⊥
  not_over e s trial was =
      confirmed_not map old s trial state.mask b (trial_mask map old s trial state read was) was ok e

  -- No boot is left, or a running image isn't intact.
  pub passage_back : b ≡ false → (state.left ≡ 0) ⊎ ((i : ℕ) × (i < map.images)
      × IsFront ((view map old).slot i Primary) None)
      → (s : DeviceState) (trial : Trial) → IsTrialOpen (view map old) s trial → GoesBack s trial
  passage_back e why s trial was = (
    was.trial,
    not_over e s trial was,
    ⊎_elim
        (λ (none : state.left ≡ 0). inl (sym (trial_left map old s trial state read was) ∙ none))
        (λ (lost : (i : ℕ) × (i < map.images) × IsFront ((view map old).slot i Primary) None).
        let lt : lost.0 < s.images = subst (λ n. lost.0 < n) was.images lost.1 in
        inr (lost.0, lt, front_none _ (s.running lost.0) ((runs_open map old s trial was).each lost.0 lt) lost.2))
        why,
  )

  -- A boot is left, and each running image is intact.
  pub passage_again : b ≡ false → 0 < state.left → AreIntact (view map old)
      → (s : DeviceState) (trial : Trial) → IsTrialOpen (view map old) s trial → GoesOn s trial
  passage_again e more intact s trial was =
      let some : 0 < trial.left = subst (λ n. 0 < n) (trial_left map old s trial state read was) more in (
        was.trial,
        not_over e s trial was,
        λ none. omega (arith, some, none),
        λ i lt none. held_running _ (s.running i) ((runs_open map old s trial was).each i lt)
            (intact i (subst (λ n. i < n) (sym was.images) lt)) none,
      )

  -- The old images of a state are intact.
  pub passage_never : (i : ℕ) → IsLost (view map old) state.mask Secondary i
      → (s : DeviceState) (trial : Trial) → IsTrialOpen (view map old) s trial → ⊥
  passage_never i lost s trial was =
      let member : is_member trial.set i ≡ true =
      sym (ap (λ m. is_member m i) (trial_mask map old s trial state read was)) ∙ lost.member in
      held_lost _ (trial.old i, (was.tried i member).old) lost.lost

-- A trial whose set is confirmed isn't reverted, so it is at rest.
pub rest_over : (map : SectorMap) (w : Chip) (s : DeviceState) (trial : Trial) → IsConfirmed s trial
    → IsOpenOrAt (view map w) s trial → IsTrialAt (view map w) s trial
rest_over map w s trial confirmed either = ⊎_elim
    (λ (at : IsTrialAt (view map w) s trial). at)
    (λ (opened : GoesBack s trial × IsTrialOpen (view map w) s trial). absurd (opened.0.1 confirmed))
    either

goes_both : (s : DeviceState) (trial : Trial) → GoesBack s trial → GoesOn s trial → ⊥
goes_both s trial back on = ⊎_elim
    (λ (none : trial.left ≡ 0). on.2 none)
    (λ (damaged : HasDamaged s). on.3 damaged.0 damaged.1 damaged.2)
    back.2

pub rest_on : (map : SectorMap) (w : Chip) (s : DeviceState) (trial : Trial) → GoesOn s trial
    → IsOpenOrAt (view map w) s trial → IsTrialAt (view map w) s trial
rest_on map w s trial on either = ⊎_elim
    (λ (at : IsTrialAt (view map w) s trial). at)
    (λ (opened : GoesBack s trial × IsTrialOpen (view map w) s trial). absurd (goes_both s trial opened.0 on))
    either

-- ---- what a power cut leaves

-- The flash was only read.
pub trial_cut : (map : SectorMap) (boots : ℕ) (old w : Chip) (s : DeviceState) → w ≡ old → Stands map old s
    → CutsBoot map boots w s
trial_cut map boots old w s same was = (s, inl refl, subst (λ v. Stands map v s) (sym same) was)

stays_cut : (map : SectorMap) (boots : ℕ) (w : Chip) (s : DeviceState) → Stands map w s → CutsBoot map boots w s
stays_cut map boots w s stands = (s, inl refl, stands)

pub back_here : (map : SectorMap) (w : Chip) (s : DeviceState) (trial : Trial) → IsSwappingBackSome map w s trial
    → Stands map w s
back_here map w s trial swapping = SwapsBack trial swapping.0 swapping.1 swapping.2

-- A trial is reverted.
pub opened_cut : (map : SectorMap) (boots : ℕ) (w : Chip) (s : DeviceState) (trial : Trial) → GoesBack s trial
    → IsTrialOpen (view map w) s trial ⊎ IsSwappingBackSome map w s trial → CutsBoot map boots w s
opened_cut map boots w s trial goes either = ⊎_elim
    (λ (was : IsTrialOpen (view map w) s trial). stays_cut map boots w s (Opens trial goes was))
    (λ (swapping : IsSwappingBackSome map w s trial). stays_cut map boots w s (back_here map w s trial swapping))
    either

pub stands_open : (map : SectorMap) (w : Chip) (s : DeviceState) (trial : Trial) → IsOpenOrAt (view map w) s trial
    → Stands map w s
stands_open map w s trial either = ⊎_elim
    (λ (at : IsTrialAt (view map w) s trial). Tries trial at)
    (λ (opened : GoesBack s trial × IsTrialOpen (view map w) s trial). Opens trial opened.0 opened.1)
    either

rest_cut : (map : SectorMap) (boots : ℕ) (w : Chip) (s : DeviceState) (trial : Trial)
    → IsTrialAt (view map w) s trial → CutsBoot map boots w s
rest_cut map boots w s trial was = stays_cut map boots w s (Tries trial was)

-- ---- a trial that continues

module _ (map : SectorMap) (old new : Chip) (s : DeviceState) (trial : Trial)
    (keeps : Keeps map (only Log) old new) where
  kept : KeepsView (only Log) (view map old) (view map new)
  kept = view_kept map (only Log) old new keeps

  -- Only the count of boots changes.
  tried_as : (left i : ℕ) → IsTriedAt (view map old) s trial i
      → IsTriedAt (view map new) (tried_again s trial left) (record trial { left = left }) i
  tried_as left i was =
      let at : IsTriedAt (view map new) s trial i = tried_same map old new s trial i (kept.slots i Primary refl)
      (kept.slots i Secondary refl) (kept.trailers i Primary refl) was in
      record {
        running = at.running;
        old = at.old;
        confirmed = at.confirmed;
        good = at.good;
        copied = at.copied;
      }

  image_as : (left i : ℕ) → IsImageAt (view map old) s i → IsImageAt (view map new) (tried_again s trial left) i
  image_as left i was =
      let at : IsImageAt (view map new) s i = image_same map old new s i (kept.slots i Primary refl)
      (kept.slots i Secondary refl) (kept.trailers i Secondary refl) was in
      record { running = at.running; request = at.request }

  pub again_at : (left : ℕ) (permanent : Bool)
      → (view map new).log ≡ Some (logged log.Trial trial.set permanent left s)
      → IsTrialAt (view map old) s trial
      → IsTrialAt (view map new) (tried_again s trial left) (record trial { left = left })
  again_at left permanent recorded was = record {
    opened = record {
      trial = refl;
      images = kept.images ∙ was.opened.images;
      permanent = permanent;
      log = recorded;
      within = was.opened.within;
      tried = λ i member. tried_as left i (was.opened.tried i member);
      gone = was.opened.gone;
      others = λ i lt other. image_as left i (was.opened.others i lt other);
    };
    unset = λ i member. ap (λ (t : Fields). t.magic) (kept.trailers i Secondary refl) ∙ was.unset i member;
  }

  pub again_same : (view map new).log ≡ (view map old).log → IsTrialAt (view map old) s trial
      → IsTrialAt (view map new) s trial
  again_same same was = record {
    opened = open_logged map old new s trial keeps same was.opened;
    unset = λ i member. ap (λ (t : Fields). t.magic) (kept.trailers i Secondary refl) ∙ was.unset i member;
  }

module _ (map : SectorMap) (old new : Chip) (state : State) (left : ℕ) (read : (view map old).log ≡ Some state)
    (keeps : Keeps map (only Log) old new) where
  again_ok : (view map new).log ≡ Some (record state { left = left; permanent = false }) → (s : DeviceState) (trial : Trial)
      → IsTrialAt (view map old) s trial
      → IsTrialAt (view map new) (tried_again s trial left) (record trial { left = left })
  again_ok recorded s trial was = again_at map old new s trial keeps left false
      (recorded ∙ ap (λ (st : State). Some (record st { left = left; permanent = false }))
      (trial_record map old s trial state read was.opened)) was

  again_reply : left + 1 ≡ state.left → (view map new).log ≡ Some (record state { left = left; permanent = false })
      → (boots : ℕ) (s : DeviceState) (trial : Trial) → GoesOn s trial → IsTrialAt (view map old) s trial
      → EndsBoot map boots new s (TrialAgain state.mask left)
  again_reply less recorded boots s trial goes was =
      let at : IsTrialAt (view map new) (tried_again s trial left) (record trial { left = left }) =
      again_ok recorded s trial was in (
        tried_again s trial left,
        (
          trial,
          goes,
          trial_mask map old s trial state read was.opened,
          less ∙ trial_left map old s trial state read was.opened,
          refl,
        ),
        Tries (record trial { left = left }) at,
        λ e. inr (record trial { left = left }, at),
      )

  pub again_ends : left + 1 ≡ state.left → (view map new).log ≡ Some (record state { left = left; permanent = false })
      → (boots : ℕ) (s : DeviceState) (trial : Trial) → GoesOn s trial → IsOpenOrAt (view map old) s trial
      → EndsBoot map boots new s (TrialAgain state.mask left)
  again_ends less recorded boots s trial goes was =
      again_reply less recorded boots s trial goes (rest_on map old s trial goes was)

  again_done : left + 1 ≡ state.left → (view map new).log ≡ Some (record state { left = left; permanent = false })
      → (boots : ℕ) (s : DeviceState) (trial : Trial) → GoesOn s trial → IsTrialAt (view map old) s trial
      → CutsBoot map boots new s
  again_done less recorded boots s trial goes was =
      let ends : EndsBoot map boots new s (TrialAgain state.mask left) =
      again_reply less recorded boots s trial goes was in
      (ends.0, inr (inr (TrialAgain state.mask left, ends.1)), ends.2)

  pub again_cut : left + 1 ≡ state.left
      → ((view map new).log ≡ (view map old).log) ⊎ ((view map new).log ≡ Some (record state { left = left; permanent = false }))
      → (boots : ℕ) (s : DeviceState) (trial : Trial) → GoesOn s trial → IsOpenOrAt (view map old) s trial
      → CutsBoot map boots new s
  again_cut less either boots s trial goes at =
      let was : IsTrialAt (view map old) s trial = rest_on map old s trial goes at in
      ⊎_elim
      (λ (same : (view map new).log ≡ (view map old).log).
      rest_cut map boots new s trial (again_same map old new s trial keeps same was))
      (λ (recorded : (view map new).log ≡ Some (record state { left = left; permanent = false })).
      again_done less recorded boots s trial goes was)
      either

-- ---- a trial that is over

module _ (map : SectorMap) (old new : Chip) (state : State) (floors : List ℕ)
    (read : (view map old).log ≡ Some state) (keeps : Keeps map (only Log) old new) where
  pub over_ok : (view map new).log ≡ Some (rests_with state floors) → (s : DeviceState) (trial : Trial)
      → IsTrialAt (view map old) s trial → IsSteadyAt (view map new) (settled s floors)
  over_ok recorded s trial was = trial_over map old new s trial floors keeps
      (recorded ∙ ap (λ (st : State). Some (rests_with st floors))
      (trial_record map old s trial state read was.opened)) was

  pub over_either : ((view map new).log ≡ (view map old).log)
      ⊎ ((view map new).log ≡ Some (rests_with state floors)) → (s : DeviceState) (trial : Trial)
      → IsTrialAt (view map old) s trial
      → IsTrialAt (view map new) s trial ⊎ IsSteadyAt (view map new) (settled s floors)
  over_either either s trial was = ⊎_elim
      (λ (same : (view map new).log ≡ (view map old).log). inl (again_same map old new s trial keeps same was))
      (λ (recorded : (view map new).log ≡ Some (rests_with state floors)). inr (over_ok recorded s trial was))
      either

-- ---- a state that is read as another one

pub read_over : (s : DeviceState) (trial : Trial) (floors : List ℕ) → s.trial ≡ Some trial → IsConfirmed s trial
    → IsRaised s.images s.running s.floors floors → IsReadAs s (settled s floors)
read_over s trial floors is confirmed raised = inr (trial, is, inr (confirmed, (floors, raised, refl)))

as_read_as : (s read r : DeviceState) → IsReadAs s read → read.trial ≡ None → IsReadAs read r → IsReadAs s r
as_read_as s read r reads none (inl (rest, same)) = subst (λ t. IsReadAs s t) (sym same) reads
as_read_as s read r reads none (inr (trial, is, also)) = absurd (none-some trial (sym none ∙ is))

boots_as_read : (boots : ℕ) (s read : DeviceState) (reply : Reply) (next : DeviceState) → IsReadAs s read
    → read.trial ≡ None → Boots boots read reply next → Boots boots s reply next
boots_as_read boots s read (Booted table report permanent) next reads none (r, also, rest, booted) =
    (r, as_read_as s read r reads none also, rest, booted)
boots_as_read boots s read (Reverted mask) next reads none (trial, goes, is, same) =
    absurd (none-some trial (sym none ∙ goes.0))
boots_as_read boots s read (TrialAgain set left) next reads none (trial, goes, is, less, same) =
    absurd (none-some trial (sym none ∙ goes.0))
boots_as_read boots s read (Refused (no.RunningDamaged i)) next reads none (also, rest, damaged) =
    (as_read_as s read next reads none also, rest, damaged)
boots_as_read boots s read (Refused no.InvalidSet) next reads none (also, rest, invalid) =
    (as_read_as s read next reads none also, rest, invalid)
boots_as_read boots s read other next reads none never = never

pub ends_as_read : (map : SectorMap) (boots : ℕ) (w : Chip) (s read : DeviceState) (reply : Reply)
    → IsReadAs s read → read.trial ≡ None → EndsBoot map boots w read reply → EndsBoot map boots w s reply
ends_as_read map boots w s read reply reads none (next, booted, stands, rest) =
    (next, boots_as_read boots s read reply next reads none booted, stands, rest)

cut_as_read : (boots : ℕ) (s read next : DeviceState) → IsReadAs s read → read.trial ≡ None
    → IsBootCut boots read next → IsBootCut boots s next
cut_as_read boots s read next reads none (inl same) = inr (inl (subst (λ t. IsReadAs s t) (sym same) reads))
cut_as_read boots s read next reads none (inr (inl also)) = inr (inl (as_read_as s read next reads none also))
cut_as_read boots s read next reads none (inr (inr (reply, booted))) =
    inr (inr (reply, boots_as_read boots s read reply next reads none booted))

pub cuts_as_read : (map : SectorMap) (boots : ℕ) (w : Chip) (s read : DeviceState) → IsReadAs s read
    → read.trial ≡ None → CutsBoot map boots w read → CutsBoot map boots w s
cuts_as_read map boots w s read reads none (next, cut, stands) =
    (next, cut_as_read boots s read next reads none cut, stands)

-- ---- a boot from a trial that is over

module _ (map : SectorMap) (boots : ℕ) (old read new : Chip) (state : State) (floors : List ℕ)
    (recorded : (view map old).log ≡ Some state) (same : read ≡ old)
    (raises : (s : DeviceState) → RunsAt (view map old) s → s.floors ≡ state.floors
    → IsRaised s.images s.running s.floors floors) where
  over_read : (s : DeviceState) (trial : Trial) → IsConfirmed s trial → IsTrialAt (view map old) s trial
      → IsReadAs s (settled s floors)
  over_read s trial confirmed was = read_over s trial floors was.opened.trial confirmed
      (raises s (runs_open map old s trial was.opened) (trial_floors map old s trial state recorded was.opened))

  over_here : (s : DeviceState) (trial : Trial) → IsTrialAt (view map old) s trial
      → IsTrialAt (view map read) s trial
  over_here s trial was = subst (λ w. IsTrialAt (view map w) s trial) (sym same) was

  over_done : (s : DeviceState) (trial : Trial) → IsConfirmed s trial → IsTrialAt (view map old) s trial
      → IsSteadyAt (view map new) (settled s floors) → CutsBoot map boots new s
  over_done s trial confirmed at done =
      (settled s floors, inr (inl (over_read s trial confirmed at)), Rests done)

  pub over_recorded : ((s : DeviceState) (trial : Trial) → IsTrialAt (view map read) s trial
      → IsTrialAt (view map new) s trial ⊎ IsSteadyAt (view map new) (settled s floors))
      → (s : DeviceState) (trial : Trial) → IsConfirmed s trial → IsOpenOrAt (view map old) s trial
      → CutsBoot map boots new s
  over_recorded records s trial confirmed was =
      let at : IsTrialAt (view map old) s trial = rest_over map old s trial confirmed was in
      ⊎_elim
      (λ (still : IsTrialAt (view map new) s trial). rest_cut map boots new s trial still)
      (λ (done : IsSteadyAt (view map new) (settled s floors)). over_done s trial confirmed at done)
      (records s trial (over_here s trial at))

  pub over_cut : (mid : Chip) → ((s : DeviceState) (trial : Trial) → IsTrialAt (view map read) s trial
      → IsSteadyAt (view map mid) (settled s floors))
      → ((s : DeviceState) → IsSteadyAt (view map mid) s → CutsBoot map boots new s)
      → (s : DeviceState) (trial : Trial) → IsConfirmed s trial → IsOpenOrAt (view map old) s trial
      → CutsBoot map boots new s
  over_cut mid records cuts s trial confirmed was =
      let at : IsTrialAt (view map old) s trial = rest_over map old s trial confirmed was in
      cuts_as_read map boots new s (settled s floors) (over_read s trial confirmed at) refl
      (cuts (settled s floors) (records s trial (over_here s trial at)))

  pub over_ends : (mid : Chip) (reply : Reply) → ((s : DeviceState) (trial : Trial)
      → IsTrialAt (view map read) s trial → IsSteadyAt (view map mid) (settled s floors))
      → ((s : DeviceState) → IsSteadyAt (view map mid) s → EndsBoot map boots new s reply)
      → (s : DeviceState) (trial : Trial) → IsConfirmed s trial → IsOpenOrAt (view map old) s trial
      → EndsBoot map boots new s reply
  over_ends mid reply records ends s trial confirmed was =
      let at : IsTrialAt (view map old) s trial = rest_over map old s trial confirmed was in
      ends_as_read map boots new s (settled s floors) reply (over_read s trial confirmed at) refl
      (ends (settled s floors) (records s trial (over_here s trial at)))
