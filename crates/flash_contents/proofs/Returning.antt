-- A reverted set is settled, and the device is at rest.
use Rattle.std.proofs.Common.{◌≡◌, ◌⊎◌, ℕ, ◌<◌, Bool, true, false, Option, Some, None}
use Rattle.std.proofs.Common.{refl, sym, ◌∙◌, ap, subst, inl, inr, ⊎_elim}
use Rattle.swap_scratch.proofs.Staying.{stays}
use Rattle.flash_model.specs.Chip.{Chip}
use Rattle.sector_map.specs.declared.layout.SectorMap.{SectorMap}
use Rattle.sector_map.specs.declared.layout.Side.TheVariants.{Primary, Secondary}
use Rattle.sector_map.specs.Part.{Log, only, trailers_in}
use Rattle.common.specs.Masks.{is_member}
use Rattle.sector_map.specs.Map.{IsLaidOut, Keeps}
use Rattle.set_log.specs.declared.state.State.{State}
use Rattle.set_log.specs.declared.state.RecordKind.{RecordKind}
use Rattle.set_log.specs.declared.state.RecordKind.TheVariants as log
use Rattle.upload.specs.View.{KeepsView, View, view}
use Rattle.upload.proofs.Views.{view_kept}
use Rattle.machine.specs.Device.{DeviceState, Trial, Wanted}
use Rattle.upload.specs.Steady.{IsFront, IsImageAt, IsRequested, IsSteadyAt, logged}
use Rattle.machine.specs.States.{reverted}
use Rattle.flash_contents.specs.Holding.{AreSettled, IsSwappedBack}
use Rattle.flash_contents.specs.Passing.{IsGoingBack, IsSwappingBackSome}
use Rattle.flash_contents.specs.Starting.{IsLost}
use Rattle.flash_contents.proofs.Starting.{held_lost}
use Rattle.flash_contents.proofs.Frames.{image_same, rests_with, same_state}
use Rattle.flash_contents.proofs.Swapping.{others_logged, swap_off_log}
use Rattle.flash_contents.proofs.Ending.{image_outside, none_asked, member_or, if_true, if_false}

module _ (map : SectorMap) (old new : Chip) (s : DeviceState) (trial : Trial)
    (keeps : Keeps map (only Log) old new) where
  kept : KeepsView (only Log) (view map old) (view map new)
  kept = view_kept map (only Log) old new keeps

  -- Only the log was written, and its state is unchanged.
  pub back_logged : (laid : IsLaidOut map old) → (view map new).log ≡ (view map old).log
      → IsSwappingBackSome map old s trial → IsSwappingBackSome map new s trial
  back_logged laid same (x, y, was) = (
    x,
    y,
    record {
      goes = was.goes;
      images = kept.images ∙ was.images;
      permanent = was.permanent;
      log = same ∙ was.log;
      within = was.within;
      place = stays map Secondary trial.set (only Log) old new x y laid keeps (swap_off_log trial.set Secondary)
          was.place;
      old = was.old;
      others = others_logged map trial.set old new s keeps was.others;
    },
  )

  -- Only the log was written, and its state has another kind.
  pub swapped_logged : (from to : RecordKind) (permanent : Bool)
      → (view map new).log ≡ Some (logged to trial.set permanent 0 s)
      → IsSwappedBack (view map old) s trial from → IsSwappedBack (view map new) s trial to
  swapped_logged from to permanent recorded was = record {
    goes = was.goes;
    images = kept.images ∙ was.images;
    permanent = permanent;
    log = recorded;
    within = was.within;
    old = λ i member. subst (λ l. IsFront l (Some (trial.old i))) (sym (kept.slots i Primary refl)) (was.old i member);
    others = others_logged map trial.set old new s keeps was.others;
  }

  -- An image of the set: its old image runs, and nothing is requested.
  returned_member : (i : ℕ) → i < s.images → is_member trial.set i ≡ true
      → IsSwappedBack (view map old) s trial log.BackSettle → AreSettled (view map old) trial.set true
      → IsImageAt (view map new) (reverted s trial) i
  returned_member i lt member was settled =
      let erased = (settled.each i (subst (λ n. i < n) (sym was.images) lt) member).both.erased in
      record {
        running = subst (λ held. IsFront ((view map new).slot i Primary) held)
            (sym (if_true (is_member trial.set i) (Some (trial.old i)) (s.running i) member))
            (subst (λ l. IsFront l (Some (trial.old i))) (sym (kept.slots i Primary refl)) (was.old i member));
        request = subst
            (λ (wanted : Option Wanted). IsRequested ((view map new).trailer i Secondary)
            ((view map new).slot i Secondary) wanted)
            (sym (if_true (is_member trial.set i) None (s.request i) member))
            (none_asked ((view map new).trailer i Secondary) ((view map new).slot i Secondary)
            (kept.trailers i Secondary refl ∙ erased));
      }

  -- An image outside the set is unchanged.
  returned_other : (i : ℕ) → i < s.images → is_member trial.set i ≡ false
      → IsSwappedBack (view map old) s trial log.BackSettle → IsImageAt (view map new) (reverted s trial) i
  returned_other i lt other was = image_outside map new s (reverted s trial) i
      (if_false (is_member trial.set i) (Some (trial.old i)) (s.running i) other)
      (if_false (is_member trial.set i) None (s.request i) other)
      (others_logged map trial.set old new s keeps was.others i lt other)

  pub returned : (view map new).log ≡ Some (logged log.Steady 0 false 0 s)
      → IsSwappedBack (view map old) s trial log.BackSettle → AreSettled (view map old) trial.set true
      → IsSteadyAt (view map new) (reverted s trial)
  returned recorded was settled = record {
    trial = refl;
    images = kept.images ∙ was.images;
    log = recorded;
    each = λ i lt. ⊎_elim
        (λ (member : is_member trial.set i ≡ true). returned_member i lt member was settled)
        (λ (other : is_member trial.set i ≡ false). returned_other i lt other was)
        (member_or (is_member trial.set i));
  }

-- Trailers of the set are written.
pub returning_kept : (map : SectorMap) (old new : Chip) (mask : ℕ) (s : DeviceState) (trial : Trial) (kind : RecordKind)
    → mask ≡ trial.set → Keeps map (trailers_in mask) old new → IsSwappedBack (view map old) s trial kind
    → IsSwappedBack (view map new) s trial kind
returning_kept map old new mask s trial kind is keeps was =
    let here : Keeps map (trailers_in trial.set) old new = subst (λ m. Keeps map (trailers_in m) old new) is keeps in
    let kept : KeepsView (trailers_in trial.set) (view map old) (view map new) =
    view_kept map (trailers_in trial.set) old new here in
    record {
      goes = was.goes;
      images = kept.images ∙ was.images;
      permanent = was.permanent;
      log = kept.log refl ∙ was.log;
      within = was.within;
      old = λ i member. subst (λ l. IsFront l (Some (trial.old i))) (sym (kept.slots i Primary refl))
          (was.old i member);
      others = λ i lt other. image_same map old new s i (kept.slots i Primary refl) (kept.slots i Secondary refl)
          (kept.trailers i Secondary other) (was.others i lt other);
    }

-- The old images of a set that is swapped back are intact.
pub returned_intact : (w : View) (s : DeviceState) (trial : Trial) (kind : RecordKind) (mask i : ℕ)
    → mask ≡ trial.set → IsSwappedBack w s trial kind → IsLost w mask Primary i → ⊥
returned_intact w s trial kind mask i is was lost =
    let member : is_member trial.set i ≡ true = sym (ap (λ m. is_member m i) is) ∙ lost.member in
    held_lost _ (trial.old i, was.old i member) lost.lost

kind_record : (map : SectorMap) (w : Chip) (state : State) (s : DeviceState) (trial : Trial) (a b : RecordKind)
    (permanent : Bool) → (view map w).log ≡ Some state
    → (view map w).log ≡ Some (logged a trial.set permanent 0 s)
    → record state { kind = b; permanent = false } ≡ logged b trial.set false 0 s
kind_record map w state s trial a b permanent read is = ap
    (λ (st : State). record st { kind = b; permanent = false })
    (same_state map w state (logged a trial.set permanent 0 s) read is)

steady_record : (map : SectorMap) (w : Chip) (state : State) (s : DeviceState) (trial : Trial) (permanent : Bool)
    → (view map w).log ≡ Some state → (view map w).log ≡ Some (logged log.BackSettle trial.set permanent 0 s)
    → rests_with state state.floors ≡ logged log.Steady 0 false 0 s
steady_record map w state s trial permanent read is = ap (λ (st : State). rests_with st st.floors)
    (same_state map w state (logged log.BackSettle trial.set permanent 0 s) read is)

module _ (map : SectorMap) (old new : Chip) (state : State) (read : (view map old).log ≡ Some state)
    (keeps : Keeps map (only Log) old new) where
  pub back_settle_ok : (view map new).log ≡ Some (record state { kind = log.BackSettle; permanent = false })
      → (s : DeviceState) (trial : Trial) → IsSwappedBack (view map old) s trial log.Back
      → IsSwappedBack (view map new) s trial log.BackSettle
  back_settle_ok recorded s trial was = swapped_logged map old new s trial keeps log.Back log.BackSettle false
      (recorded ∙ ap (λ st. Some st) (kind_record map old state s trial log.Back log.BackSettle was.permanent read
      was.log)) was

  pub back_settle_either : (laid : IsLaidOut map old)
      → ((view map new).log ≡ (view map old).log)
      ⊎ ((view map new).log ≡ Some (record state { kind = log.BackSettle; permanent = false }))
      → (s : DeviceState) (trial : Trial) → IsSwappingBackSome map old s trial
      → IsSwappedBack (view map old) s trial log.Back → IsGoingBack map new s trial
  back_settle_either laid either s trial swapping was = ⊎_elim
      (λ (same : (view map new).log ≡ (view map old).log). inl
      (back_logged map old new s trial keeps laid same swapping))
      (λ (recorded : (view map new).log ≡ Some (record state { kind = log.BackSettle; permanent = false })). inr
      (back_settle_ok recorded s trial was))
      either

  pub return_ok : (view map new).log ≡ Some (rests_with state state.floors)
      → (s : DeviceState) (trial : Trial) → IsSwappedBack (view map old) s trial log.BackSettle
      → AreSettled (view map old) trial.set true → IsSteadyAt (view map new) (reverted s trial)
  return_ok recorded s trial was settled = returned map old new s trial keeps
      (recorded ∙ ap (λ st. Some st) (steady_record map old state s trial was.permanent read was.log)) was settled

  pub return_either : ((view map new).log ≡ (view map old).log)
      ⊎ ((view map new).log ≡ Some (rests_with state state.floors))
      → (s : DeviceState) (trial : Trial) → IsSwappedBack (view map old) s trial log.BackSettle
      → AreSettled (view map old) trial.set true
      → IsSwappedBack (view map new) s trial log.BackSettle ⊎ IsSteadyAt (view map new) (reverted s trial)
  return_either either s trial was settled = ⊎_elim
      (λ (same : (view map new).log ≡ (view map old).log). inl
      (swapped_logged map old new s trial keeps log.BackSettle log.BackSettle was.permanent (same ∙ was.log) was))
      (λ (recorded : (view map new).log ≡ Some (rests_with state state.floors)). inr
      (return_ok recorded s trial was settled))
      either

-- Reverting, from its record to its end.
pub back_finishes : (map : SectorMap) (new : Chip) (s : DeviceState) (trial : Trial)
    → IsSwappedBack (view map new) s trial log.BackSettle ⊎ IsSteadyAt (view map new) (reverted s trial)
    → IsGoingBack map new s trial ⊎ IsSteadyAt (view map new) (reverted s trial)
back_finishes map new s trial either = ⊎_elim
    (λ (still : IsSwappedBack (view map new) s trial log.BackSettle). inl (inr still))
    (λ (done : IsSteadyAt (view map new) (reverted s trial)). inr done)
    either
