-- Confirming an image of a trial.
use Rattle.std.proofs.Common.{◌≡◌, ◌⊎◌, ℕ, ◌<◌, ◌==◌, ◌&&◌, Bool, true, false, List, Some, None, refl}
use Rattle.std.proofs.Common.{sym, ◌∙◌, ap, subst, ⊎_elim, inl, inr, if◌then◌else◌, not}
use Rattle.std.proofs.Math.Bool.{and-false}
use Rattle.std.proofs.lemmas.Bool.{eqb-true}
use Rattle.std.proofs.lemmas.Option.{none-some}
use Rattle.flash_model.specs.Chip.{Chip}
use Rattle.sector_map.specs.declared.layout.SectorMap.{SectorMap}
use Rattle.sector_map.specs.declared.layout.Side.TheVariants.{Primary, Secondary}
use Rattle.sector_map.specs.Part.{TrailerOf, Log, only}
use Rattle.common.specs.Masks.{is_member}
use Rattle.sector_map.specs.Map.{Keeps}
use Rattle.trailer.specs.declared.kinds.Magic.TheVariants.{Unset}
use Rattle.trailer.specs.Fields.{Fields}
use Rattle.trailer.specs.Standing.{first_is_set, is_good}
use Rattle.common.specs.Kind.{kind_of}
use Rattle.set_log.specs.declared.state.State.{State}
use Rattle.upload.specs.View.{view}
use Rattle.upload.proofs.Views.{view_kept}
use Rattle.machine.specs.Device.{DeviceState, Trial}
use Rattle.upload.specs.Steady.{IsFront, IsRequested, IsImageAt, IsSteadyAt, logged}
use Rattle.machine.specs.States.{settled, with_confirmed}
use Rattle.machine.specs.Boots.{IsOnTrial}
use Rattle.flash_contents.specs.Holding.{IsTriedAt, IsTrialAt, IsAtRest, Stands, Rests, Tries}
use Rattle.flash_contents.specs.Passing.{EndsConfirm, CutsConfirm}
use Rattle.flash_contents.proofs.Frames.{image_same, same_state}
use Rattle.flash_contents.proofs.Reverting.{tried_same}
use Rattle.flash_contents.proofs.Ending.{image_outside, member_or}
use Rattle.set_log.specs.declared.state.RecordKind.TheVariants as log

-- An image on trial stays so if only its image-ok and the state's other fields change.
tried_kept : (map : SectorMap) (old new : Chip) (s t : DeviceState) (trial after : Trial) (j : ℕ)
    → t.running j ≡ s.running j → after.old j ≡ trial.old j
    → (view map new).slot j Primary ≡ (view map old).slot j Primary
    → (view map new).slot j Secondary ≡ (view map old).slot j Secondary
    → ((view map new).trailer j Primary).magic ≡ ((view map old).trailer j Primary).magic
    → ((view map new).trailer j Primary).copy_done ≡ ((view map old).trailer j Primary).copy_done
    → ((view map new).trailer j Primary).image_ok ≡ after.confirmed j → IsTriedAt (view map old) s trial j
    → IsTriedAt (view map new) t after j
tried_kept map old new s t trial after j runs keeps first second magic copied confirmed was = record {
  running = subst (λ l. IsFront l (t.running j)) (sym first)
      (subst (λ held. IsFront ((view map old).slot j Primary) held) (sym runs) was.running);
  old = subst (λ l. IsFront l (Some (after.old j))) (sym second)
      (subst (λ o. IsFront ((view map old).slot j Secondary) (Some o)) (sym keeps) was.old);
  confirmed = confirmed;
  good = magic ∙ was.good;
  copied = copied ∙ was.copied;
}

confirmed_at : (map : SectorMap) (old new : Chip) (trial : Trial) (i j : ℕ) (b : Bool) → (j == i) ≡ b
    → Keeps map (only (TrailerOf i Primary)) old new
    → (view map new).trailer i Primary ≡ record ((view map old).trailer i Primary) { image_ok = true }
    → ((view map old).trailer j Primary).image_ok ≡ trial.confirmed j
    → (((view map new).trailer j Primary).magic ≡ ((view map old).trailer j Primary).magic)
    × (((view map new).trailer j Primary).copy_done ≡ ((view map old).trailer j Primary).copy_done)
    × (((view map new).trailer j Primary).image_ok ≡ (if b then true else trial.confirmed j))
confirmed_at map old new trial i j true same keeps written was =
    let here : j ≡ i = eqb-true j i same in
    let at : (view map new).trailer j Primary ≡ record
    ((view map old).trailer j Primary) { image_ok = true } = subst
    (λ k. (view map new).trailer k Primary ≡ record
    ((view map old).trailer k Primary) { image_ok = true }) (sym here) written in
    (ap (λ (t : Fields). t.magic) at, ap (λ (t : Fields). t.copy_done) at, ap (λ (t : Fields). t.image_ok) at)
confirmed_at map old new trial i j false same keeps written was =
    let at : (view map new).trailer j Primary ≡ (view map old).trailer j Primary =
    (view_kept map _ _ _ keeps).trailers j Primary (ap (λ b. b && true) same) in
    (ap (λ (t : Fields). t.magic) at, ap (λ (t : Fields). t.copy_done) at, ap (λ (t : Fields). t.image_ok) at ∙ was)

pub confirm_done : (map : SectorMap) (old new : Chip) (s : DeviceState) (trial : Trial) (i : ℕ)
    → Keeps map (only (TrailerOf i Primary)) old new
    → (view map new).trailer i Primary ≡ record ((view map old).trailer i Primary) { image_ok = true }
    → IsTrialAt (view map old) s trial → IsTrialAt (view map new) (with_confirmed s trial i)
    (record trial { confirmed = λ j. if j == i then true else trial.confirmed j })
confirm_done map old new s trial i keeps written was = record {
  opened = record {
    trial = refl;
    images = (view_kept map _ _ _ keeps).images ∙ was.opened.images;
    permanent = was.opened.permanent;
    log = (view_kept map _ _ _ keeps).log refl ∙ was.opened.log;
    within = was.opened.within;
    tried = λ j member.
        let at = was.opened.tried j member in
        let said = confirmed_at map old new trial i j (j == i) refl keeps written at.confirmed in
        tried_kept map old new s (with_confirmed s trial i) trial
        (record trial { confirmed = λ j. if j == i then true else trial.confirmed j }) j refl refl
        ((view_kept map _ _ _ keeps).slots j Primary refl)
        ((view_kept map _ _ _ keeps).slots j Secondary refl) said.0 said.1 said.2 at;
    gone = was.opened.gone;
    others = λ j lt other. image_as (with_confirmed s trial i) new s j refl refl
        (image_same map old new s j ((view_kept map _ _ _ keeps).slots j Primary refl)
        ((view_kept map _ _ _ keeps).slots j Secondary refl)
        ((view_kept map _ _ _ keeps).trailers j Secondary (and-false (j == i))) (was.opened.others j lt other));
  };
  unset = λ j member. ap (λ (t : Fields). t.magic)
      ((view_kept map _ _ _ keeps).trailers j Secondary (and-false (j == i))) ∙ was.unset j member;
} where
  image_as : (t : DeviceState) (w : Chip) (s : DeviceState) (j : ℕ) → t.running j ≡ s.running j
      → t.request j ≡ s.request j → IsImageAt (view map w) s j → IsImageAt (view map w) t j
  image_as t w s j runs asks at = record {
    running = subst (λ held. IsFront ((view map w).slot j Primary) held) (sym runs) at.running;
    request = subst (λ wanted. IsRequested ((view map w).trailer j Secondary)
        ((view map w).slot j Secondary) wanted) (sym asks) at.request;
  }

every_primary : (map : SectorMap) (old new : Chip) (i j : ℕ) (b : Bool) → (j == i) ≡ b
    → Keeps map (only (TrailerOf i Primary)) old new
    → (view map new).trailer i Primary ≡ (view map old).trailer i Primary
    → (view map new).trailer j Primary ≡ (view map old).trailer j Primary
every_primary map old new i j true same keeps at = let here : j ≡ i = eqb-true j i same in subst
    (λ k. (view map new).trailer k Primary ≡ (view map old).trailer k Primary) (sym here) at
every_primary map old new i j false same keeps at = (view_kept map _ _ _ keeps).trailers j Primary
    (ap (λ b. b && true) same)

pub confirm_none : (map : SectorMap) (old new : Chip) (s : DeviceState) (trial : Trial) (i : ℕ)
    → Keeps map (only (TrailerOf i Primary)) old new
    → (view map new).trailer i Primary ≡ (view map old).trailer i Primary → IsTrialAt (view map old) s trial
    → IsTrialAt (view map new) s trial
confirm_none map old new s trial i keeps at was = record {
  opened = record {
    trial = was.opened.trial;
    images = (view_kept map _ _ _ keeps).images ∙ was.opened.images;
    permanent = was.opened.permanent;
    log = (view_kept map _ _ _ keeps).log refl ∙ was.opened.log;
    within = was.opened.within;
    tried = λ j member. tried_same map old new s trial j ((view_kept map _ _ _ keeps).slots j Primary refl)
        ((view_kept map _ _ _ keeps).slots j Secondary refl)
        (every_primary map old new i j (j == i) refl keeps at) (was.opened.tried j member);
    gone = was.opened.gone;
    others = λ j lt other. image_same map old new s j ((view_kept map _ _ _ keeps).slots j Primary refl)
        ((view_kept map _ _ _ keeps).slots j Secondary refl)
        ((view_kept map _ _ _ keeps).trailers j Secondary (and-false (j == i))) (was.opened.others j lt other);
  };
  unset = λ j member. ap (λ (t : Fields). t.magic)
      ((view_kept map _ _ _ keeps).trailers j Secondary (and-false (j == i))) ∙ was.unset j member;
}

-- An image of the map is on trial if the record's mask has it.
pub on_trial : (map : SectorMap) (w : Chip) (s : DeviceState) (trial : Trial) (state : State) (i : ℕ)
    → (view map w).log ≡ Some state → IsTrialAt (view map w) s trial → i < (view map w).images
    → is_member state.mask i ≡ true → IsOnTrial s i trial
on_trial map w s trial state i read was lt member =
    let mask = ap (λ (st : State). st.mask)
    (same_state map w state (logged log.Trial trial.set was.opened.permanent trial.left s) read was.opened.log) in
    (was.opened.trial, subst (λ n. i < n) was.opened.images lt, ap (λ m. is_member m i) (sym mask) ∙ member)

pub confirm_yes : (map : SectorMap) (old new : Chip) (state : State) (i : ℕ)
    → (view map old).log ≡ Some state → i < (view map old).images → is_member state.mask i ≡ true
    → Keeps map (only (TrailerOf i Primary)) old new
    → (view map new).trailer i Primary ≡ record ((view map old).trailer i Primary) { image_ok = true }
    → (s : DeviceState) (trial : Trial) → IsTrialAt (view map old) s trial → IsOnTrial s i trial
    × IsAtRest (view map new) (with_confirmed s trial i)
confirm_yes map old new state i read lt member keeps written s trial was = (
  on_trial map old s trial state i read was lt member,
  inr (
    record trial { confirmed = λ j. if j == i then true else trial.confirmed j },
    confirm_done map old new s trial i keeps written was,
  ),
)

pub confirm_either : (map : SectorMap) (old new : Chip) (state : State) (i : ℕ)
    → (view map old).log ≡ Some state → i < (view map old).images → is_member state.mask i ≡ true
    → Keeps map (only (TrailerOf i Primary)) old new
    → ((view map new).trailer i Primary ≡ (view map old).trailer i Primary)
    ⊎ ((view map new).trailer i Primary ≡ record ((view map old).trailer i Primary) { image_ok = true })
    → (s : DeviceState) (trial : Trial) → IsTrialAt (view map old) s trial → IsTrialAt (view map new) s trial
    ⊎ (IsOnTrial s i trial × IsAtRest (view map new) (with_confirmed s trial i))
confirm_either map old new state i read lt member keeps either s trial was = ⊎_elim
    (λ (same : (view map new).trailer i Primary ≡ (view map old).trailer i Primary). inl
    (confirm_none map old new s trial i keeps same was))
    (λ written. inr (confirm_yes map old new state i read lt member keeps written s trial was))
    either

unset_asks : (trailer : Fields) (slot : List ℕ) → trailer.magic ≡ Unset → IsRequested trailer slot None
unset_asks trailer slot unset = record {
  kind = ap (λ m. if is_good m && (not trailer.withdrawn && first_is_set slot) then Some
      (kind_of trailer.image_ok) else None) unset;
  front = λ w e. absurd (none-some w e);
}

-- A trial is over: the set stays, with the raised floors.
pub trial_over : (map : SectorMap) (old new : Chip) (s : DeviceState) (trial : Trial) (floors : List ℕ)
    → Keeps map (only Log) old new → (view map new).log ≡ Some (logged log.Steady 0 false 0 (settled s floors))
    → IsTrialAt (view map old) s trial → IsSteadyAt (view map new) (settled s floors)
trial_over map old new s trial floors keeps recorded was = record {
  trial = refl;
  images = (view_kept map _ _ _ keeps).images ∙ was.opened.images;
  log = recorded;
  each = λ i lt. ⊎_elim
      (λ (member : is_member trial.set i ≡ true). record {
        running = subst (λ l. IsFront l (s.running i))
            (sym ((view_kept map _ _ _ keeps).slots i Primary refl)) (was.opened.tried i member).running;
        request = subst (λ wanted. IsRequested ((view map new).trailer i Secondary)
            ((view map new).slot i Secondary) wanted) (sym (was.opened.gone i member))
            (unset_asks ((view map new).trailer i Secondary) ((view map new).slot i Secondary)
            (ap (λ (t : Fields). t.magic)
            ((view_kept map _ _ _ keeps).trailers i Secondary refl) ∙ was.unset i member));
      })
      (λ (other : is_member trial.set i ≡ false). image_outside map new s (settled s floors) i refl refl
      (image_same map old new s i ((view_kept map _ _ _ keeps).slots i Primary refl)
      ((view_kept map _ _ _ keeps).slots i Secondary refl)
      ((view_kept map _ _ _ keeps).trailers i Secondary refl) (was.opened.others i lt other)))
      (member_or (is_member trial.set i));
}

pub rest_stands : (map : SectorMap) (w : Chip) (s : DeviceState) → IsAtRest (view map w) s → Stands map w s
rest_stands map w s rest = ⊎_elim (λ (was : IsSteadyAt (view map w) s). Rests was)
    (λ (tried : (trial : Trial) × IsTrialAt (view map w) s trial). Tries tried.0 tried.1) rest

-- The log's record has the kind `Trial`.
pub trial_kind : (map : SectorMap) (w : Chip) (s : DeviceState) (trial : Trial) (state : State)
    → (view map w).log ≡ Some state → IsTrialAt (view map w) s trial → state.kind ≡ log.Trial
trial_kind map w s trial state read was = ap (λ (st : State). st.kind)
    (same_state map w state (logged log.Trial trial.set was.opened.permanent trial.left s) read was.opened.log)

pub steady_kind : (map : SectorMap) (w : Chip) (s : DeviceState) (state : State) → (view map w).log ≡ Some state
    → IsSteadyAt (view map w) s → state.kind ≡ log.Steady
steady_kind map w s state read was = ap (λ (st : State). st.kind)
    (same_state map w state (logged log.Steady 0 false 0 s) read was.log)

module _ (map : SectorMap) (old mid new : Chip) (state : State) (i : ℕ) (same : mid ≡ old)
    (read : (view map old).log ≡ Some state) (kind : state.kind ≡ log.Trial) where
  here : (s : DeviceState) → IsAtRest (view map old) s → (trial : Trial) × IsTrialAt (view map mid) s trial
  here s rest = ⊎_elim
      (λ (was : IsSteadyAt (view map old) s). absurd
      (steady_trial (sym (steady_kind map old s state read was) ∙ kind)))
      (λ (tried : (trial : Trial) × IsTrialAt (view map old) s trial).
      (tried.0, subst (λ w. IsTrialAt (view map w) s tried.0) (sym same) tried.1))
      rest where
        steady_trial : log.Steady ≡ log.Trial → ⊥
        steady_trial e = cc

  pub confirm_ends : (yes : Bool)
      → (yes ≡ true → (s : DeviceState) (trial : Trial) → IsTrialAt (view map mid) s trial
      → IsOnTrial s i trial × IsAtRest (view map new) (with_confirmed s trial i))
      → (yes ≡ false → (s : DeviceState) (trial : Trial) → IsTrialAt (view map mid) s trial
      → IsTrialAt (view map new) s trial × ((other : Trial) → IsOnTrial s i other → ⊥))
      → (s : DeviceState) → IsAtRest (view map old) s → EndsConfirm (view map new) s i yes
  confirm_ends true done none s rest = let at = here s rest in let after = done refl s at.0 at.1 in
      (at.0, after.0, after.1)
  confirm_ends false done none s rest = let at = here s rest in let after = none refl s at.0 at.1 in
      (after.1, inr (at.0, after.0))

  pub confirm_cut : ((s : DeviceState) (trial : Trial) → IsTrialAt (view map mid) s trial
      → IsTrialAt (view map new) s trial ⊎ (IsOnTrial s i trial × IsAtRest (view map new) (with_confirmed s trial i)))
      → ((s : DeviceState) (trial : Trial) → IsTrialAt (view map mid) s trial → IsOnTrial s i trial)
      → (s : DeviceState) → IsAtRest (view map old) s → CutsConfirm (view map new) s i
  confirm_cut stands on s rest = let at = here s rest in (
    at.0,
    on s at.0 at.1,
    ⊎_elim
        (λ (still : IsTrialAt (view map new) s at.0). inl (inr (at.0, still)))
        (λ (done : IsOnTrial s i at.0 × IsAtRest (view map new) (with_confirmed s at.0 i)). inr done.1)
        (stands s at.0 at.1),
  )
