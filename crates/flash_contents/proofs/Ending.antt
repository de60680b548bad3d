-- An upgrade ends.
use Rattle.std.proofs.Common.{◌≡◌, ℕ, ◌<◌, ◌⊎◌, Bool, true, false, List, Option, Some, None, refl, sym, ◌∙◌, ap}
use Rattle.std.proofs.Common.{subst, inl, inr, ⊎_elim, if◌then◌else◌}
use Rattle.std.proofs.lemmas.Option.{none-some}
use Rattle.flash_model.specs.Chip.{Chip}
use Rattle.sector_map.specs.declared.layout.SectorMap.{SectorMap}
use Rattle.sector_map.specs.declared.layout.Side.TheVariants.{Primary, Secondary}
use Rattle.sector_map.specs.Part.{Log, only, trailers_in}
use Rattle.common.specs.Masks.{is_member}
use Rattle.sector_map.specs.Map.{Keeps}
use Rattle.trailer.specs.Fields.{Fields, erased_fields}
use Rattle.set_log.specs.declared.state.State.{State}
use Rattle.upload.specs.View.{view}
use Rattle.upload.proofs.Views.{view_kept}
use Rattle.machine.specs.Device.{DeviceState}
use Rattle.upload.specs.Steady.{IsFront, IsRequested, IsImageAt, IsSteadyAt, logged}
use Rattle.reports.specs.declared.table.Table.{Table}
use Rattle.machine.specs.States.{wanted_bytes, settled, with_taken, bytes_or_none, new_trial}
use Rattle.flash_contents.specs.Holding.{IsTrialAt, IsSwapped, AreSettled}
use Rattle.flash_contents.specs.Passing.{IsTakenAt}
use Rattle.flash_contents.proofs.Frames.{rests_with, same_state}
use Rattle.flash_contents.proofs.Swapping.{settle_logged, others_logged, settling_kept}
use Rattle.machine.proofs.Tables.{running_bytes}
use Rattle.set_log.specs.declared.state.RecordKind.TheVariants as log

pub if_true : {X : Type 0} (b : Bool) (x y : X) → b ≡ true → (if b then x else y) ≡ x
if_true true x y e = refl
if_true false x y e = cc

pub if_false : {X : Type 0} (b : Bool) (x y : X) → b ≡ false → (if b then x else y) ≡ y
if_false true x y e = cc
if_false false x y e = refl

-- An image outside a set that is taken is unchanged.
pub image_outside : (map : SectorMap) (w : Chip) (s t : DeviceState) (i : ℕ) → t.running i ≡ s.running i
    → t.request i ≡ s.request i → IsImageAt (view map w) s i → IsImageAt (view map w) t i
image_outside map w s t i runs asks was = record {
  running = subst (λ held. IsFront ((view map w).slot i Primary) held) (sym runs) was.running;
  request = subst (λ wanted. IsRequested ((view map w).trailer i Secondary)
      ((view map w).slot i Secondary) wanted) (sym asks) was.request;
}

-- The image that ran is kept for a trial.
pub old_kept : (held : Option (List ℕ)) (bytes : List ℕ) → held ≡ Some bytes → Some (bytes_or_none held) ≡ held
old_kept held bytes is = ap (λ h. Some (bytes_or_none h)) is ∙ sym is

-- An erased trailer has no request.
pub none_asked : (trailer : Fields) (slot : List ℕ) → trailer ≡ erased_fields → IsRequested trailer slot None
none_asked trailer slot erased = subst (λ t. IsRequested t slot None) (sym erased)
    (record { kind = refl; front = λ w e. absurd (none-some w e) })

pub trial_begins : (map : SectorMap) (old new : Chip) (s : DeviceState) (table : Table) (mask left : ℕ)
    → Keeps map (only Log) old new → (view map new).log ≡ Some (logged log.Trial mask false left s)
    → IsSwapped (view map old) s table log.Settle mask false → AreSettled (view map old) mask false
    → IsTrialAt (view map new) (with_taken s mask s.floors (Some (new_trial s mask left))) (new_trial s mask left)
trial_begins map old new s table mask left keeps recorded was settled =
    let within : (i : ℕ) → is_member mask i ≡ true
    → i < (view map old).images = λ i member. subst (λ n. i < n) (sym was.images)
    (was.decision.chosen.within i member) in
    let after = with_taken s mask s.floors (Some (new_trial s mask left)) in
    record {
      opened = record {
        trial = refl;
        images = (view_kept map _ _ _ keeps).images ∙ was.images;
        permanent = false;
        log = recorded;
        within = was.decision.chosen.within;
        tried = λ i member.
            let done = (settled.each i (within i member) member).both in
            let bytes = running_bytes s table i was.decision.chosen.rows (was.decision.chosen.within i member) in
            record {
              running = subst (λ held. IsFront ((view map new).slot i Primary) held)
                  (sym (if_true (is_member mask i) (wanted_bytes (s.request i)) (s.running i) member))
                  (subst (λ l. IsFront l (wanted_bytes (s.request i)))
                  (sym ((view_kept map _ _ _ keeps).slots i Primary refl)) (was.asked i member));
              old = subst (λ held. IsFront ((view map new).slot i Secondary) held)
                  (sym (old_kept (s.running i) bytes.0 bytes.1))
                  (subst (λ l. IsFront l (s.running i))
                  (sym ((view_kept map _ _ _ keeps).slots i Secondary refl)) (was.ran i member));
              confirmed = ap (λ (t : Fields). t.image_ok)
                  ((view_kept map _ _ _ keeps).trailers i Primary refl) ∙ done.image_ok;
              good = ap (λ (t : Fields). t.magic) ((view_kept map _ _ _ keeps).trailers i Primary refl) ∙ done.magic;
              copied = ap (λ (t : Fields). t.copy_done)
                  ((view_kept map _ _ _ keeps).trailers i Primary refl) ∙ done.copy_done;
            };
        gone = λ i member. if_true (is_member mask i) None (s.request i) member;
        others = λ i lt other. image_outside map new s after i
            (if_false (is_member mask i) (wanted_bytes (s.request i)) (s.running i) other)
            (if_false (is_member mask i) None (s.request i) other)
            (others_logged map mask old new s keeps was.others i lt other);
      };
      unset = λ i member. ap (λ (t : Fields). t.magic)
          ((view_kept map _ _ _ keeps).trailers i Secondary refl ∙
          (settled.each i (within i member) member).both.erased);
    }

pub member_or : (b : Bool) → (b ≡ true) ⊎ (b ≡ false)
member_or true = inl refl
member_or false = inr refl

pub taken_stands : (map : SectorMap) (old new : Chip) (s : DeviceState) (table : Table) (mask : ℕ)
    (floors : List ℕ) → Keeps map (only Log) old new
    → (view map new).log ≡ Some (logged log.Steady 0 false 0 (with_taken s mask floors None))
    → IsSwapped (view map old) s table log.Settle mask true → AreSettled (view map old) mask true
    → IsSteadyAt (view map new) (with_taken s mask floors None)
taken_stands map old new s table mask floors keeps recorded was settled =
    let within : (i : ℕ) → is_member mask i ≡ true
    → i < (view map old).images = λ i member. subst (λ n. i < n) (sym was.images)
    (was.decision.chosen.within i member) in
    let after = with_taken s mask floors None in
    record {
      trial = refl;
      images = (view_kept map _ _ _ keeps).images ∙ was.images;
      log = recorded;
      each = λ i lt. ⊎_elim
          (λ (member : is_member mask i ≡ true). record {
            running = subst (λ held. IsFront ((view map new).slot i Primary) held)
                (sym (if_true (is_member mask i) (wanted_bytes (s.request i)) (s.running i) member))
                (subst (λ l. IsFront l (wanted_bytes (s.request i)))
                (sym ((view_kept map _ _ _ keeps).slots i Primary refl)) (was.asked i member));
            request = subst (λ wanted. IsRequested ((view map new).trailer i Secondary)
                ((view map new).slot i Secondary) wanted) (sym (if_true (is_member mask i) None (s.request i) member))
                (none_asked ((view map new).trailer i Secondary) ((view map new).slot i Secondary)
                ((view_kept map _ _ _ keeps).trailers i Secondary refl ∙
                (settled.each i (within i member) member).both.erased));
          })
          (λ (other : is_member mask i ≡ false). image_outside map new s after i
          (if_false (is_member mask i) (wanted_bytes (s.request i)) (s.running i) other)
          (if_false (is_member mask i) None (s.request i) other)
          (others_logged map mask old new s keeps was.others i lt other))
          (member_or (is_member mask i));
    }

trial_record : (map : SectorMap) (w : Chip) (state : State) (mask left : ℕ) (s : DeviceState)
    → (view map w).log ≡ Some state → (view map w).log ≡ Some (logged log.Settle mask false 0 s)
    → record state { kind = log.Trial; permanent = false; left = left } ≡ logged log.Trial mask false left s
trial_record map w state mask left s read is = ap
    (λ (st : State). record st { kind = log.Trial; permanent = false; left = left })
    (same_state map w state (logged log.Settle mask false 0 s) read is)

pub trial_ok : (map : SectorMap) (old new : Chip) (state : State) (left : ℕ)
    → (view map old).log ≡ Some state → Keeps map (only Log) old new
    → (view map new).log ≡ Some (record state { kind = log.Trial; permanent = false; left = left })
    → (s : DeviceState) (table : Table) (mask : ℕ) → IsSwapped (view map old) s table log.Settle mask false
    → AreSettled (view map old) mask false
    → IsTrialAt (view map new) (with_taken s mask s.floors (Some (new_trial s mask left))) (new_trial s mask left)
trial_ok map old new state left read keeps recorded s table mask was settled =
    trial_begins map old new s table mask left keeps
    (recorded ∙ ap (λ st. Some st) (trial_record map old state mask left s read was.log)) was settled

pub trial_either : (map : SectorMap) (old new : Chip) (state : State) (left : ℕ)
    → (view map old).log ≡ Some state → Keeps map (only Log) old new
    → ((view map new).log ≡ (view map old).log)
    ⊎ ((view map new).log ≡ Some (record state { kind = log.Trial; permanent = false; left = left }))
    → (s : DeviceState) (table : Table) (mask : ℕ) → IsSwapped (view map old) s table log.Settle mask false
    → AreSettled (view map old) mask false
    → IsSwapped (view map new) s table log.Settle mask false
    ⊎ IsTrialAt (view map new) (with_taken s mask s.floors (Some (new_trial s mask left))) (new_trial s mask left)
trial_either map old new state left read keeps either s table mask was settled = ⊎_elim
    (λ (same : (view map new).log ≡ (view map old).log). inl
    (settle_logged map old new s table log.Settle log.Settle mask false keeps (same ∙ was.log) was))
    (λ recorded. inr (trial_ok map old new state left read keeps recorded s table mask was settled))
    either

good_record : (map : SectorMap) (w : Chip) (state : State) (mask : ℕ) (floors : List ℕ) (s : DeviceState)
    → (view map w).log ≡ Some state → (view map w).log ≡ Some (logged log.Settle mask true 0 s)
    → rests_with state floors ≡ logged log.Steady 0 false 0 (with_taken s mask floors None)
good_record map w state mask floors s read is = ap (λ (st : State). rests_with st floors)
    (same_state map w state (logged log.Settle mask true 0 s) read is)

pub good_ok : (map : SectorMap) (old new : Chip) (state : State) (floors : List ℕ)
    → (view map old).log ≡ Some state → Keeps map (only Log) old new
    → (view map new).log ≡ Some (rests_with state floors)
    → (s : DeviceState) (table : Table) (mask : ℕ) → IsSwapped (view map old) s table log.Settle mask true
    → AreSettled (view map old) mask true → IsSteadyAt (view map new) (with_taken s mask floors None)
good_ok map old new state floors read keeps recorded s table mask was settled =
    taken_stands map old new s table mask floors keeps
    (recorded ∙ ap (λ st. Some st) (good_record map old state mask floors s read was.log)) was settled

pub good_either : (map : SectorMap) (old new : Chip) (state : State) (floors : List ℕ)
    → (view map old).log ≡ Some state → Keeps map (only Log) old new
    → ((view map new).log ≡ (view map old).log)
    ⊎ ((view map new).log ≡ Some (rests_with state floors))
    → (s : DeviceState) (table : Table) (mask : ℕ) → IsSwapped (view map old) s table log.Settle mask true
    → AreSettled (view map old) mask true
    → IsSwapped (view map new) s table log.Settle mask true ⊎ IsSteadyAt (view map new) (with_taken s mask floors None)
good_either map old new state floors read keeps either s table mask was settled = ⊎_elim
    (λ (same : (view map new).log ≡ (view map old).log). inl
    (settle_logged map old new s table log.Settle log.Settle mask true keeps (same ∙ was.log) was))
    (λ recorded. inr (good_ok map old new state floors read keeps recorded s table mask was settled))
    either

-- A settled set is recorded as one that stays, or as one on trial.
pub conclude : (map : SectorMap) (old mid new : Chip) (mask : ℕ) (permanent good : Bool) (left : ℕ)
    (floors : List ℕ) → permanent ≡ good → Keeps map (trailers_in mask) old mid
    → AreSettled (view map mid) mask permanent
    → ((s : DeviceState) (table : Table) (mask : ℕ) → IsSwapped (view map mid) s table log.Settle mask good
    → AreSettled (view map mid) mask good
    → IsSwapped (view map new) s table log.Settle mask good ⊎ IsTakenAt (view map new) s mask good left floors)
    → (s : DeviceState) (table : Table) → IsSwapped (view map old) s table log.Settle mask permanent
    → IsSwapped (view map new) s table log.Settle mask permanent
    ⊎ IsTakenAt (view map new) s mask permanent left floors
conclude map old mid new mask permanent good left floors e keeps settled ends s table was =
    subst (λ (b : Bool). AreSettled (view map mid) mask b → IsSwapped (view map old) s table log.Settle mask b
    → IsSwapped (view map new) s table log.Settle mask b ⊎ IsTakenAt (view map new) s mask b left floors) (sym e)
    (λ now before. ends s table mask (settling_kept map old mid mask keeps s table log.Settle good before) now)
    settled was
