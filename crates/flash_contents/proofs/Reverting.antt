-- A trial is reverted.
use Rattle.std.proofs.Common.{◌≡◌, ℕ, ◌<◌, ◌&&◌, ◌⊎◌, Bool, true, false, List, take, Some, refl, sym, ◌∙◌, ap, subst}
use Rattle.std.proofs.Common.{inl, inr, ⊎_elim}
use Rattle.std.proofs.Math.Bool.{and-false}
use Rattle.swap_scratch.proofs.Contents.{begins}
use Rattle.swap_scratch.proofs.Sizes.{moves_enough}
use Rattle.sector_map.proofs.Parts.{laid_out_kept}
use Rattle.flash_model.specs.Chip.{Chip}
use Rattle.sector_map.specs.declared.layout.SectorMap.{SectorMap}
use Rattle.sector_map.specs.declared.layout.Side.TheVariants.{Primary, Secondary}
use Rattle.sector_map.specs.Part.{Log, only, trailers_on, swap_of}
use Rattle.common.specs.Masks.{is_member}
use Rattle.sector_map.specs.Map.{IsLaidOut, Keeps}
use Rattle.trailer.specs.Fields.{Fields}
use Rattle.set_log.specs.declared.state.State.{State}
use Rattle.swap_scratch.specs.Swap.{IsSwapAt}
use Rattle.swap_scratch.specs.Used.{used_bytes}
use Rattle.upload.specs.View.{view}
use Rattle.upload.proofs.Views.{view_kept}
use Rattle.machine.specs.Device.{DeviceState, Trial}
use Rattle.common.specs.Bytes.{Starts}
use Rattle.upload.specs.Steady.{IsFront, logged}
use Rattle.machine.specs.Boots.{GoesBack}
use Rattle.flash_contents.specs.Holding.{IsTriedAt, IsTrialOpen, IsSwappedBack}
use Rattle.flash_contents.specs.Passing.{IsSwappingBackSome}
use Rattle.flash_contents.specs.Prepared.{IsPrepared}
use Rattle.flash_contents.proofs.Frames.{image_same, same_state}
use Rattle.flash_contents.proofs.Beginning.{front_take, front_short, le_trans}
use Rattle.flash_contents.proofs.Swapping.{others_logged, others_swapped, front_moved}
use Rattle.set_log.specs.declared.state.RecordKind.TheVariants as log

no_and : (a b : Bool) → a ≡ false → (a && b) ≡ false
no_and true b e = cc
no_and false b e = refl

pub tried_same : (map : SectorMap) (old new : Chip) (s : DeviceState) (trial : Trial) (i : ℕ)
    → (view map new).slot i Primary ≡ (view map old).slot i Primary
    → (view map new).slot i Secondary ≡ (view map old).slot i Secondary
    → (view map new).trailer i Primary ≡ (view map old).trailer i Primary
    → IsTriedAt (view map old) s trial i → IsTriedAt (view map new) s trial i
tried_same map old new s trial i first second trailer was = record {
  running = subst (λ l. IsFront l (s.running i)) (sym first) was.running;
  old = subst (λ l. IsFront l (Some (trial.old i))) (sym second) was.old;
  confirmed = ap (λ (t : Fields). t.image_ok) trailer ∙ was.confirmed;
  good = ap (λ (t : Fields). t.magic) trailer ∙ was.good;
  copied = ap (λ (t : Fields). t.copy_done) trailer ∙ was.copied;
}

-- Secondary trailers of the set are written.
pub open_kept : (map : SectorMap) (old new : Chip) (s : DeviceState) (trial : Trial)
    → Keeps map (trailers_on trial.set Secondary) old new → IsTrialOpen (view map old) s trial
    → IsTrialOpen (view map new) s trial
open_kept map old new s trial keeps was = record {
  trial = was.trial;
  images = (view_kept map _ _ _ keeps).images ∙ was.images;
  permanent = was.permanent;
  log = (view_kept map _ _ _ keeps).log refl ∙ was.log;
  within = was.within;
  tried = λ i member. tried_same map old new s trial i ((view_kept map _ _ _ keeps).slots i Primary refl)
      ((view_kept map _ _ _ keeps).slots i Secondary refl)
      ((view_kept map _ _ _ keeps).trailers i Primary (and-false (is_member trial.set i))) (was.tried i member);
  gone = was.gone;
  others = λ i lt other. image_same map old new s i ((view_kept map _ _ _ keeps).slots i Primary refl)
      ((view_kept map _ _ _ keeps).slots i Secondary refl)
      ((view_kept map _ _ _ keeps).trailers i Secondary (no_and _ _ other)) (was.others i lt other);
}

pub open_logged : (map : SectorMap) (old new : Chip) (s : DeviceState) (trial : Trial)
    → Keeps map (only Log) old new → (view map new).log ≡ (view map old).log
    → IsTrialOpen (view map old) s trial → IsTrialOpen (view map new) s trial
open_logged map old new s trial keeps same was = record {
  trial = was.trial;
  images = (view_kept map _ _ _ keeps).images ∙ was.images;
  permanent = was.permanent;
  log = same ∙ was.log;
  within = was.within;
  tried = λ i member. tried_same map old new s trial i ((view_kept map _ _ _ keeps).slots i Primary refl)
      ((view_kept map _ _ _ keeps).slots i Secondary refl)
      ((view_kept map _ _ _ keeps).trailers i Primary refl) (was.tried i member);
  gone = was.gone;
  others = λ i lt other. image_same map old new s i ((view_kept map _ _ _ keeps).slots i Primary refl)
      ((view_kept map _ _ _ keeps).slots i Secondary refl)
      ((view_kept map _ _ _ keeps).trailers i Secondary refl) (was.others i lt other);
}

-- With the record `Back`, the set is at a place of the swap back.
pub back_begins : (map : SectorMap) (old new : Chip) (laid : IsLaidOut map old) (s : DeviceState)
    (trial : Trial) (permanent : Bool) → GoesBack s trial → IsTrialOpen (view map old) s trial
    → ((i : ℕ) → i < (view map old).images → is_member trial.set i ≡ true
    → IsPrepared (view map old) Secondary i) → Keeps map (only Log) old new
    → (view map new).log ≡ Some (logged log.Back trial.set permanent 0 s)
    → IsSwappingBackSome map new s trial
back_begins map old new laid s trial permanent goes was prepared keeps recorded =
    let within : (i : ℕ) → is_member trial.set i ≡ true
    → i < (view map old).images = λ i member. subst (λ n. i < n) (sym was.images) (was.within i member) in
    let trailer : (i : ℕ) → (view map new).trailer i Secondary ≡ (view map old).trailer i Secondary = λ i.
    (view_kept map _ _ _ keeps).trailers i Secondary refl in (
      λ i. take (used_bytes map new Secondary i) ((view map new).slot i Primary),
      λ i. take (used_bytes map new Secondary i) ((view map new).slot i Secondary),
      record {
        goes = goes;
        images = (view_kept map _ _ _ keeps).images ∙ was.images;
        permanent = permanent;
        log = recorded;
        within = was.within;
        place = begins map new Secondary trial.set (laid_out_kept map _ _ _ laid keeps) within
            (λ i member. ap (λ (t : Fields). t.is_fresh) (trailer i) ∙ (prepared i (within i member) member).fresh);
        old = λ i member.
            let ready = prepared i (within i member) member in
            let room = moves_enough map new Secondary i ready.room.0 laid.is_map
            (ap (λ (t : Fields). t.size) (trailer i) ∙ ready.room.1.size) in
            let front = (was.tried i member).old in
            front_take (used_bytes map new Secondary i) ((view map new).slot i Secondary)
            (Some (trial.old i)) (trial.old i) refl
            (subst (λ l. IsFront l (Some (trial.old i)))
            (sym ((view_kept map _ _ _ keeps).slots i Secondary refl)) front)
            (le_trans _ _ _ (front_short ((view map old).slot i Secondary) (Some (trial.old i))
            (trial.old i) ready.room.0 refl front (ready.room.1.both.each Secondary)) room);
        others = others_logged map trial.set old new s keeps was.others;
      },
    )

back_record : (map : SectorMap) (w : Chip) (state : State) (s : DeviceState) (trial : Trial) (permanent : Bool)
    → (view map w).log ≡ Some state → (view map w).log ≡ Some (logged log.Trial trial.set permanent trial.left s)
    → record state { kind = log.Back; permanent = false; left = 0 } ≡ logged log.Back trial.set false 0 s
back_record map w state s trial permanent read is = ap
    (λ (st : State). record st { kind = log.Back; permanent = false; left = 0 })
    (same_state map w state (logged log.Trial trial.set permanent trial.left s) read is)

same_mask : (map : SectorMap) (w : Chip) (state : State) (s : DeviceState) (trial : Trial) (permanent : Bool)
    → (view map w).log ≡ Some state → (view map w).log ≡ Some (logged log.Trial trial.set permanent trial.left s)
    → state.mask ≡ trial.set
same_mask map w state s trial permanent read is = ap (λ (st : State). st.mask)
    (same_state map w state (logged log.Trial trial.set permanent trial.left s) read is)

pub back_kept : (map : SectorMap) (old mid : Chip) (state : State) → (view map old).log ≡ Some state
    → Keeps map (trailers_on state.mask Secondary) old mid
    → (s : DeviceState) (trial : Trial) → IsTrialOpen (view map old) s trial → IsTrialOpen (view map mid) s trial
back_kept map old mid state read keeps s trial was = open_kept map old mid s trial
    (subst (λ m. Keeps map (trailers_on m Secondary) old mid)
    (same_mask map old state s trial was.permanent read was.log) keeps) was

pub back_ok : (map : SectorMap) (old mid new : Chip) (laid : IsLaidOut map old) (state : State)
    → (view map old).log ≡ Some state → Keeps map (trailers_on state.mask Secondary) old mid
    → ((i : ℕ) → i < (view map old).images → is_member state.mask i ≡ true
    → IsPrepared (view map mid) Secondary i) → Keeps map (only Log) mid new
    → (view map new).log ≡ Some (record state { kind = log.Back; permanent = false; left = 0 })
    → (s : DeviceState) (trial : Trial) → GoesBack s trial → IsTrialOpen (view map old) s trial
    → IsSwappingBackSome map new s trial
back_ok map old mid new laid state read first prepared keeps recorded s trial goes was =
    let mask = same_mask map old state s trial was.permanent read was.log in
    back_begins map mid new (laid_out_kept map _ _ _ laid first) s trial false goes
    (back_kept map old mid state read first s trial was)
    (λ i lt member. prepared i (subst (λ n. i < n) (view_kept map _ _ _ first).images lt)
    (ap (λ m. is_member m i) mask ∙ member)) keeps
    (recorded ∙ ap (λ st. Some st) (back_record map old state s trial was.permanent read was.log))

pub back_either : (map : SectorMap) (old mid new : Chip) (laid : IsLaidOut map old) (state : State)
    → (view map old).log ≡ Some state → Keeps map (trailers_on state.mask Secondary) old mid
    → ((i : ℕ) → i < (view map old).images → is_member state.mask i ≡ true
    → IsPrepared (view map mid) Secondary i) → Keeps map (only Log) mid new
    → ((view map new).log ≡ (view map mid).log)
    ⊎ ((view map new).log ≡ Some (record state { kind = log.Back; permanent = false; left = 0 }))
    → (s : DeviceState) (trial : Trial) → GoesBack s trial → IsTrialOpen (view map old) s trial
    → IsTrialOpen (view map new) s trial ⊎ IsSwappingBackSome map new s trial
back_either map old mid new laid state read first prepared keeps either s trial goes was = ⊎_elim
    (λ (same : (view map new).log ≡ (view map mid).log). inl
    (open_logged map mid new s trial keeps same (back_kept map old mid state read first s trial was)))
    (λ recorded. inr (back_ok map old mid new laid state read first prepared keeps recorded s trial goes was))
    either

-- The swap back stays at one of its places. Once it is done, the primary slots hold the old images.
pub back_resumes : (map : SectorMap) (old new : Chip) (mask : ℕ) → Keeps map (swap_of mask Secondary) old new
    → ((x y : ℕ → List ℕ) → IsSwapAt map old Secondary mask x y → IsSwapAt map new Secondary mask x y)
    → (s : DeviceState) (trial : Trial) → mask ≡ trial.set → IsSwappingBackSome map old s trial
    → IsSwappingBackSome map new s trial
back_resumes map old new mask keeps resumes s trial is (x, y, was) =
    let here = subst (λ m. Keeps map (swap_of m Secondary) old new) is keeps in (
      x,
      y,
      record {
        goes = was.goes;
        images = (view_kept map _ _ _ keeps).images ∙ was.images;
        permanent = was.permanent;
        log = (view_kept map _ _ _ keeps).log refl ∙ was.log;
        within = was.within;
        place = subst (λ m. IsSwapAt map new Secondary m x y) is
            (resumes x y (subst (λ m. IsSwapAt map old Secondary m x y) (sym is) was.place));
        old = was.old;
        others = others_swapped map trial.set Secondary old new s here was.others;
      },
    )

pub back_done : (map : SectorMap) (old new : Chip) (mask : ℕ) → Keeps map (swap_of mask Secondary) old new
    → ((x y : ℕ → List ℕ) → IsSwapAt map old Secondary mask x y → (i : ℕ) → is_member mask i ≡ true
    → Starts ((view map new).slot i Primary) (y i) × Starts ((view map new).slot i Secondary) (x i))
    → (s : DeviceState) (trial : Trial) → mask ≡ trial.set → IsSwappingBackSome map old s trial
    → IsSwappedBack (view map new) s trial log.Back
back_done map old new mask keeps swapped s trial is (x, y, was) =
    let here = subst (λ m. Keeps map (swap_of m Secondary) old new) is keeps in
    record {
      goes = was.goes;
      images = (view_kept map _ _ _ keeps).images ∙ was.images;
      permanent = was.permanent;
      log = (view_kept map _ _ _ keeps).log refl ∙ was.log;
      within = was.within;
      old = λ i member.
          let moved = swapped x y (subst (λ m. IsSwapAt map old Secondary m x y) (sym is) was.place) i
          (ap (λ m. is_member m i) is ∙ member) in
          front_moved ((view map new).slot i Primary) (y i) (Some (trial.old i)) (trial.old i) refl moved.0
          (was.old i member);
      others = others_swapped map trial.set Secondary old new s here was.others;
    }
