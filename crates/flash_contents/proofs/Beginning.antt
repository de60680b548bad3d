-- A swap begins: its set is recorded and prepared.
use Rattle.std.proofs.Common.{◌≡◌, ℕ, ◌<◌, ◌≤◌, ◌⊎◌, Bool, true, false, List, length, take, Option, Some, refl}
use Rattle.std.proofs.Common.{sym, ◌∙◌, ap, subst, arith, inl, inr, ⊎_elim}
use Rattle.std.proofs.lemmas.Option.{none-some}
use Rattle.swap_scratch.proofs.Contents.{begins}
use Rattle.swap_scratch.proofs.Sizes.{moves_enough}
use Rattle.sector_map.proofs.Parts.{laid_out_kept}
use Rattle.flash_model.specs.Chip.{Chip}
use Rattle.sector_map.specs.declared.layout.SectorMap.{SectorMap}
use Rattle.sector_map.specs.declared.layout.Side.TheVariants.{Primary, Secondary}
use Rattle.sector_map.specs.Part.{Log, only, trailers_on}
use Rattle.common.specs.Masks.{is_member}
use Rattle.sector_map.specs.Map.{IsLaidOut, Keeps}
use Rattle.trailer.specs.Fields.{Fields}
use Rattle.set_log.specs.declared.state.State.{State}
use Rattle.swap_scratch.specs.Used.{used_bytes}
use Rattle.upload.specs.View.{view}
use Rattle.upload.proofs.Views.{view_kept}
use Rattle.machine.specs.Device.{DeviceState}
use Rattle.upload.specs.Steady.{IsFront, IsImageAt, IsSteadyAt, logged}
use Rattle.reports.specs.declared.table.Table.{Table}
use Rattle.machine.specs.States.{wanted_bytes}
use Rattle.machine.specs.Boots.{IsDecision}
use Rattle.flash_contents.specs.Holding.{IsSwapping}
use Rattle.flash_contents.specs.Passing.{IsSwappingSome}
use Rattle.flash_contents.specs.Prepared.{IsRoomFor, IsPrepared}
use Rattle.flash_contents.proofs.Frames.{image_same, steady_kept, steady_logged, primary_aside}
use Rattle.flash_contents.proofs.Frames.{same_state, starts_take, swaps_with}
use Rattle.set_log.specs.declared.state.RecordKind.TheVariants as log
use Rattle.machine.proofs.Tables.{running_bytes, member_bytes}

-- The first `n` bytes of a slot hold the slot's image if it isn't longer.
pub front_take : (n : ℕ) (whole : List ℕ) (held : Option (List ℕ)) (bytes : List ℕ) → held ≡ Some bytes
    → IsFront whole held → length bytes ≤ n → IsFront (take n whole) held
front_take n whole held bytes is front le = record {
  image = λ other e.
      let same : bytes ≡ other = cc in
      let found = front.image other e in
      (starts_take n whole other found.0 (subst (λ (l : List ℕ). length l ≤ n) same le), found.1);
  none = λ e. absurd (none-some bytes (sym (sym is ∙ e)));
}

pub le_trans : (a b c : ℕ) → a ≤ b → b ≤ c → a ≤ c
le_trans a b c ab bc = omega arith

-- The image at the start of a slot isn't longer than a size that fits it.
pub front_short : (whole : List ℕ) (held : Option (List ℕ)) (bytes : List ℕ) (n : ℕ) → held ≡ Some bytes
    → IsFront whole held → IsRoomFor whole n → length bytes ≤ n
front_short whole held bytes n is front room =
    let found = front.image bytes is in room.each bytes found.1.0 found.0 found.1.1

-- With the record of the decision, the set is at a place of the swap.
pub swap_begins : (map : SectorMap) (old new : Chip) (laid : IsLaidOut map old) (s : DeviceState)
    (table : Table) (mask : ℕ) (permanent : Bool) (written : State)
    → IsSteadyAt (view map old) s → IsDecision s table mask permanent
    → ((i : ℕ) → i < (view map old).images → is_member mask i ≡ true → IsPrepared (view map old) Primary i)
    → Keeps map (only Log) old new → (view map new).log ≡ Some written → written ≡ logged log.Swap mask permanent 0 s
    → IsSwapping map new s table mask permanent
    (λ i. take (used_bytes map new Primary i) ((view map new).slot i Primary))
    (λ i. take (used_bytes map new Primary i) ((view map new).slot i Secondary))
swap_begins map old new laid s table mask permanent written was decision prepared keeps recorded is =
    let within : (i : ℕ) → is_member mask i ≡ true
    → i < (view map old).images = λ i member. subst (λ n. i < n) (sym was.images) (decision.chosen.within i member) in
    let trailer : (i : ℕ) → (view map new).trailer i Primary ≡ (view map old).trailer i Primary = λ i.
    (view_kept map _ _ _ keeps).trailers i Primary refl in
    let enough : (i : ℕ) → (member : is_member mask i ≡ true)
    → (prepared i (within i member) member).room.0 ≤ used_bytes map new Primary i =
    λ i member. moves_enough map new Primary i _ laid.is_map
    (ap (λ (t : Fields). t.size) (trailer i) ∙ (prepared i (within i member) member).room.1.size) in
    let at : (i : ℕ) → is_member mask i ≡ true
    → IsImageAt (view map old) s i = λ i member. was.each i (decision.chosen.within i member) in
    record {
      trial = was.trial;
      images = (view_kept map _ _ _ keeps).images ∙ was.images;
      log = recorded ∙ ap (λ state. Some state) is;
      decision = decision;
      place = begins map new Primary mask (laid_out_kept map _ _ _ laid keeps) within
          (λ i member. ap (λ (t : Fields). t.is_fresh) (trailer i) ∙ (prepared i (within i member) member).fresh);
      ran = λ i member.
          let bytes = running_bytes s table i decision.chosen.rows (decision.chosen.within i member) in
          let slot = (view_kept map _ _ _ keeps).slots i Primary refl in
          front_take (used_bytes map new Primary i) ((view map new).slot i Primary)
          (s.running i) bytes.0 bytes.1 (subst (λ l. IsFront l (s.running i)) (sym slot) (at i member).running)
          (le_trans _ _ _ (front_short ((view map old).slot i Primary) (s.running i) bytes.0
          (prepared i (within i member) member).room.0 bytes.1 (at i member).running
          ((prepared i (within i member) member).room.1.both.each Primary)) (enough i member));
      asked = λ i member.
          let found = member_bytes s table mask permanent i decision member in
          let slot = (view_kept map _ _ _ keeps).slots i Secondary refl in
          let wants : wanted_bytes (s.request i) ≡ Some found.1 = ap wanted_bytes found.2 ∙ found.3 in
          let front : IsFront ((view map old).slot i Secondary) (wanted_bytes (s.request i)) = subst
          (λ held. IsFront ((view map old).slot i Secondary) held) (sym (ap wanted_bytes found.2))
          ((at i member).request.front found.0 found.2) in
          front_take (used_bytes map new Primary i) ((view map new).slot i Secondary)
          (wanted_bytes (s.request i)) found.1 wants
          (subst (λ l. IsFront l (wanted_bytes (s.request i))) (sym slot) front)
          (le_trans _ _ _ (front_short ((view map old).slot i Secondary) (wanted_bytes (s.request i)) found.1
          (prepared i (within i member) member).room.0 wants front
          ((prepared i (within i member) member).room.1.both.each Secondary)) (enough i member));
      others = λ i lt other. image_same map old new s i ((view_kept map _ _ _ keeps).slots i Primary refl)
          ((view_kept map _ _ _ keeps).slots i Secondary refl)
          ((view_kept map _ _ _ keeps).trailers i Secondary refl) (was.each i lt);
    }

begun_record : (map : SectorMap) (w : Chip) (s : DeviceState) (state : State) (mask : ℕ) (permanent : Bool)
    → (view map w).log ≡ Some state → IsSteadyAt (view map w) s
    → swaps_with state mask permanent ≡ logged log.Swap mask permanent 0 s
begun_record map w s state mask permanent read was =
    let is = same_state map w state (logged log.Steady 0 false 0 s) read was.log in
    ap (λ (st : State). swaps_with st mask permanent) is

-- Beginning the swap, if the calls succeed.
pub begin_ok : (map : SectorMap) (old mid new : Chip) (laid : IsLaidOut map old) (state : State) (mask : ℕ)
    (permanent : Bool) → (view map old).log ≡ Some state → Keeps map (trailers_on mask Primary) old mid
    → ((i : ℕ) → i < (view map old).images → is_member mask i ≡ true → IsPrepared (view map mid) Primary i)
    → Keeps map (only Log) mid new
    → (view map new).log ≡ Some (swaps_with state mask permanent)
    → (s : DeviceState) (table : Table) → IsSteadyAt (view map old) s → IsDecision s table mask permanent
    → IsSwappingSome map new s table mask permanent
begin_ok map old mid new laid state mask permanent read first prepared keeps recorded s table was decision =
    let now = steady_kept map (trailers_on mask Primary) old mid s first (primary_aside mask) was in (
      _,
      _,
      swap_begins map mid new (laid_out_kept map _ _ _ laid first) s table mask permanent _ now decision
          (λ i lt member. prepared i (subst (λ n. i < n)
          (view_kept map _ _ _ first).images lt) member) keeps recorded
          (begun_record map old s state mask permanent read was),
    )

-- Beginning the swap, even if a call fails.
pub begin_either : (map : SectorMap) (old mid new : Chip) (laid : IsLaidOut map old) (state : State)
    (mask : ℕ) (permanent : Bool) → (view map old).log ≡ Some state → Keeps map (trailers_on mask Primary) old mid
    → ((i : ℕ) → i < (view map old).images → is_member mask i ≡ true → IsPrepared (view map mid) Primary i)
    → Keeps map (only Log) mid new
    → ((view map new).log ≡ (view map mid).log)
    ⊎ ((view map new).log ≡ Some (swaps_with state mask permanent))
    → (s : DeviceState) (table : Table) → IsSteadyAt (view map old) s → IsDecision s table mask permanent
    → IsSteadyAt (view map new) s ⊎ IsSwappingSome map new s table mask permanent
begin_either map old mid new laid state mask permanent read first prepared keeps either s table was decision = ⊎_elim
    (λ (same : (view map new).log ≡ (view map mid).log). inl
    (steady_logged map mid new s keeps same
    (steady_kept map (trailers_on mask Primary) old mid s first (primary_aside mask) was)))
    (λ recorded. inr (begin_ok map old mid new laid state mask permanent read first prepared keeps recorded s table
    was decision))
    either
