-- On any flash whose log has a record Steady, it can't be that the device is at rest in no state.
use Rattle.std.proofs.Common.{◌≡◌, ◌≢◌, ℕ, zero, suc, ◌<◌, ◌==◌, ◌&&◌, Bool, true, false, not, List, Option, Some, None, if◌then◌else◌, arith, refl, sym, ap, subst, ◌∙◌}
use Rattle.std.proofs.lemmas.Bool.{and_parts, eqb-true}
use Rattle.std.proofs.lemmas.Bool.Decides.{Decides-eqb}
use Rattle.std.proofs.Common.{true≢false}
use Rattle.std.proofs.lemmas.Option.{none-some}
use Rattle.flash_model.specs.Chip.{Chip}
use Rattle.sector_map.specs.declared.layout.SectorMap.{SectorMap}
use Rattle.sector_map.specs.declared.layout.Side.TheVariants.{Primary, Secondary}
use Rattle.trailer.specs.Fields.{Fields}
use Rattle.common.specs.declared.kind.Kind as request
use Rattle.set_log.specs.Log.{state_of}
use Rattle.set_log.specs.Record.{kind_fits}
use Rattle.set_log.specs.declared.state.State.{State}
use Rattle.set_log.specs.declared.state.RecordKind.{RecordKind}
use Rattle.set_log.specs.declared.state.RecordKind.TheVariants as log
use Rattle.common.specs.Bytes.{Starts}
use Rattle.image_reading.specs.declared.desc.Desc.{Desc}
use Rattle.image_reading.specs.Image.{IsIntact}
use Rattle.machine.specs.Device.{DeviceState, Wanted}
use Rattle.upload.specs.Steady.{IsFront, IsRequested, IsSteadyAt, logged, told_by}
use Rattle.upload.specs.View.{view}
use Rattle.boot_core.proofs.Records.{kind_of_read}

some_same : {X : Type 0} (x y : X) → Some x ≡ Some y → x ≡ y
some_same x y e = cc

-- Bytes begin with an intact image, or with none.
front_somehow : (whole : List ℕ) → ((held : Option (List ℕ)) → IsFront whole held → ⊥) → ⊥
front_somehow whole never = never None (record {
  image = λ bytes e. absurd (none-some bytes e);
  none = λ e bytes description starts intact. never (Some bytes) (record {
    image = λ other same. subst (λ b. Starts whole b × ((d : Desc) × IsIntact b d)) (some_same bytes other same)
        (starts, (description, intact));
    none = λ e. absurd (none-some bytes (sym e));
  });
})

-- Something is requested, or nothing is.
request_told : (fields : Fields) (slot : List ℕ) (told : Option request.Kind) → told_by fields slot ≡ told
    → ((wanted : Option Wanted) → IsRequested fields slot wanted → ⊥) → ⊥
request_told fields slot None is never = never None (record {
  kind = is;
  front = λ w e. absurd (none-some w e);
})
request_told fields slot (Some kind) is never = front_somehow slot (λ held front.
    let asked : Wanted = record { bytes = held; kind = kind } in
    never (Some asked) (record {
      kind = is;
      front = λ w e. subst (λ (v : Wanted). IsFront slot v.bytes) (some_same asked w e) front;
    }))

request_somehow : (fields : Fields) (slot : List ℕ)
    → ((wanted : Option Wanted) → IsRequested fields slot wanted → ⊥) → ⊥
request_somehow fields slot = request_told fields slot (told_by fields slot) refl

-- A choice of values extends to one more number.
more : {X : Type 0} (P : ℕ → X → Type 0) (f : ℕ → X) (x : X) (n i : ℕ) (b : Bool) → (i == n) ≡ b → P n x
    → ((j : ℕ) → j < n → P j (f j)) → i < suc n → P i (if b then x else f i)
more P f x n i true e at below lt = subst (λ k. P k x) (sym (eqb-true i n e)) at
more P f x n i false e at below lt =
    let away : i ≢ n = λ is. true≢false (sym ((Decides-eqb i n).1 is) ∙ e) in
    below i (omega (arith, lt, away))

-- If no number lacks a value, a choice of values for all can't be lacking.
choose_below : {X : Type 0} (P : ℕ → X → Type 0) (any : X) → ((i : ℕ) → ((x : X) → P i x → ⊥) → ⊥)
    → (n : ℕ) → ((f : ℕ → X) → ((i : ℕ) → i < n → P i (f i)) → ⊥) → ⊥
choose_below P any each zero never = never (λ i. any) (λ i lt. absurd (omega (arith, lt)))
choose_below P any each (suc n) never = choose_below P any each n (λ f below. each n (λ x at.
    never (λ i. if i == n then x else f i) (λ i lt. more P f x n i (i == n) refl at below lt)))

steady_parts : (mask left : ℕ) (permanent : Bool) → kind_fits log.Steady mask permanent left ≡ true
    → (mask ≡ 0) × (permanent ≡ false) × (left ≡ 0)
steady_parts mask left true fits =
    absurd (let e : false ≡ true = (and_parts (mask == 0) (not true && (left == 0)) fits).1 in cc)
steady_parts mask left false fits =
    let parts = and_parts (mask == 0) (not false && (left == 0)) fits in
    (eqb-true mask 0 parts.0, refl, eqb-true left 0 parts.1)

at_rest : (state : State) → state.kind ≡ log.Steady → state.mask ≡ 0 → state.permanent ≡ false → state.left ≡ 0
    → state ≡ record state { kind = log.Steady; mask = 0; permanent = false; left = 0 }
at_rest state is none test over = ap (λ (k : RecordKind). record state { kind = k }) is
    ∙ ap (λ (m : ℕ). record state { kind = log.Steady; mask = m }) none
    ∙ ap (λ (p : Bool). record state { kind = log.Steady; mask = 0; permanent = p }) test
    ∙ ap (λ (l : ℕ). record state { kind = log.Steady; mask = 0; permanent = false; left = l }) over

pub rests_somehow : (map : SectorMap) (chip : Chip) (state : State) → state_of map chip ≡ Some state
    → state.kind ≡ log.Steady → ((s : DeviceState) → IsSteadyAt (view map chip) s → ⊥) → ⊥
rests_somehow map chip state read kind never =
    let parts = steady_parts state.mask state.left state.permanent (kind_of_read map chip state log.Steady read kind) in
    choose_below (λ i held. IsFront ((view map chip).slot i Primary) held) None
    (λ i. front_somehow ((view map chip).slot i Primary)) map.images (λ runs running.
    choose_below
    (λ i wanted. IsRequested ((view map chip).trailer i Secondary) ((view map chip).slot i Secondary) wanted) None
    (λ i. request_somehow ((view map chip).trailer i Secondary) ((view map chip).slot i Secondary)) map.images
    (λ asks asked.
    let s : DeviceState = record {
      images = map.images;
      running = runs;
      request = asks;
      floors = state.floors;
      sequence = state.sequence;
      trial = None;
    } in
    let rest : state ≡ logged log.Steady 0 false 0 s = at_rest state kind parts.0 parts.1 parts.2 in
    never s (record {
      trial = refl;
      images = refl;
      log = read ∙ ap (λ (x : State). Some x) rest;
      each = λ i lt. record { running = running i lt; request = asked i lt };
    })))
