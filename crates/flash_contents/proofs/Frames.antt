-- What doesn't change in a state if some parts of the flash are written.
use Rattle.std.proofs.Common.{◌≡◌, ℕ, ◌+◌, ◌≤◌, Bool, false, List, length, take, Some, refl, sym, ◌∙◌, ap, subst, arith}
use Rattle.std.proofs.Math.Bool.{and-false}
use Rattle.std.proofs.Common.{◌-◌, ◌++◌, drop}
use Rattle.std.proofs.lemmas.List.{append_assoc}
use Rattle.std.proofs.Math.Seq.{take-add, take-append_seam, drop-append_seam}
use Rattle.common.specs.Bytes.{Starts}
use Rattle.flash_model.specs.Chip.{Chip}
use Rattle.sector_map.specs.declared.layout.SectorMap.{SectorMap}
use Rattle.sector_map.specs.declared.layout.Side.{Side}
use Rattle.sector_map.specs.declared.layout.Side.TheVariants.{Primary, Secondary}
use Rattle.sector_map.specs.Part.{Part, Slot, TrailerOf, Log, only, trailers_on}
use Rattle.common.specs.Masks.{is_member}
use Rattle.sector_map.specs.Map.{Keeps}
use Rattle.set_log.specs.declared.state.State.{State}
use Rattle.set_log.specs.declared.state.RecordKind.TheVariants as log
use Rattle.upload.specs.View.{view}
use Rattle.upload.proofs.Views.{view_kept}
use Rattle.machine.specs.Device.{DeviceState}
use Rattle.upload.specs.Steady.{IsFront, IsRequested, IsImageAt, IsSteadyAt}

-- An image depends on its slots and its secondary trailer only.
pub image_same : (map : SectorMap) (old new : Chip) (s : DeviceState) (i : ℕ)
    → (view map new).slot i Primary ≡ (view map old).slot i Primary
    → (view map new).slot i Secondary ≡ (view map old).slot i Secondary
    → (view map new).trailer i Secondary ≡ (view map old).trailer i Secondary → IsImageAt (view map old) s i
    → IsImageAt (view map new) s i
image_same map old new s i first second trailer was = record {
  running = subst (λ l. IsFront l (s.running i)) (sym first) was.running;
  request = subst (λ l. IsRequested ((view map new).trailer i Secondary) l (s.request i)) (sym second)
      (subst (λ t. IsRequested t ((view map old).slot i Secondary) (s.request i)) (sym trailer) was.request);
}

-- Parts that a device at rest doesn't depend on.
pub record IsAside (touched : Part → Bool) : Type 0 where
  pub slots : (i : ℕ) (side : Side) → touched (Slot i side) ≡ false
  pub secondary : (i : ℕ) → touched (TrailerOf i Secondary) ≡ false
  pub log : touched Log ≡ false

pub steady_kept : (map : SectorMap) (touched : Part → Bool) (old new : Chip) (s : DeviceState)
    → Keeps map touched old new → IsAside touched → IsSteadyAt (view map old) s → IsSteadyAt (view map new) s
steady_kept map touched old new s keeps aside was = record {
  trial = was.trial;
  images = (view_kept map _ _ _ keeps).images ∙ was.images;
  log = (view_kept map _ _ _ keeps).log aside.log ∙ was.log;
  each = λ i lt. image_same map old new s i
      ((view_kept map _ _ _ keeps).slots i Primary (aside.slots i Primary))
      ((view_kept map _ _ _ keeps).slots i Secondary (aside.slots i Secondary))
      ((view_kept map _ _ _ keeps).trailers i Secondary (aside.secondary i)) (was.each i lt);
}

-- Only the log was written, and its state is unchanged.
pub steady_logged : (map : SectorMap) (old new : Chip) (s : DeviceState) → Keeps map (only Log) old new
    → (view map new).log ≡ (view map old).log → IsSteadyAt (view map old) s → IsSteadyAt (view map new) s
steady_logged map old new s keeps recorded was = record {
  trial = was.trial;
  images = (view_kept map _ _ _ keeps).images ∙ was.images;
  log = recorded ∙ was.log;
  each = λ i lt. image_same map old new s i ((view_kept map _ _ _ keeps).slots i Primary refl)
      ((view_kept map _ _ _ keeps).slots i Secondary refl)
      ((view_kept map _ _ _ keeps).trailers i Secondary refl) (was.each i lt);
}

pub primary_aside : (mask : ℕ) → IsAside (trailers_on mask Primary)
primary_aside mask = record { slots = λ i side. refl; secondary = λ i. and-false (is_member mask i); log = refl }

-- The record of a device at rest, with these floors.
abbrev pub rests_with : State → List ℕ → State
rests_with state floors = record {
  kind = log.Steady;
  mask = 0;
  permanent = false;
  left = 0;
  sequence = state.sequence;
  floors = floors;
}

-- The record of a swap that begins.
abbrev pub swaps_with : State → ℕ → Bool → State
swaps_with state mask permanent = record {
  kind = log.Swap;
  mask = mask;
  permanent = permanent;
  left = 0;
  sequence = state.sequence;
  floors = state.floors;
}

-- Two readings of one log are the same.
pub same_state : (map : SectorMap) (w : Chip) (a b : State) → (view map w).log ≡ Some a
    → (view map w).log ≡ Some b → a ≡ b
same_state map w a b first second = let e : Some a ≡ Some b = sym first ∙ second in cc

-- The first `n` bytes begin with an image that isn't longer.
pub starts_take : (n : ℕ) (whole bytes : List ℕ) → Starts whole bytes → length bytes ≤ n → Starts (take n whole) bytes
starts_take n whole bytes (rest, is) le =
    let long : n ≡ length bytes + (n - length bytes) = omega arith in (
      take (n - length bytes) rest,
      ap (λ k. take k whole) long ∙ take-add (length bytes) (n - length bytes) whole
          ∙ ap (λ l. take (length bytes) l ++ take (n - length bytes) (drop (length bytes) l)) is
          ∙ ap (λ l. l ++ take (n - length bytes) (drop (length bytes) (bytes ++ rest))) (take-append_seam bytes rest)
          ∙ ap (λ l. bytes ++ take (n - length bytes) l) (drop-append_seam bytes rest),
    )

pub starts_trans : (whole front bytes : List ℕ) → Starts whole front → Starts front bytes → Starts whole bytes
starts_trans whole front bytes (rest, is) (more, also) =
    (more ++ rest, is ∙ ap (λ l. l ++ rest) also ∙ append_assoc bytes more rest)
