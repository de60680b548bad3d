-- A swap is resumed, settled, and ends.
use Rattle.std.proofs.Common.{◌≡◌, ℕ, ◌<◌, ◌==◌, ◌&&◌, ◌⊎◌, Bool, true, false, List, Option, Some, refl, sym}
use Rattle.std.proofs.Common.{◌∙◌, ap, subst, inl, inr, ⊎_elim}
use Rattle.std.proofs.lemmas.Option.{none-some}
use Rattle.swap_scratch.proofs.Staying.{stays}
use Rattle.flash_model.specs.Chip.{Chip}
use Rattle.sector_map.specs.declared.layout.SectorMap.{SectorMap}
use Rattle.sector_map.specs.declared.layout.Side.{Side}
use Rattle.sector_map.specs.declared.layout.Side.TheVariants.{Primary, Secondary}
use Rattle.sector_map.specs.Part.{Part, Slot, TrailerOf, Scratch, Log, only, swap_of, trailers_in}
use Rattle.common.specs.Masks.{is_member}
use Rattle.sector_map.specs.Part.{trailers_of}
use Rattle.sector_map.specs.Map.{IsLaidOut, Keeps}
use Rattle.trailer.specs.Settled.{IsSettled}
use Rattle.set_log.specs.declared.state.State.{State}
use Rattle.set_log.specs.declared.state.RecordKind.{RecordKind}
use Rattle.swap_scratch.specs.Swap.{IsSwapAt}
use Rattle.upload.specs.View.{view}
use Rattle.upload.proofs.Views.{view_kept}
use Rattle.machine.specs.Device.{DeviceState}
use Rattle.common.specs.Bytes.{Starts}
use Rattle.upload.specs.Steady.{IsFront, IsImageAt, logged}
use Rattle.reports.specs.declared.table.Table.{Table}
use Rattle.machine.specs.States.{wanted_bytes}
use Rattle.flash_contents.specs.Holding.{IsSwapped, IsSettledAt}
use Rattle.flash_contents.specs.Passing.{IsSwappingSome}
use Rattle.flash_contents.proofs.Frames.{image_same, same_state, starts_trans}
use Rattle.flash_contents.proofs.Preparing.{eqb_no}
use Rattle.machine.proofs.Tables.{running_bytes, member_bytes}
use Rattle.set_log.specs.declared.state.RecordKind.TheVariants as log

-- A swap writes nothing in the log.
pub swap_off_log : (mask : ℕ) (side : Side) (part : Part) → swap_of mask side part ≡ true → only Log part ≡ false
swap_off_log mask side (Slot i on) e = refl
swap_off_log mask side (TrailerOf i on) e = refl
swap_off_log mask side Scratch e = refl
swap_off_log mask side Log e = sym e

-- The other images, while a set is swapped.
pub others_swapped : (map : SectorMap) (mask : ℕ) (on : Side) (old new : Chip) (s : DeviceState)
    → Keeps map (swap_of mask on) old new
    → ((i : ℕ) → i < s.images → is_member mask i ≡ false → IsImageAt (view map old) s i) → (i : ℕ)
    → i < s.images → is_member mask i ≡ false → IsImageAt (view map new) s i
others_swapped map mask on old new s keeps was i lt other = image_same map old new s i
    ((view_kept map _ _ _ keeps).slots i Primary other) ((view_kept map _ _ _ keeps).slots i Secondary other)
    ((view_kept map _ _ _ keeps).trailers i Secondary (no_and _ _ other)) (was i lt other) where
      no_and : (a b : Bool) → a ≡ false → (a && b) ≡ false
      no_and true b e = cc
      no_and false b e = refl

-- A swap stays at one of its places.
pub swap_resumes : (map : SectorMap) (old new : Chip) (mask : ℕ) → Keeps map (swap_of mask Primary) old new
    → ((x y : ℕ → List ℕ) → IsSwapAt map old Primary mask x y → IsSwapAt map new Primary mask x y)
    → (s : DeviceState) (table : Table) (permanent : Bool) → IsSwappingSome map old s table mask permanent
    → IsSwappingSome map new s table mask permanent
swap_resumes map old new mask keeps resumes s table permanent (x, y, was) = (
  x,
  y,
  record {
    trial = was.trial;
    images = (view_kept map _ _ _ keeps).images ∙ was.images;
    log = (view_kept map _ _ _ keeps).log refl ∙ was.log;
    decision = was.decision;
    place = resumes x y was.place;
    ran = was.ran;
    asked = was.asked;
    others = others_swapped map mask Primary old new s keeps was.others;
  },
)

-- The image that a slot holds is at the start of its contents.
pub front_moved : (whole contents : List ℕ) (held : Option (List ℕ)) (bytes : List ℕ) → held ≡ Some bytes
    → Starts whole contents → IsFront contents held → IsFront whole held
front_moved whole contents held bytes is starts front = record {
  image = λ given e. let found = front.image given e in (starts_trans whole contents given starts found.0, found.1);
  none = λ e. absurd (none-some bytes (sym (sym is ∙ e)));
}

-- A swap is done.
pub swap_done : (map : SectorMap) (old new : Chip) (mask : ℕ) → Keeps map (swap_of mask Primary) old new
    → ((x y : ℕ → List ℕ) → IsSwapAt map old Primary mask x y → (i : ℕ) → is_member mask i ≡ true
    → Starts ((view map new).slot i Primary) (y i) × Starts ((view map new).slot i Secondary) (x i))
    → (s : DeviceState) (table : Table) (permanent : Bool) → IsSwappingSome map old s table mask permanent
    → IsSwapped (view map new) s table log.Swap mask permanent
swap_done map old new mask keeps swapped s table permanent (x, y, was) = record {
  trial = was.trial;
  images = (view_kept map _ _ _ keeps).images ∙ was.images;
  log = (view_kept map _ _ _ keeps).log refl ∙ was.log;
  decision = was.decision;
  ran = λ i member.
      let bytes = running_bytes s table i was.decision.chosen.rows (was.decision.chosen.within i member) in
      front_moved ((view map new).slot i Secondary) (x i) (s.running i) bytes.0 bytes.1
      (swapped x y was.place i member).1 (was.ran i member);
  asked = λ i member.
      let found = member_bytes s table mask permanent i was.decision member in
      front_moved ((view map new).slot i Primary) (y i) (wanted_bytes (s.request i)) found.1
      (ap wanted_bytes found.2 ∙ found.3) (swapped x y was.place i member).0 (was.asked i member);
  others = others_swapped map mask Primary old new s keeps was.others;
}

pub others_logged : (map : SectorMap) (mask : ℕ) (old new : Chip) (s : DeviceState) → Keeps map (only Log) old new
    → ((i : ℕ) → i < s.images → is_member mask i ≡ false → IsImageAt (view map old) s i) → (i : ℕ)
    → i < s.images → is_member mask i ≡ false → IsImageAt (view map new) s i
others_logged map mask old new s keeps was i lt other = image_same map old new s i
    ((view_kept map _ _ _ keeps).slots i Primary refl) ((view_kept map _ _ _ keeps).slots i Secondary refl)
    ((view_kept map _ _ _ keeps).trailers i Secondary refl) (was i lt other)

pub swap_logged : (map : SectorMap) (old new : Chip) (laid : IsLaidOut map old) (s : DeviceState)
    (table : Table) (mask : ℕ) (permanent : Bool) → Keeps map (only Log) old new
    → (view map new).log ≡ (view map old).log
    → IsSwappingSome map old s table mask permanent → IsSwappingSome map new s table mask permanent
swap_logged map old new laid s table mask permanent keeps same (x, y, was) = (
  x,
  y,
  record {
    trial = was.trial;
    images = (view_kept map _ _ _ keeps).images ∙ was.images;
    log = same ∙ was.log;
    decision = was.decision;
    place = stays map Primary mask (only Log) old new x y laid keeps (swap_off_log mask Primary) was.place;
    ran = was.ran;
    asked = was.asked;
    others = others_logged map mask old new s keeps was.others;
  },
)

pub settle_logged : (map : SectorMap) (old new : Chip) (s : DeviceState) (table : Table) (from to : RecordKind)
    (mask : ℕ) (permanent : Bool) → Keeps map (only Log) old new
    → (view map new).log ≡ Some (logged to mask permanent 0 s)
    → IsSwapped (view map old) s table from mask permanent → IsSwapped (view map new) s table to mask permanent
settle_logged map old new s table from to mask permanent keeps recorded was = record {
  trial = was.trial;
  images = (view_kept map _ _ _ keeps).images ∙ was.images;
  log = recorded;
  decision = was.decision;
  ran = λ i member. subst (λ l. IsFront l (s.running i))
      (sym ((view_kept map _ _ _ keeps).slots i Secondary refl)) (was.ran i member);
  asked = λ i member. subst (λ l. IsFront l (wanted_bytes (s.request i)))
      (sym ((view_kept map _ _ _ keeps).slots i Primary refl)) (was.asked i member);
  others = others_logged map mask old new s keeps was.others;
}

settle_record : (map : SectorMap) (w : Chip) (state : State) (a b : RecordKind) (mask : ℕ) (permanent : Bool)
    (s : DeviceState) → (view map w).log ≡ Some state → (view map w).log ≡ Some (logged a mask permanent 0 s)
    → record state { kind = b } ≡ logged b mask permanent 0 s
settle_record map w state a b mask permanent s read is = ap (λ (st : State). record st { kind = b })
    (same_state map w state (logged a mask permanent 0 s) read is)

-- The record changes from `Swap` to `Settle`.
pub settle_ok : (map : SectorMap) (old new : Chip) (state : State) → (view map old).log ≡ Some state
    → Keeps map (only Log) old new → (view map new).log ≡ Some (record state { kind = log.Settle })
    → (s : DeviceState) (table : Table) (mask : ℕ) (permanent : Bool)
    → IsSwapped (view map old) s table log.Swap mask permanent
    → IsSwapped (view map new) s table log.Settle mask permanent
settle_ok map old new state read keeps recorded s table mask permanent was =
    settle_logged map old new s table log.Swap log.Settle mask permanent keeps
    (recorded ∙ ap (λ st. Some st)
    (settle_record map old state log.Swap log.Settle mask permanent s read was.log)) was

pub settle_either : (map : SectorMap) (old new : Chip) (laid : IsLaidOut map old) (state : State)
    → (view map old).log ≡ Some state → Keeps map (only Log) old new
    → ((view map new).log ≡ (view map old).log) ⊎ ((view map new).log ≡ Some (record state { kind = log.Settle }))
    → (s : DeviceState) (table : Table) (mask : ℕ) (permanent : Bool)
    → IsSwappingSome map old s table mask permanent → IsSwapped (view map old) s table log.Swap mask permanent
    → IsSwappingSome map new s table mask permanent ⊎ IsSwapped (view map new) s table log.Settle mask permanent
settle_either map old new laid state read keeps either s table mask permanent swapping was = ⊎_elim
    (λ (same : (view map new).log ≡ (view map old).log). inl
    (swap_logged map old new laid s table mask permanent keeps same swapping))
    (λ recorded. inr (settle_ok map old new state read keeps recorded s table mask permanent was))
    either

-- Trailers of the set are written.
pub settling_kept : (map : SectorMap) (old new : Chip) (mask : ℕ) → Keeps map (trailers_in mask) old new
    → (s : DeviceState) (table : Table) (kind : RecordKind) (permanent : Bool)
    → IsSwapped (view map old) s table kind mask permanent → IsSwapped (view map new) s table kind mask permanent
settling_kept map old new mask keeps s table kind permanent was = record {
  trial = was.trial;
  images = (view_kept map _ _ _ keeps).images ∙ was.images;
  log = (view_kept map _ _ _ keeps).log refl ∙ was.log;
  decision = was.decision;
  ran = λ i member. subst (λ l. IsFront l (s.running i))
      (sym ((view_kept map _ _ _ keeps).slots i Secondary refl)) (was.ran i member);
  asked = λ i member. subst (λ l. IsFront l (wanted_bytes (s.request i)))
      (sym ((view_kept map _ _ _ keeps).slots i Primary refl)) (was.asked i member);
  others = λ i lt other. image_same map old new s i ((view_kept map _ _ _ keeps).slots i Primary refl)
      ((view_kept map _ _ _ keeps).slots i Secondary refl)
      ((view_kept map _ _ _ keeps).trailers i Secondary other) (was.others i lt other);
}

-- A settled image stays so while another image is settled.
pub settled_kept : (map : SectorMap) (i j : ℕ) (permanent : Bool) (old new : Chip) → (i ≡ j → ⊥)
    → Keeps map (trailers_of j) old new → IsSettledAt (view map old) i permanent
    → IsSettledAt (view map new) i permanent
settled_kept map i j permanent old new ne keeps was = let apart = eqb_no i j (i == j) refl ne in record {
  both = subst (λ t. IsSettled permanent t ((view map new).trailer i Secondary))
      (sym ((view_kept map _ _ _ keeps).trailers i Primary apart))
      (subst (λ t. IsSettled permanent ((view map old).trailer i Primary) t)
      (sym ((view_kept map _ _ _ keeps).trailers i Secondary apart)) was.both);
}
