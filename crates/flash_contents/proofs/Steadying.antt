-- A boot of a device at rest.
use Rattle.std.proofs.Common.{◌≡◌, ℕ, ◌<◌, ◌≤◌, ◌%◌, ◌^◌, ◌==◌, true, false, length, Some, refl, sym, ◌∙◌, ap, subst}
use Rattle.std.proofs.Common.{⊎_elim, inl}
use Rattle.std.proofs.lemmas.Option.{slice_get_past}
use Rattle.std.proofs.lemmas.Bool.{cases_lt, false≢true}
use Rattle.std.specs.Option.{option_map_or}
use mathlib.Core.Path.{fun_ext}
use Rattle.std.proofs.Math.Nat.{zero-div}
use Rattle.flash_model.specs.Chip.{Chip}
use Rattle.sector_map.specs.declared.layout.SectorMap.{SectorMap}
use Rattle.common.specs.Masks.{is_member}
use Rattle.set_log.specs.declared.state.State.{State}
use Rattle.upload.specs.View.{view}
use Rattle.machine.specs.Device.{DeviceState}
use Rattle.upload.specs.Steady.{IsSteadyAt, logged}
use Rattle.reports.specs.declared.table.Table.{Table}
use Rattle.reports.specs.declared.report.Report.{Report}
use Rattle.reports.specs.Combination.{IsGreatest}
use Rattle.reports.specs.Rightness.{taken_in}
use Rattle.machine.specs.Boots.{IsChosen, IsReported, IsLowestDamaged}
use Rattle.flash_contents.specs.Holding.{Rests}
use Rattle.flash_contents.specs.Passing.{EndsBoot}
use Rattle.flash_contents.specs.Reading.{CanReadAt, CanRead, IsFinding, HasImages}
use Rattle.flash_contents.specs.declared.finding.Finding.{Finding}
use Rattle.flash_contents.specs.declared.finding.Finding.TheVariants.{Decided, Damaged, Invalid}
use Rattle.machine.specs.declared.reply.Reply.TheVariants.{Booted, Refused}
use Rattle.machine.specs.declared.error.Fault.TheVariants.{RunningDamaged, InvalidSet}
use Rattle.flash_contents.proofs.Frames.{same_state}
use Rattle.set_log.specs.declared.state.RecordKind.TheVariants as log

pub no_member : (i : ℕ) → is_member 0 i ≡ false
unfolding is_member
no_member i = ap (λ n. n % 2 == 1) (zero-div (2 ^ i))

pub taken_below : (report : Report) (n i : ℕ) → length report.images.items ≡ n → taken_in report i ≡ true → i < n
taken_below report n i long taken = ⊎_elim
    (λ (lt : i < length report.images.items). subst (λ m. i < m) long lt)
    (λ (le : length report.images.items ≤ i). absurd
    (false≢true (sym (ap (λ o. option_map_or (λ image. image.is_taken) o false)
    (slice_get_past report.images.items i le)) ∙ taken)))
    (cases_lt i (length report.images.items))

-- The table of a device at rest can be read.
pub can_read : (map : SectorMap) (w : Chip) (s : DeviceState) (state : State) → (view map w).log ≡ Some state
    → IsSteadyAt (view map w) s → CanRead (view map w) s 0 state.floors
can_read map w s state read was = record {
  images = was.images;
  floors = ap (λ (st : State). st.floors) (sym (same_state map w state (logged log.Steady 0 false 0 s) read was.log));
  each = λ i lt. subst (λ b. CanReadAt (view map w) s b i) (sym (no_member i)) (was.each i lt);
}

pub chosen_of : (map : SectorMap) (w : Chip) (s : DeviceState) (table : Table) (report : Report) (mask : ℕ)
    → IsSteadyAt (view map w) s → IsReported s table report → HasImages (view map w).images (Decided table report)
    → ((i : ℕ) → is_member mask i ≡ taken_in report i) → (mask ≡ 0 → ⊥) → IsChosen s table mask
chosen_of map w s table report mask was reported has same some = record {
  rows = reported.rows;
  valid = reported.valid;
  greatest = subst (λ t. IsGreatest table t) (sym (fun_ext same)) reported.greatest;
  within = λ i member. subst (λ n. i < n) was.images (has i (sym (same i) ∙ member));
  some = some;
}

pub plain_boots : (map : SectorMap) (boots : ℕ) (w : Chip) (s : DeviceState) (table : Table)
    (report : Report) (mask : ℕ) → IsSteadyAt (view map w) s → IsReported s table report
    → ((i : ℕ) → is_member mask i ≡ taken_in report i) → mask ≡ 0 → EndsBoot map boots w s (Booted table report false)
plain_boots map boots w s table report mask was reported same none = (
  s,
  (
    s,
    inl (was.trial, refl),
    was.trial,
    (
      reported,
      inl (
        (λ i. sym (same i) ∙ ap
            (λ m. is_member m i) none ∙ no_member i),
        refl,
        refl,
      ),
    ),
  ),
  Rests was,
  λ e. inl was,
)

pub damaged_boots : (map : SectorMap) (boots : ℕ) (w : Chip) (s : DeviceState) (i : ℕ)
    → IsSteadyAt (view map w) s → IsLowestDamaged s i → EndsBoot map boots w s (Refused (RunningDamaged i))
damaged_boots map boots w s i was damaged = (s, (inl (was.trial, refl), was.trial, damaged), Rests was, λ e. inl was)

pub invalid_boots : (map : SectorMap) (boots : ℕ) (w : Chip) (s : DeviceState) → IsSteadyAt (view map w) s
    → IsFinding s Invalid → EndsBoot map boots w s (Refused InvalidSet)
invalid_boots map boots w s was invalid = (s, (inl (was.trial, refl), was.trial, invalid), Rests was, λ e. inl was)

-- The result of reading a flash at rest.
module _ (map : SectorMap) (boots : ℕ) (old mid : Chip) (state : State) (finding : Finding)
    (read : (view map old).log ≡ Some state) (same : mid ≡ old)
    (finds : (s : DeviceState) → CanRead (view map old) s 0 state.floors → IsFinding s finding) where
  pub found_as : (other : Finding) → finding ≡ other → (s : DeviceState) → IsSteadyAt (view map old) s
      → IsFinding s other
  found_as other is s was = subst (λ f. IsFinding s f) is (finds s (can_read map old s state read was))

  here : (s : DeviceState) → IsSteadyAt (view map old) s → IsSteadyAt (view map mid) s
  here s was = subst (λ w. IsSteadyAt (view map w) s) (sym same) was

  pub ends_damaged : (i : ℕ) → finding ≡ Damaged i → (s : DeviceState) → IsSteadyAt (view map old) s
      → EndsBoot map boots mid s (Refused (RunningDamaged i))
  ends_damaged i is s was = damaged_boots map boots mid s i (here s was) (found_as (Damaged i) is s was)

  pub ends_invalid : finding ≡ Invalid → (s : DeviceState) → IsSteadyAt (view map old) s
      → EndsBoot map boots mid s (Refused InvalidSet)
  ends_invalid is s was = invalid_boots map boots mid s (here s was) (found_as Invalid is s was)

  pub ends_plain : (table : Table) (report : Report) (mask : ℕ) → finding ≡ Decided table report
      → ((i : ℕ) → is_member mask i ≡ taken_in report i) → mask ≡ 0
      → (s : DeviceState) → IsSteadyAt (view map old) s → EndsBoot map boots mid s (Booted table report false)
  ends_plain table report mask is each none s was = plain_boots map boots mid s table report mask
      (here s was) (found_as (Decided table report) is s was) each none

  pub chosen_here : (table : Table) (report : Report) (mask : ℕ) → finding ≡ Decided table report
      → HasImages (view map old).images finding → ((i : ℕ) → is_member mask i ≡ taken_in report i) → (mask ≡ 0 → ⊥)
      → (s : DeviceState) → IsSteadyAt (view map old) s → IsSteadyAt (view map mid) s × IsChosen s table mask
  chosen_here table report mask is has each some s was = (
    here s was,
    chosen_of map old s table report mask was (found_as (Decided table report) is s was)
        (subst (λ f. HasImages (view map old).images f) is has) each some,
  )
