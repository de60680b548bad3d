-- What holds if a decision is found, and if none is.
use Rattle.std.proofs.Common.{◌≡◌, ℕ, Bool, List, ap, refl, subst}
use Rattle.flash_model.specs.Chip.{Chip}
use Rattle.sector_map.specs.declared.layout.SectorMap.{SectorMap}
use Rattle.sector_map.specs.declared.layout.Side.TheVariants.{Primary}
use Rattle.sector_map.specs.Map.{Keeps}
use Rattle.sector_map.specs.Part.{swap_of}
use Rattle.reports.specs.declared.table.Table.{Table}
use Rattle.reports.specs.declared.report.Report.{Report}
use Rattle.set_log.specs.declared.state.State.{State}
use Rattle.machine.specs.Device.{DeviceState}
use Rattle.upload.specs.View.{View, view}
use Rattle.machine.specs.Boots.{IsDecision, IsReported}
use Rattle.flash_contents.specs.Reading.{CanRead, IsFinding, IsFoundAgain}
use Rattle.flash_contents.specs.Wear.{IsSetFound}
use Rattle.flash_contents.specs.declared.finding.Finding.{Finding}
use Rattle.flash_contents.specs.declared.finding.Finding.TheVariants.{Decided, Damaged, Invalid}
use Rattle.machine.proofs.FoundAgain.{none_damaged, valid_again}
use Rattle.machine.proofs.Unique.{one_table}
use Rattle.decision.specs.Found.{IsFindingAt}
use Rattle.decision.specs.Places.{finding_in}
use Rattle.decision.specs.declared.places.Verdict.{Verdict}
use Rattle.decision.specs.declared.places.Verdict.TheVariants as verdicts
use Rattle.boot_core.specs.Found.{IsKeptFor, IsSwapAloneFor, IsToldAgain, StartsFound}
use Rattle.boot_core.specs.Moving.{settled_parts}
use Rattle.flash_contents.proofs.Starting.{set_kept}
use Rattle.reports.specs.Rightness.{taken_in}
use Rattle.boot_core.specs.FromSwap.{IsSettleRecorded}

-- A finding is no decision.
abbrev pub IsUndecided : Finding → Type 0
IsUndecided finding = (table : Table) (report : Report) → finding ≡ Decided table report → ⊥

-- If no decision is found, none is found again.
pub never_again : (s : DeviceState) (mask : ℕ) (finding : Finding) → IsUndecided finding → IsFoundAgain s mask finding
    → ⊥
never_again s mask (Decided table report) none found = none table report refl
never_again s mask (Damaged i) none found = found
never_again s mask Invalid none found = found

-- If no decision is found, none is recorded.
pub never_recorded : (map : SectorMap) (state : State) (chip : Chip) (finding : Finding) → IsUndecided finding
    → IsSettleRecorded map state chip finding
never_recorded map state chip (Decided table report) none = absurd (none table report refl)
never_recorded map state chip (Damaged i) none = tt
never_recorded map state chip Invalid none = tt

-- Nothing is written.
pub kept_for : (chip : Chip) (finding : Finding) → IsKeptFor chip chip finding
kept_for chip (Decided table report) = tt
kept_for chip (Damaged i) = refl
kept_for chip Invalid = refl

-- Only a swap is written.
pub alone_for : (map : SectorMap) (mask : ℕ) (old new : Chip) (finding : Finding)
    → Keeps map (swap_of mask Primary) old new → IsSwapAloneFor map mask old new finding
alone_for map mask old new (Decided table report) keeps = tt
alone_for map mask old new (Damaged i) keeps = keeps
alone_for map mask old new Invalid keeps = keeps

-- What is reported of a decision that is found.
pub reported : (s : DeviceState) (finding : Finding) (table : Table) (report : Report)
    → finding ≡ Decided table report → IsFinding s finding → IsReported s table report
reported s finding table report is found = subst (λ f. IsFinding s f) is found

-- If a state has a decision, what is found of the state is a decision.
pub none_decided : (s : DeviceState) (table : Table) (mask : ℕ) (permanent : Bool) (finding : Finding)
    → IsUndecided finding → IsDecision s table mask permanent → IsFinding s finding → IsFoundAgain s mask finding
none_decided s table mask permanent (Decided given report) none decision found = absurd (none given report refl)
none_decided s table mask permanent (Damaged i) none decision found =
    none_damaged s table mask permanent i decision found
none_decided s table mask permanent Invalid none decision found =
    found.2 (valid_again found.0 table s mask permanent (one_table s found.0 table found.1 decision.chosen.rows) decision)

-- A finding that is no decision is of any set.
pub set_for : (mask : ℕ) (finding : Finding) → IsUndecided finding → IsSetFound mask finding
set_for mask (Decided table report) none = absurd (none table report refl)
set_for mask (Damaged i) none = tt
set_for mask Invalid none = tt

-- If no decision is found, nothing is said of what the primary slots begin with.
pub starts_none : (w : View) (finding : Finding) → IsUndecided finding → StartsFound w finding
starts_none w (Decided table report) none = absurd (none table report refl)
starts_none w (Damaged i) none = tt
starts_none w Invalid none = tt

-- What the primary slots begin with stays if only trailers and the log are written.
pub starts_settled : (map : SectorMap) (mask : ℕ) (old new : Chip) (finding : Finding)
    → Keeps map (settled_parts mask) old new → StartsFound (view map old) finding
    → StartsFound (view map new) finding
starts_settled map mask old new (Decided table report) keeps starts =
    set_kept map (settled_parts mask) old new keeps (λ i. refl) table (taken_in report) starts
starts_settled map mask old new (Damaged i) keeps starts = tt
starts_settled map mask old new Invalid keeps starts = tt

-- What a finding says of why no decision is found.
pub told_undecided : (w : View) (mask : ℕ) (floors : List ℕ) (finding : Finding) → IsFindingAt w mask finding
    → ((s : DeviceState) → CanRead w s mask floors → IsFinding s finding) → IsToldAgain w mask floors finding
told_undecided w mask floors (Decided table report) front finds = tt
told_undecided w mask floors (Damaged i) front finds = front
told_undecided w mask floors Invalid front finds = (
  front,
  λ s can. let found = finds s can in (found.0, found.1, λ valid greatest. found.2 valid),
)

-- ---- findings in places

-- A verdict that isn't a decision is none in any places.
pub undecided_in : (table : Table) (report : Report) (verdict : Verdict) → (verdict ≡ verdicts.Decided → ⊥)
    → IsUndecided (finding_in table report verdict)
undecided_in table report verdicts.Decided none = λ t r is. none refl
undecided_in table report (verdicts.Damaged i) none = λ t r is. cc
undecided_in table report verdicts.Invalid none = λ t r is. cc

-- A decision in places.
pub decided_in : (table : Table) (report : Report) (verdict : Verdict) → verdict ≡ verdicts.Decided
    → finding_in table report verdict ≡ Decided table report
decided_in table report verdict is = ap (λ v. finding_in table report v) is
