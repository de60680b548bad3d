-- A decision is found again from its record.
use Rattle.std.proofs.Common.{◌≡◌, ℕ, Bool, sym, ◌∙◌, subst}
use Rattle.std.proofs.lemmas.Option.{none-some}
use mathlib.Core.Path.{fun_ext}
use Rattle.common.specs.Masks.{is_member}
use Rattle.machine.specs.Device.{DeviceState}
use Rattle.reports.specs.declared.table.Table.{Table}
use Rattle.reports.specs.declared.report.Report.{Report}
use Rattle.reports.specs.Combination.{IsValid, IsGreatest, running_set}
use Rattle.reports.specs.Rightness.{IsRight, taken_in}
use Rattle.reports.specs.StandardOrder.{IsInStandardOrder}
use Rattle.machine.specs.Boots.{IsTableOf, IsDecision, IsReported, IsLowestDamaged}
use Rattle.machine.proofs.Tables.{running_bytes}
use Rattle.machine.proofs.Unique.{one_greatest}

-- A state with a decision has no damaged running image.
pub none_damaged : (s : DeviceState) (table : Table) (mask : ℕ) (permanent : Bool) (i : ℕ)
    → IsDecision s table mask permanent → IsLowestDamaged s i → ⊥
none_damaged s table mask permanent i decision damaged =
    let bytes = running_bytes s table i decision.chosen.rows damaged.there in none-some bytes.0
    (sym damaged.damaged ∙ bytes.1)

pub valid_again : (found table : Table) (s : DeviceState) (mask : ℕ) (permanent : Bool) → found ≡ table
    → IsDecision s table mask permanent → IsValid found running_set
valid_again found table s mask permanent same decision = subst (λ t. IsValid t running_set) (sym same) decision.chosen.valid

-- The chosen set is that of the decision.
pub chosen_again : (found table : Table) (s : DeviceState) (mask : ℕ) (permanent : Bool) (report : Report)
    → found ≡ table → IsDecision s table mask permanent → IsGreatest found (taken_in report)
    → (i : ℕ) → is_member mask i ≡ taken_in report i
chosen_again found table s mask permanent report same decision greatest =
    one_greatest found (is_member mask) (taken_in report)
    (subst (λ t. IsGreatest t (is_member mask)) (sym same) decision.chosen.greatest) greatest

pub found_again : (found table : Table) (s : DeviceState) (mask : ℕ) (permanent : Bool) (report : Report)
    → IsTableOf s found → found ≡ table → IsDecision s table mask permanent
    → IsRight found report → IsGreatest found (taken_in report)
    → IsInStandardOrder found report.refusals.items → IsReported s found report
    × (is_member mask ≡ taken_in report)
found_again found table s mask permanent report rows same decision right greatest standard = (
  record {
    rows = rows;
    valid = valid_again found table s mask permanent same decision;
    right = right;
    greatest = greatest;
    standard = standard;
  },
  fun_ext (chosen_again found table s mask permanent report same decision greatest),
)
