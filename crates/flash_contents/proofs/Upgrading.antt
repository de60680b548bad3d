-- A complete upgrade.
use Rattle.std.proofs.Common.{◌≡◌, ◌⊎◌, ℕ, ◌+◌, Bool, true, false, List, Some, None, refl, sym, subst, ⊎_elim, inl, inr}
use Rattle.flash_model.specs.Chip.{Chip}
use Rattle.sector_map.specs.declared.layout.SectorMap.{SectorMap}
use Rattle.common.specs.Masks.{is_member}
use Rattle.upload.specs.View.{view}
use Rattle.machine.specs.Device.{DeviceState}
use Rattle.upload.specs.Steady.{IsSteadyAt}
use Rattle.reports.specs.declared.table.Table.{Table}
use Rattle.reports.specs.declared.report.Report.{Report}
use Rattle.reports.specs.Rightness.{taken_in}
use Rattle.machine.specs.States.{IsRaised, running_after, with_taken, new_trial}
use Rattle.machine.specs.Boots.{AsksForGood, IsChosen, IsDecision, IsReported}
use Rattle.flash_contents.specs.Holding.{IsSwapped, Stands, Rests, Tries, Swaps, Settles}
use Rattle.flash_contents.specs.Passing.{IsSwappingSome, IsUpgrading, IsTakenAt, IsUpgraded, EndsBoot, CutsBoot, reply_of}
use Rattle.flash_contents.specs.Reading.{IsFoundAgain, IsAsking}
use Rattle.flash_contents.specs.declared.finding.Finding.{Finding}
use Rattle.flash_contents.specs.declared.finding.Finding.TheVariants.{Decided, Damaged, Invalid}
use Rattle.machine.specs.declared.reply.Reply.TheVariants.{Booted}
use Rattle.machine.proofs.Tables.{running_bytes, valid_bytes}
use Rattle.machine.proofs.Unique.{one_table}
use Rattle.flash_contents.proofs.Ending.{old_kept}
use Rattle.set_log.specs.declared.state.RecordKind.TheVariants as log

pub upgrading_stands : (map : SectorMap) (w : Chip) (s : DeviceState) (table : Table) (mask : ℕ)
    (permanent : Bool) → IsUpgrading map w s table mask permanent → Stands map w s
upgrading_stands map w s table mask permanent under = ⊎_elim
    (λ (swapping : IsSwappingSome map w s table mask permanent).
    Swaps table mask permanent swapping.0 swapping.1 swapping.2)
    (λ (swapped : IsSwapped (view map w) s table log.Settle mask permanent).
    Settles table mask permanent swapped)
    under

-- The decision of a chosen set.
pub decision_of : (s : DeviceState) (table : Table) (mask : ℕ) (permanent : Bool) → IsChosen s table mask
    → (permanent ≡ true → AsksForGood s mask) × (AsksForGood s mask → permanent ≡ true)
    → IsDecision s table mask permanent
decision_of s table mask permanent chosen asks = record {
  chosen = chosen;
  good = asks.0;
  trial = asks.1;
}

-- Each member of a chosen set at rest is requested.
pub asking : (map : SectorMap) (w : Chip) (s : DeviceState) (table : Table) (mask : ℕ)
    → IsSteadyAt (view map w) s → IsChosen s table mask → IsAsking (view map w) s mask
asking map w s table mask was chosen = record {
  images = was.images;
  at = λ i member lt. was.each i lt;
  wanted = λ i member. let found = valid_bytes s table
      (is_member mask) i chosen.rows chosen.greatest.valid member in (found.0, found.2);
}

taken_boots : (map : SectorMap) (w : Chip) (s : DeviceState) (table given : Table) (report : Report)
    (mask left : ℕ) (permanent : Bool) (floors : List ℕ) → s.trial ≡ None → IsDecision s table mask permanent
    → IsReported s given report × (is_member mask ≡ taken_in report)
    → IsRaised s.images (running_after s mask) s.floors floors
    → IsTakenAt (view map w) s mask permanent left floors
    → EndsBoot map (left + 1) w s (Booted given report permanent)
taken_boots map w s table given report mask left true floors trial decision reported raised at =
    let same = one_table s table given decision.chosen.rows reported.0.rows in (
      with_taken s mask floors None,
      (
        s,
        inl (trial, refl),
        trial,
        (
          reported.0,
          inr
              (mask, reported.1, subst (λ t. IsDecision s t mask true) same decision, (floors, raised, refl)),
        ),
      ),
      Rests at,
      λ e. inl at,
    )
taken_boots map w s table given report mask left false floors trial decision reported raised at =
    let same = one_table s table given decision.chosen.rows reported.0.rows in (
      with_taken s mask s.floors (Some (new_trial s mask left)),
      (
        s,
        inl (trial, refl),
        trial,
        (
          reported.0,
          inr (
            mask,
            reported.1,
            subst (λ t. IsDecision s t mask false) same decision,
            (
              new_trial s mask left,
              record {
                set = refl;
                confirmed = λ i. refl;
                old = λ i lt member.
                    let bytes = running_bytes s table i decision.chosen.rows lt in
                    sym (old_kept (s.running i) bytes.0 bytes.1);
                left = refl;
              },
              refl,
            ),
          ),
        ),
      ),
      Tries (new_trial s mask left) at,
      λ e. inr (new_trial s mask left, at),
    )

pub upgraded_boots : (map : SectorMap) (w : Chip) (s : DeviceState) (table : Table) (mask left : ℕ)
    (permanent : Bool) → s.trial ≡ None → IsDecision s table mask permanent
    → IsUpgraded left (view map w) s mask permanent
    → (given : Table) × (report : Report) × EndsBoot map (left + 1) w s (Booted given report permanent)
upgraded_boots map w s table mask left permanent trial decision (given, report, floors, reported, raised, at) =
    (given, report, taken_boots map w s table given report mask left permanent floors trial decision reported raised at)

pub found_boots : (map : SectorMap) (w : Chip) (s : DeviceState) (table : Table) (mask left : ℕ)
    (permanent : Bool) (finding : Finding) → s.trial ≡ None → IsDecision s table mask permanent
    → IsFoundAgain s mask finding × IsUpgraded left (view map w) s mask permanent
    → EndsBoot map (left + 1) w s (reply_of finding permanent)
found_boots map w s table mask left permanent (Decided found report) trial decision
    (reported, (given, other, floors, also, raised, at)) =
    taken_boots map w s table found report mask left permanent floors trial decision reported raised at
found_boots map w s table mask left permanent (Damaged i) trial decision (never, upgraded) = absurd never
found_boots map w s table mask left permanent Invalid trial decision (never, upgraded) = absurd never

-- What a power cut leaves at each exit of an upgrade.
pub steady_cut : (map : SectorMap) (boots : ℕ) (old w : Chip) (s : DeviceState) → w ≡ old
    → IsSteadyAt (view map old) s → CutsBoot map boots w s
steady_cut map boots old w s same was = (s, inl refl, subst (λ v. Stands map v s) (sym same) (Rests was))

pub begun_cut : (map : SectorMap) (boots : ℕ) (w : Chip) (s : DeviceState) (table : Table) (mask : ℕ)
    (permanent : Bool) → IsSteadyAt (view map w) s ⊎ IsSwappingSome map w s table mask permanent
    → CutsBoot map boots w s
begun_cut map boots w s table mask permanent either = ⊎_elim
    (λ (was : IsSteadyAt (view map w) s). let here : Stands map w s = Rests was in (s, inl refl, here))
    (λ (swapping : IsSwappingSome map w s table mask permanent).
    (s, inl refl, upgrading_stands map w s table mask permanent (inl swapping))) either

pub ended_cut : (map : SectorMap) (w : Chip) (s : DeviceState) (table : Table) (mask left : ℕ)
    (permanent : Bool) → s.trial ≡ None → IsDecision s table mask permanent
    → IsUpgrading map w s table mask permanent ⊎ IsUpgraded left (view map w) s mask permanent
    → CutsBoot map (left + 1) w s
ended_cut map w s table mask left permanent trial decision either = ⊎_elim
    (λ (under : IsUpgrading map w s table mask permanent).
    (s, inl refl, upgrading_stands map w s table mask permanent under))
    (λ (done : IsUpgraded left
    (view map w) s mask permanent). let ended = upgraded_boots map w s table mask left permanent trial decision done in
    (ended.2.0, inr (inr (Booted ended.0 ended.1 permanent, ended.2.1)), ended.2.2))
    either

module _ (map : SectorMap) (old mid : Chip) (mask : ℕ) (permanent : Bool) (same : mid ≡ old)
    (asks : (s : DeviceState) → IsAsking (view map old) s mask → (permanent ≡ true → AsksForGood s mask)
    × (AsksForGood s mask → permanent ≡ true)) where
  pub chosen_decision : (s : DeviceState) (table : Table) → IsSteadyAt (view map old) s
      → IsChosen s table mask → IsDecision s table mask permanent
  chosen_decision s table was chosen = decision_of s table mask permanent chosen
      (asks s (asking map old s table mask was chosen))
