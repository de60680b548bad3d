-- An upgrade is finished from its record.
use Rattle.std.proofs.Common.{◌≡◌, ◌⊎◌, ℕ, Bool, true, false, List, length, Some, refl, sym, ◌∙◌, ap, subst, ⊎_elim}
use Rattle.std.proofs.Common.{inl, inr}
use Rattle.flash_model.specs.Chip.{Chip}
use Rattle.sector_map.specs.declared.layout.SectorMap.{SectorMap}
use Rattle.common.specs.Masks.{is_member}
use Rattle.set_log.specs.declared.state.State.{State}
use Rattle.set_log.specs.declared.state.RecordKind.{RecordKind}
use Rattle.upload.specs.View.{view}
use Rattle.machine.specs.Device.{DeviceState}
use Rattle.upload.specs.Steady.{IsImageAt, logged}
use Rattle.reports.specs.declared.table.Table.{Table}
use Rattle.reports.specs.declared.report.Report.{Report}
use Rattle.machine.specs.States.{settled}
use Rattle.machine.specs.Boots.{IsDecision}
use Rattle.flash_contents.specs.Holding.{IsSwapped}
use Rattle.flash_contents.specs.Passing.{IsSwappingSome, IsUpgrading, IsTakenAt, IsUpgraded}
use Rattle.flash_contents.specs.Reading.{IsSwappedAt, CanReadAt, CanRead, IsFoundAgain, AreRaisedBy}
use Rattle.flash_contents.specs.declared.finding.Finding.{Finding}
use Rattle.flash_contents.specs.declared.finding.Finding.TheVariants.{Decided}
use Rattle.flash_contents.proofs.Frames.{same_state}
use Rattle.machine.proofs.Tables.{member_bytes}
use Rattle.flash_contents.proofs.Raising.{raised_is}
use Rattle.set_log.specs.declared.state.RecordKind.TheVariants as log

read_at : (map : SectorMap) (w : Chip) (s : DeviceState) (i : ℕ) (b : Bool)
    → (b ≡ true → IsSwappedAt (view map w) s i) → (b ≡ false → IsImageAt (view map w) s i)
    → CanReadAt (view map w) s b i
read_at map w s i true swapped rest = swapped refl
read_at map w s i false swapped rest = rest refl

-- The table of a swapped set can be read.
pub can_read_back : (map : SectorMap) (w : Chip) (s : DeviceState) (table : Table) (kind : RecordKind) (mask : ℕ)
    (permanent : Bool) → IsSwapped (view map w) s table kind mask permanent → CanRead (view map w) s mask s.floors
can_read_back map w s table kind mask permanent was = record {
  images = was.images;
  floors = refl;
  each = λ i lt. read_at map w s i (is_member mask i)
      (λ member. record {
        ran = was.ran i member;
        asked = was.asked i member;
        wanted = member_bytes s table mask permanent i was.decision member;
      })
      (λ other. was.others i lt other);
}

-- The floors of the record are those of the state.
pub record_floors : (map : SectorMap) (w : Chip) (state : State) (kind : RecordKind) (mask : ℕ) (permanent : Bool)
    (s : DeviceState) → (view map w).log ≡ Some state
    → (view map w).log ≡ Some (logged kind mask permanent 0 s) → s.floors ≡ state.floors
record_floors map w state kind mask permanent s read is = ap (λ (st : State). st.floors)
    (sym (same_state map w state (logged kind mask permanent 0 s) read is))

-- The decision is found again on a swapped set.
pub swapped_found : (map : SectorMap) (w : Chip) (state : State) (kind : RecordKind) (mask : ℕ) (finding : Finding)
    → (view map w).log ≡ Some state
    → ((s : DeviceState) (table : Table) (permanent : Bool) → CanRead (view map w) s mask state.floors
    → IsDecision s table mask permanent → IsFoundAgain s mask finding)
    → (s : DeviceState) (table : Table) (permanent : Bool)
    → IsSwapped (view map w) s table kind mask permanent → IsFoundAgain s mask finding
swapped_found map w state kind mask finding read finds s table permanent was =
    finds s table permanent (subst (λ l. CanRead (view map w) s mask l)
    (record_floors map w state kind mask permanent s read was.log)
    (can_read_back map w s table kind mask permanent was)) was.decision

module _ (map : SectorMap) (old mid new : Chip) (state : State) (left : ℕ) (finding : Finding)
    (found : Table) (report : Report) (floors : List ℕ)
    (read : (view map old).log ≡ Some state) (same : mid ≡ old)
    (finds : (s : DeviceState) (table : Table) (permanent : Bool)
    → CanRead (view map old) s state.mask state.floors → IsDecision s table state.mask permanent
    → IsFoundAgain s state.mask finding)
    (is : finding ≡ Decided found report)
    (raised : AreRaisedBy found.images.items state.mask (length found.images.items) state.floors floors) where
  found_here : (s : DeviceState) (table : Table)
      → IsSwapped (view map old) s table log.Settle state.mask state.permanent
      → IsFoundAgain s state.mask (Decided found report)
  found_here s table was = subst (λ f. IsFoundAgain s state.mask f) is
      (swapped_found map old state log.Settle state.mask finding read finds s table state.permanent was)

  done_here : (s : DeviceState) (table : Table)
      → IsSwapped (view map old) s table log.Settle state.mask state.permanent
      → IsTakenAt (view map new) s state.mask state.permanent left floors
      → IsUpgraded left (view map new) s state.mask state.permanent
  done_here s table was taken =
      let here = found_here s table was in
      let same_floors = record_floors map old state log.Settle state.mask state.permanent s read was.log in (
        found,
        report,
        floors,
        here,
        raised_is s table found state.mask state.permanent _ state.floors floors was.decision here.0.rows
            same_floors refl raised,
        taken,
      )

  pub settle_stands : ((s : DeviceState) (table : Table)
      → IsSwapped (view map mid) s table log.Settle state.mask state.permanent
      → IsSwapped (view map new) s table log.Settle state.mask state.permanent
      ⊎ IsTakenAt (view map new) s state.mask state.permanent left floors)
      → (s : DeviceState) (table : Table) → IsSwapped
      (view map old) s table log.Settle state.mask state.permanent
      → IsSwapped (view map new) s table log.Settle state.mask state.permanent
      ⊎ IsUpgraded left (view map new) s state.mask state.permanent
  settle_stands ends s table was = ⊎_elim
      (λ (still : IsSwapped (view map new) s table log.Settle state.mask state.permanent). inl still)
      (λ (taken : IsTakenAt (view map new) s state.mask state.permanent left floors). inr
      (done_here s table was taken))
      (ends s table (subst (λ w. IsSwapped (view map w) s table log.Settle state.mask state.permanent)
      (sym same) was))

  pub settle_reports : ((s : DeviceState) (table : Table)
      → IsSwapped (view map mid) s table log.Settle state.mask state.permanent
      → IsTakenAt (view map new) s state.mask state.permanent left floors)
      → (s : DeviceState) (table : Table) → IsSwapped
      (view map old) s table log.Settle state.mask state.permanent
      → IsFoundAgain s state.mask (Decided found report)
      × IsUpgraded left (view map new) s state.mask state.permanent
  settle_reports ends s table was = (
    found_here s table was,
    done_here s table was
        (ends s table (subst (λ w. IsSwapped (view map w) s table log.Settle state.mask state.permanent)
        (sym same) was)),
  )

-- Nothing but the decision is found.
pub never_found : (map : SectorMap) (old : Chip) (state : State) (finding other : Finding)
    → (view map old).log ≡ Some state
    → ((s : DeviceState) (table : Table) (permanent : Bool)
    → CanRead (view map old) s state.mask state.floors → IsDecision s table state.mask permanent
    → IsFoundAgain s state.mask finding)
    → finding ≡ other → (s : DeviceState) (table : Table)
    → IsSwapped (view map old) s table log.Settle state.mask state.permanent → IsFoundAgain s state.mask other
never_found map old state finding other read finds is s table was = subst
    (λ f. IsFoundAgain s state.mask f) is
    (swapped_found map old state log.Settle state.mask finding read finds s table state.permanent was)

pub swap_finishes : (map : SectorMap) (old settled new : Chip) (state : State) (left : ℕ)
    → ((s : DeviceState) (table : Table) → IsSwappingSome map old s table state.mask state.permanent
    → IsSwapped (view map settled) s table log.Settle state.mask state.permanent)
    → ((s : DeviceState) (table : Table)
    → IsSwapped (view map settled) s table log.Settle state.mask state.permanent
    → IsSwapped (view map new) s table log.Settle state.mask state.permanent
    ⊎ IsUpgraded left (view map new) s state.mask state.permanent)
    → (s : DeviceState) (table : Table) → IsSwappingSome map old s table state.mask state.permanent
    → IsUpgrading map new s table state.mask state.permanent
    ⊎ IsUpgraded left (view map new) s state.mask state.permanent
swap_finishes map old settled new state left settles ends s table was = ⊎_elim
    (λ (still : IsSwapped (view map new) s table log.Settle state.mask state.permanent). inl (inr still))
    (λ (done : IsUpgraded left (view map new) s state.mask state.permanent). inr done)
    (ends s table (settles s table was))

-- Nothing but the decision is found, with the record `Swap` too.
pub never_swapped : (map : SectorMap) (old mid : Chip) (state : State) (finding other : Finding)
    → (view map old).log ≡ Some state → (view map mid).log ≡ (view map old).log
    → ((s : DeviceState) (table : Table) (permanent : Bool)
    → IsSwappingSome map old s table state.mask permanent
    → IsSwapped (view map mid) s table log.Swap state.mask permanent)
    → ((s : DeviceState) (table : Table) (permanent : Bool)
    → CanRead (view map mid) s state.mask state.floors → IsDecision s table state.mask permanent
    → IsFoundAgain s state.mask finding)
    → finding ≡ other → (s : DeviceState) (table : Table)
    → IsSwappingSome map old s table state.mask state.permanent → IsFoundAgain s state.mask other
never_swapped map old mid state finding other read recorded swaps finds is s table was =
    subst (λ f. IsFoundAgain s state.mask f) is
    (swapped_found map mid state log.Swap state.mask finding
    (recorded ∙ read) finds s table state.permanent (swaps s table state.permanent was))
