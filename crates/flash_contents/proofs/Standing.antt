-- Which record the log has, and what a boot results in from it.
use Rattle.std.proofs.Common.{◌≡◌, ◌⊎◌, ℕ, ◌+◌, Bool, false, Some, None, refl, subst, inl, inr, ⊎_elim}
use Rattle.flash_model.specs.Chip.{Chip}
use Rattle.sector_map.specs.declared.layout.SectorMap.{SectorMap}
use Rattle.set_log.specs.declared.state.State.{State}
use Rattle.set_log.specs.declared.state.RecordKind.{RecordKind}
use Rattle.set_log.specs.declared.state.RecordKind.TheVariants as log
use Rattle.upload.specs.View.{view}
use Rattle.machine.specs.Device.{DeviceState, Trial}
use Rattle.upload.specs.Steady.{IsSteadyAt, logged}
use Rattle.reports.specs.declared.table.Table.{Table}
use Rattle.machine.specs.States.{reverted}
use Rattle.machine.specs.Boots.{GoesBack, IsDecision}
use Rattle.flash_contents.specs.Holding.{IsSwapped, IsSwappedBack}
use Rattle.flash_contents.specs.Holding.{Stands, Rests, Tries, Swaps, Settles, Opens, SwapsBack, SettlesBack}
use Rattle.flash_contents.specs.Passing.{IsSwappingSome, IsSwappingBackSome, IsUpgrading, IsUpgraded}
use Rattle.flash_contents.specs.Passing.{IsGoingBack, IsOpenOrAt, EndsBoot, CutsBoot, reply_of}
use Rattle.flash_contents.specs.Reading.{IsFoundAgain}
use Rattle.flash_contents.specs.declared.finding.Finding.{Finding}
use Rattle.machine.specs.declared.reply.Reply.TheVariants.{Reverted}
use Rattle.flash_contents.proofs.Frames.{same_state}
use Rattle.flash_contents.proofs.Upgrading.{ended_cut, found_boots}

-- ---- the record of the log

-- A flash holds a state by a record of this kind.
abbrev pub StandsAs : SectorMap → Chip → DeviceState → State → RecordKind → Type 0
StandsAs map w s state log.Steady = IsSteadyAt (view map w) s
StandsAs map w s state log.Swap = (table : Table) × IsSwappingSome map w s table state.mask state.permanent
StandsAs map w s state log.Settle =
    (table : Table) × IsSwapped (view map w) s table log.Settle state.mask state.permanent
StandsAs map w s state log.Trial =
    (trial : Trial) × (state.mask ≡ trial.set) × IsOpenOrAt (view map w) s trial
StandsAs map w s state log.Back =
    (trial : Trial) × (state.mask ≡ trial.set) × IsSwappingBackSome map w s trial
StandsAs map w s state log.BackSettle =
    (trial : Trial) × (state.mask ≡ trial.set) × IsSwappedBack (view map w) s trial log.BackSettle

-- What holds for one reading of the log holds for another.
as_read : (map : SectorMap) (w : Chip) (s : DeviceState) (is state : State) → (view map w).log ≡ Some is
    → (view map w).log ≡ Some state → StandsAs map w s is is.kind → StandsAs map w s state state.kind
as_read map w s is state recorded read stands =
    subst (λ (st : State). StandsAs map w s st st.kind) (same_state map w is state recorded read) stands

pub stands_as : (map : SectorMap) (w : Chip) (s : DeviceState) (state : State)
    → (view map w).log ≡ Some state → Stands map w s → StandsAs map w s state state.kind
stands_as map w s state read (Rests was) =
    as_read map w s (logged log.Steady 0 false 0 s) state was.log read was
stands_as map w s state read (Tries trial was) =
    as_read map w s (logged log.Trial trial.set was.opened.permanent trial.left s) state was.opened.log read
    (trial, refl, inl was)
stands_as map w s state read (Swaps table mask permanent x y was) =
    as_read map w s (logged log.Swap mask permanent 0 s) state was.log read (table, (x, y, was))
stands_as map w s state read (Settles table mask permanent was) =
    as_read map w s (logged log.Settle mask permanent 0 s) state was.log read (table, was)
stands_as map w s state read (Opens trial goes was) =
    as_read map w s (logged log.Trial trial.set was.permanent trial.left s) state was.log read
    (trial, refl, inr (goes, was))
stands_as map w s state read (SwapsBack trial x y was) =
    as_read map w s (logged log.Back trial.set was.permanent 0 s) state was.log read
    (trial, refl, (x, y, was))
stands_as map w s state read (SettlesBack trial was) =
    as_read map w s (logged log.BackSettle trial.set was.permanent 0 s) state was.log read (trial, refl, was)

module _ (map : SectorMap) (w : Chip) (s : DeviceState) (state : State) (read : (view map w).log ≡ Some state) where
  of_kind : (kind : RecordKind) → state.kind ≡ kind → Stands map w s → StandsAs map w s state kind
  of_kind kind is stands = subst (λ k. StandsAs map w s state k) is (stands_as map w s state read stands)

  pub stands_steady : state.kind ≡ log.Steady → Stands map w s → IsSteadyAt (view map w) s
  stands_steady kind stands = of_kind log.Steady kind stands

  pub stands_swap : state.kind ≡ log.Swap → Stands map w s
      → (table : Table) × IsSwappingSome map w s table state.mask state.permanent
  stands_swap kind stands = of_kind log.Swap kind stands

  pub stands_settle : state.kind ≡ log.Settle → Stands map w s
      → (table : Table) × IsSwapped (view map w) s table log.Settle state.mask state.permanent
  stands_settle kind stands = of_kind log.Settle kind stands

  pub stands_trial : state.kind ≡ log.Trial → Stands map w s
      → (trial : Trial) × (state.mask ≡ trial.set) × IsOpenOrAt (view map w) s trial
  stands_trial kind stands = of_kind log.Trial kind stands

  pub stands_back : state.kind ≡ log.Back → Stands map w s
      → (trial : Trial) × (state.mask ≡ trial.set) × IsSwappingBackSome map w s trial
  stands_back kind stands = of_kind log.Back kind stands

  pub stands_back_settle : state.kind ≡ log.BackSettle → Stands map w s
      → (trial : Trial) × (state.mask ≡ trial.set) × IsSwappedBack (view map w) s trial log.BackSettle
  stands_back_settle kind stands = of_kind log.BackSettle kind stands

-- ---- a boot from an upgrade's record

some_decision : (map : SectorMap) (w : Chip) (s : DeviceState) (table : Table) (mask : ℕ) (permanent : Bool)
    → IsSwappingSome map w s table mask permanent → (s.trial ≡ None) × IsDecision s table mask permanent
some_decision map w s table mask permanent (x, y, was) = (was.trial, was.decision)

module _ (map : SectorMap) (old new : Chip) (state : State) (left : ℕ) (read : (view map old).log ≡ Some state)
    (kind : state.kind ≡ log.Swap) where
  pub swap_cut : ((s : DeviceState) (table : Table) → IsSwappingSome map old s table state.mask state.permanent
      → IsUpgrading map new s table state.mask state.permanent
      ⊎ IsUpgraded left (view map new) s state.mask state.permanent)
      → (s : DeviceState) → Stands map old s → CutsBoot map (left + 1) new s
  swap_cut ends s stands =
      let swapping = stands_swap map old s state read kind stands in
      let decided = some_decision map old s swapping.0 state.mask state.permanent swapping.1 in
      ended_cut map new s swapping.0 state.mask left state.permanent decided.0 decided.1
      (ends s swapping.0 swapping.1)

  pub swap_ends : (finding : Finding)
      → ((s : DeviceState) (table : Table) → IsSwappingSome map old s table state.mask state.permanent
      → IsFoundAgain s state.mask finding × IsUpgraded left (view map new) s state.mask state.permanent)
      → (s : DeviceState) → Stands map old s → EndsBoot map (left + 1) new s (reply_of finding state.permanent)
  swap_ends finding ends s stands =
      let swapping = stands_swap map old s state read kind stands in
      let decided = some_decision map old s swapping.0 state.mask state.permanent swapping.1 in
      found_boots map new s swapping.0 state.mask left state.permanent finding decided.0 decided.1
      (ends s swapping.0 swapping.1)

module _ (map : SectorMap) (old new : Chip) (state : State) (left : ℕ) (read : (view map old).log ≡ Some state)
    (kind : state.kind ≡ log.Settle) where
  pub settle_cut : ((s : DeviceState) (table : Table)
      → IsSwapped (view map old) s table log.Settle state.mask state.permanent
      → IsSwapped (view map new) s table log.Settle state.mask state.permanent
      ⊎ IsUpgraded left (view map new) s state.mask state.permanent)
      → (s : DeviceState) → Stands map old s → CutsBoot map (left + 1) new s
  settle_cut ends s stands =
      let swapped = stands_settle map old s state read kind stands in
      ended_cut map new s swapped.0 state.mask left state.permanent swapped.1.trial swapped.1.decision
      (⊎_elim
      (λ (still : IsSwapped (view map new) s swapped.0 log.Settle state.mask state.permanent). inl (inr still))
      (λ (done : IsUpgraded left (view map new) s state.mask state.permanent). inr done)
      (ends s swapped.0 swapped.1))

  pub settle_ends : (finding : Finding)
      → ((s : DeviceState) (table : Table)
      → IsSwapped (view map old) s table log.Settle state.mask state.permanent
      → IsFoundAgain s state.mask finding × IsUpgraded left (view map new) s state.mask state.permanent)
      → (s : DeviceState) → Stands map old s → EndsBoot map (left + 1) new s (reply_of finding state.permanent)
  settle_ends finding ends s stands =
      let swapped = stands_settle map old s state read kind stands in
      found_boots map new s swapped.0 state.mask left state.permanent finding swapped.1.trial swapped.1.decision
      (ends s swapped.0 swapped.1)

-- ---- a boot from a record of a revert

going_stands : (map : SectorMap) (w : Chip) (s : DeviceState) (trial : Trial) → IsGoingBack map w s trial
    → Stands map w s
going_stands map w s trial going = ⊎_elim
    (λ (swapping : IsSwappingBackSome map w s trial). SwapsBack trial swapping.0 swapping.1 swapping.2)
    (λ (swapped : IsSwappedBack (view map w) s trial log.BackSettle). SettlesBack trial swapped)
    going

pub back_stands : (map : SectorMap) (boots : ℕ) (w : Chip) (s : DeviceState) (trial : Trial) → GoesBack s trial
    → IsGoingBack map w s trial ⊎ IsSteadyAt (view map w) (reverted s trial) → CutsBoot map boots w s
back_stands map boots w s trial goes either = ⊎_elim
    (λ (going : IsGoingBack map w s trial). (s, inl refl, going_stands map w s trial going))
    (λ (at : IsSteadyAt (view map w) (reverted s trial)).
    (reverted s trial, inr (inr (Reverted trial.set, (trial, goes, refl, refl))), Rests at))
    either

pub back_answers : (map : SectorMap) (boots : ℕ) (w : Chip) (s : DeviceState) (trial : Trial) (mask : ℕ)
    → GoesBack s trial → mask ≡ trial.set → IsSteadyAt (view map w) (reverted s trial)
    → EndsBoot map boots w s (Reverted mask)
back_answers map boots w s trial mask goes is at =
    (reverted s trial, (trial, goes, is, refl), Rests at, λ e. inl at)

goes_back : (map : SectorMap) (w : Chip) (s : DeviceState) (trial : Trial) → IsSwappingBackSome map w s trial
    → GoesBack s trial
goes_back map w s trial (x, y, was) = was.goes

module _ (map : SectorMap) (old new : Chip) (state : State) (read : (view map old).log ≡ Some state) where
  pub back_cut : state.kind ≡ log.Back
      → ((s : DeviceState) (trial : Trial) → state.mask ≡ trial.set → IsSwappingBackSome map old s trial
      → IsGoingBack map new s trial ⊎ IsSteadyAt (view map new) (reverted s trial))
      → (boots : ℕ) (s : DeviceState) → Stands map old s → CutsBoot map boots new s
  back_cut kind ends boots s stands =
      let found = stands_back map old s state read kind stands in
      back_stands map boots new s found.0 (goes_back map old s found.0 found.2) (ends s found.0 found.1 found.2)

  pub back_ends : state.kind ≡ log.Back
      → ((s : DeviceState) (trial : Trial) → state.mask ≡ trial.set → IsSwappingBackSome map old s trial
      → IsSteadyAt (view map new) (reverted s trial))
      → (boots : ℕ) (s : DeviceState) → Stands map old s → EndsBoot map boots new s (Reverted state.mask)
  back_ends kind ends boots s stands =
      let found = stands_back map old s state read kind stands in
      back_answers map boots new s found.0 state.mask (goes_back map old s found.0 found.2) found.1
      (ends s found.0 found.1 found.2)

  pub back_settle_cut : state.kind ≡ log.BackSettle
      → ((s : DeviceState) (trial : Trial) → state.mask ≡ trial.set
      → IsSwappedBack (view map old) s trial log.BackSettle
      → IsSwappedBack (view map new) s trial log.BackSettle ⊎ IsSteadyAt (view map new) (reverted s trial))
      → (boots : ℕ) (s : DeviceState) → Stands map old s → CutsBoot map boots new s
  back_settle_cut kind ends boots s stands =
      let found = stands_back_settle map old s state read kind stands in
      back_stands map boots new s found.0 found.2.goes (⊎_elim
      (λ (still : IsSwappedBack (view map new) s found.0 log.BackSettle). inl (inr still))
      (λ (done : IsSteadyAt (view map new) (reverted s found.0)). inr done)
      (ends s found.0 found.1 found.2))

  pub back_settle_ends : state.kind ≡ log.BackSettle
      → ((s : DeviceState) (trial : Trial) → state.mask ≡ trial.set
      → IsSwappedBack (view map old) s trial log.BackSettle → IsSteadyAt (view map new) (reverted s trial))
      → (boots : ℕ) (s : DeviceState) → Stands map old s → EndsBoot map boots new s (Reverted state.mask)
  back_settle_ends kind ends boots s stands =
      let found = stands_back_settle map old s state read kind stands in
      back_answers map boots new s found.0 state.mask found.2.goes found.1 (ends s found.0 found.1 found.2)
