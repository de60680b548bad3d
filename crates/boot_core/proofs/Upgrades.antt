-- Lemmas for a boot from a record Steady: it writes nothing, or takes a chosen set.
use Rattle.std.proofs.Common.{◌≡◌, ◌⊎◌, ℕ, ◌+◌, Bool, Ok, ap, arith, refl, subst, sym}
use Rattle.flash_model.specs.Chip.{Chip, Ends}
use Rattle.sector_map.specs.declared.layout.SectorMap.{SectorMap}
use Rattle.sector_map.specs.Map.{IsLaidOut}
use Rattle.reports.specs.declared.table.Table.{Table}
use Rattle.machine.specs.Device.{DeviceState}
use Rattle.upload.specs.Steady.{IsSteadyAt}
use Rattle.upload.specs.View.{view}
use Rattle.machine.specs.Boots.{IsDecision}
use Rattle.flash_contents.specs.Passing.{CutsBoot, EndsBoot, IsSwappingSome, IsUpgraded, IsUpgrading, reply_of}
use Rattle.flash_contents.specs.Reading.{IsFoundAgain}
use Rattle.flash_contents.specs.Starting.{StartsBy}
use Rattle.flash_contents.specs.declared.finding.Finding.{Finding}
use Rattle.flash_contents.specs.declared.finding.Finding.TheVariants.{Decided, Damaged, Invalid}
use Rattle.machine.specs.declared.reply.Reply.{Reply}
use Rattle.flash_contents.proofs.Upgrading.{begun_cut, chosen_decision, ended_cut, found_boots, steady_cut}
use Rattle.boot_core.specs.Answers.{IsBootReply}
use Rattle.boot_core.specs.Deciding.{AreForGoodIn}
use Rattle.boot_core.specs.FromSteady.{BootsFromSteady, HasChosen}
use Rattle.boot_core.specs.Journal.{AsksAtMost}
use Rattle.boot_core.specs.Wear.{IsSetMoved, TriesNone}
use Rattle.boot_core.proofs.Booted.{boot_gives}
use Rattle.boot_core.proofs.Measured.{fresh_none}
use Rattle.boot_core.proofs.OnMap.{layout_same}

-- The boot writes nothing.
pub steady_gives : {T : Type 0} {value : T} {reply : Reply} (map : SectorMap) (left : ℕ) (old new : Chip) (mask : ℕ)
    → IsLaidOut map old → new ≡ old
    → ((s : DeviceState) → IsSteadyAt (view map old) s → EndsBoot map (left + 1) new s reply)
    → IsSetMoved mask reply → IsBootReply reply → TriesNone reply → StartsBy (view map old) reply
    → Ends (Ok value) old new
    → BootsFromSteady map left old new (Ok reply)
steady_gives {T} {value} {reply} map left old new mask laid same comes is told fresh starts ends = record {
  boot = boot_gives (layout_same laid same) (λ s was. steady_cut map (left + 1) old new s same was) comes
      (λ s was. fresh_none map old new mask reply same is) told
      (subst (λ chip. StartsBy (view map chip) reply) (sym same) starts) ends;
  idle = λ state stood kind nothing. same;
  fresh = fresh;
  begins = AsksAtMost (omega (arith, ap (λ (chip : Chip). chip.journaled) same));
}

-- What is found of a decision isn't that a set is tried again.
pub found_fresh : (finding : Finding) (permanent : Bool) → TriesNone (reply_of finding permanent)
found_fresh (Decided table report) permanent = tt
found_fresh (Damaged i) permanent = tt
found_fresh Invalid permanent = tt

-- The swap of a chosen set is begun, and finished.
module _ (map : SectorMap) (old : Chip) (mask left : ℕ) (permanent : Bool) (asks : AreForGoodIn map mask old permanent) where
  decided : (s : DeviceState) (at : HasChosen map mask old s) → IsDecision s at.0 mask permanent
  decided s at = chosen_decision map old old mask permanent refl asks s at.0 at.1 at.2

  pub begun_cuts : (mid : Chip) → ((s : DeviceState) (table : Table) → IsSteadyAt (view map old) s
      → IsDecision s table mask permanent
      → IsSteadyAt (view map mid) s ⊎ IsSwappingSome map mid s table mask permanent)
      → (s : DeviceState) → HasChosen map mask old s → CutsBoot map (left + 1) mid s
  begun_cuts mid begins s at = begun_cut map (left + 1) mid s at.0 mask permanent (begins s at.0 at.1 (decided s at))

  module _ (mid new : Chip) (begins : (s : DeviceState) (table : Table) → IsSteadyAt (view map old) s
      → IsDecision s table mask permanent → IsSwappingSome map mid s table mask permanent) where
    pub begun_here : (s : DeviceState) (at : HasChosen map mask old s) → IsSwappingSome map mid s at.0 mask permanent
    begun_here s at = begins s at.0 at.1 (decided s at)

    pub finished_cuts : ((s : DeviceState) (table : Table) → IsSwappingSome map mid s table mask permanent
        → IsUpgrading map new s table mask permanent ⊎ IsUpgraded left (view map new) s mask permanent)
        → (s : DeviceState) → HasChosen map mask old s → CutsBoot map (left + 1) new s
    finished_cuts finishes s at = ended_cut map new s at.0 mask left permanent at.1.trial (decided s at)
        (finishes s at.0 (begun_here s at))

    pub finished_ends : (finding : Finding)
        → ((s : DeviceState) (table : Table) → IsSwappingSome map mid s table mask permanent
        → IsFoundAgain s mask finding × IsUpgraded left (view map new) s mask permanent)
        → (s : DeviceState) → HasChosen map mask old s → EndsBoot map (left + 1) new s (reply_of finding permanent)
    finished_ends finding finishes s at = found_boots map new s at.0 mask left permanent finding at.1.trial
        (decided s at) (finishes s at.0 (begun_here s at))
