-- Contracts of the functions that look for the decision of a boot, and reply to what they find.
use Rattle.std.specs.Prelude.{◌≡◌, ℕ, Bool, true, List, Some, Result, IfOk, ◌↔◌, IsTrue}
use Rattle.flash_model.specs.Chip.{Chip, Ends}
use Rattle.flash_model.specs.declared.error.FlashError.{FlashError}
use Rattle.sector_map.specs.declared.layout.SectorMap.{SectorMap}
use Rattle.reports.specs.declared.table.Table.{Table}
use Rattle.trailer.specs.Standing.{standing_of}
use Rattle.common.specs.declared.kind.Kind.TheVariants.{Permanent}
use Rattle.machine.specs.Device.{DeviceState}
use Rattle.upload.specs.View.{View, view}
use Rattle.machine.specs.Boots.{IsDecision, AsksForGood}
use Rattle.flash_contents.specs.Passing.{reply_of}
use Rattle.flash_contents.specs.Reading.{CanRead, IsFoundAgain, HasImages, IsAsking}
use Rattle.flash_contents.specs.Starting.{StartsBy}
use Rattle.flash_contents.specs.Wear.{IsSetFound, IsSetOf}
use Rattle.flash_contents.specs.declared.finding.Finding.{Finding}
use Rattle.machine.specs.declared.reply.Reply.{Reply}
use Rattle.boot_core.specs.Answers.{IsBootReply}
use Rattle.decision.specs.Found.{HasTable}
use Rattle.boot_core.specs.Found.{IsToldAgain, StartsFound}
use Rattle.boot_core.specs.Wear.{DoesNothing, IsSetMoved}

-- A call finds the decision of a record again after the slots of its set were swapped.
pub record FindsAgain (map : SectorMap) (mask : ℕ) (floors : List ℕ) (old new : Chip)
    (result : Result Finding FlashError) : Type 0 where
  -- The flash is as it was.
  pub same : new ≡ old
  -- The call finds the decision that the state of the device led to.
  pub ok : IfOk result (λ finding. (s : DeviceState) (table : Table) (permanent : Bool)
      → CanRead (view map old) s mask floors → IsDecision s table mask permanent
      → IsFoundAgain s mask finding)
  -- The set of the decision is that of the record.
  pub set : IfOk result (IsSetFound mask)
  -- Only images of the map are taken.
  pub whole : IfOk result (HasImages map.images)
  -- The table has a row for each image.
  pub rows : IfOk result (HasTable map.images)
  -- On any flash, the primary slots begin with what a decision says.
  pub starts : IfOk result (StartsFound (view map old))
  -- On any flash, if no decision is found, the finding says why.
  pub told : IfOk result (IsToldAgain (view map old) mask floors)
  pub ends : Ends result old new

-- Whether a permanent request is pending for an image.
abbrev pub IsForGoodIn : SectorMap → ℕ → Chip → Bool → Type 0
IsForGoodIn map image chip answer = IsTrue answer ↔ (standing_of map chip image ≡ Some Permanent)

-- Whether each image of a set has a permanent request.
abbrev pub AreForGoodIn : SectorMap → ℕ → Chip → Bool → Type 0
AreForGoodIn map mask chip answer = (s : DeviceState) → IsAsking (view map chip) s mask
    → (answer ≡ true → AsksForGood s mask) × (AsksForGood s mask → answer ≡ true)

-- The reply to what is found: for a decision, its report.
pub record AnswersFinding (finding : Finding) (permanent : Bool) (result : Reply) : Type 0 where
  pub is : result ≡ reply_of finding permanent
  pub set : (mask : ℕ) → IsSetFound mask finding → IsSetOf mask result
  pub moved : (s : DeviceState) (mask : ℕ) → IsFoundAgain s mask finding
      → IsSetFound mask finding → IsSetMoved mask result
  pub some : (s : DeviceState) (mask : ℕ) → IsFoundAgain s mask finding
      → IsSetFound mask finding → (mask ≡ 0 → ⊥) → DoesNothing result → ⊥
  pub told : IsBootReply result
  pub starts : (w : View) → StartsFound w finding → StartsBy w result
