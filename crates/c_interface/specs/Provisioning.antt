-- Provisioning: making the flash of a device.
use Rattle.std.specs.Prelude.{◌≡◌, ℕ, ◌≤◌, List, length, Result, OnOk}
use Rattle.flash_model.specs.Chip.{Chip, Fixed}
use Rattle.sector_map.specs.declared.layout.SectorMap.{SectorMap}
use Rattle.machine.specs.Device.{DeviceState}
use Rattle.flash_contents.specs.Holding.{Stands}
use Rattle.machine.specs.declared.error.Fault.{Fault}
use Rattle.machine.specs.declared.reply.Reply.{Reply}
use Rattle.boot_core.specs.Answers.{reply_of_result}
use Rattle.boot_core.specs.Provisioned.{IsFirstState}
use Rattle.boot_core.specs.Provisions.{Provisions}
use Rattle.c_interface.specs.declared.cuts.CutRow.{CutRow}
use Rattle.c_interface.specs.declared.setup.CheckedSetup.{CheckedSetup}
use Rattle.c_interface.specs.declared.setup.Setup.{Setup}
use Rattle.c_interface.specs.declared.call_result.CallResult.{CallResult}
use Rattle.c_interface.specs.Calls.{IsRefusedBefore}
use Rattle.c_interface.specs.Cuts.{IsCutAsAsked, WritesAsAsked, asked_by}
use Rattle.c_interface.specs.SavedState.{IsFlashOf}
use Rattle.c_interface.specs.Numbers.{MOST_CUTS}
use Rattle.c_interface.specs.Setup.{IsCheckedSetup}
use Rattle.c_interface.specs.CallResult.{IsResultOf, no_result, number_of}

-- Bytes are provisioned as the flash of a device, between these states of the flash.
pub record ProvisionsBetween (map : SectorMap) (old new : List ℕ) (reply : Reply)
    (before after : Chip) : Type 0 where
  -- The flash of these bytes is provisioned.
  pub result : Result Unit Fault
  pub is_before : IsFlashOf map old before
  pub is_after : after.bytes ≡ new
  pub provisions : Provisions map before after result
  pub replies : reply ≡ reply_of_result result
  -- If it succeeds, each flash of the new bytes holds the first state of a device.
  pub stands : OnOk result ((state : DeviceState) × IsFirstState map before state
      × ((chip : Chip) → IsFlashOf map new chip → Stands map chip state))

-- Bytes are provisioned as the flash of a device, with cuts for some of the writes.
pub record ProvisionsOn (map : SectorMap) (asked : Fixed) (old new : List ℕ) (reply : Reply)
    (writes : ℕ) : Type 0 where
  pub before : Chip
  pub after : Chip
  pub between : ProvisionsBetween map old new reply before after
  -- It is cut exactly in the writes that the caller lists.
  pub cut_as_asked : IsCutAsAsked asked.numbers before after reply writes
  -- The new bytes are what exactly these writes make of the old ones, torn as the caller says.
  pub writes_as_asked : WritesAsAsked asked map.sector_size old new writes

-- The answer of the call.
pub data AnswersProvision (setup : Setup) (cuts : List CutRow) (old new : List ℕ)
    (call_result : CallResult) (number : ℕ) : Type 0 where
  Replied : (checked : CheckedSetup) (reply : Reply) → IsCheckedSetup setup old checked
      → length cuts ≤ MOST_CUTS
      → ProvisionsOn checked.map (asked_by cuts) old new reply call_result.writes
      → IsResultOf reply call_result → call_result.journal_length ≡ 0 → number ≡ number_of reply
      → AnswersProvision setup cuts old new call_result number
  NotCalled : IsRefusedBefore setup cuts old number → new ≡ old → call_result ≡ no_result
      → AnswersProvision setup cuts old new call_result number
