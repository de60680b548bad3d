-- Laws of provisioning: each flash of the same bytes holds the provisioned state.
use Rattle.std.proofs.Common.{◌≡◌, ℕ, List, Result, sym, ◌∙◌}
use Rattle.std.proofs.lemmas.Result.{on_ok_weaker}
use Rattle.flash_model.specs.Chip.{Chip}
use Rattle.sector_map.specs.declared.layout.SectorMap.{SectorMap}
use Rattle.sector_map.specs.Map.{IsLaidOut}
use Rattle.machine.specs.Device.{DeviceState}
use Rattle.flash_contents.specs.Holding.{Stands, Rests}
use Rattle.machine.specs.declared.error.Fault.{Fault}
use Rattle.machine.specs.declared.reply.Reply.{Reply}
use Rattle.boot_core.specs.Answers.{reply_of_result}
use Rattle.boot_core.specs.Provisioned.{IsFirstState, IsProvisioned}
use Rattle.boot_core.specs.Provisions.{Provisions}
use Rattle.c_interface.specs.SavedState.{IsFlashOf}
use Rattle.c_interface.specs.Provisioning.{ProvisionsBetween}
use Rattle.c_interface.proofs.SameBytes.{same_stands}
use Rattle.c_interface.proofs.StepLaws.{laid_same}

-- a provisioned state holds on each flash of the same bytes
stands_new : (map : SectorMap) (new : List ℕ) (before after : Chip) → IsLaidOut map after → after.bytes ≡ new
    → IsProvisioned map before after → (state : DeviceState) × IsFirstState map before state
    × ((chip : Chip) → IsFlashOf map new chip → Stands map chip state)
stands_new map new before after laid is (state, first, steady, sound, all) = (
  state,
  first,
  λ chip other. same_stands map after chip laid (laid_same map after chip laid other.laid_out (other.has ∙ sym is)) state
      (Rests steady),
)

pub provisions_between : (map : SectorMap) (old new : List ℕ) (before after : Chip) (result : Result Unit Fault)
    (reply : Reply) → IsFlashOf map old before → after.bytes ≡ new → Provisions map before after result
    → reply ≡ reply_of_result result → ProvisionsBetween map old new reply before after
provisions_between map old new before after result reply flash is provisions replies = record {
  result = result;
  is_before = flash;
  is_after = is;
  provisions = provisions;
  replies = replies;
  stands = on_ok_weaker result (stands_new map new before after provisions.laid is) provisions.ok;
}
