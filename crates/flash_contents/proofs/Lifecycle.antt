-- What a state that a device holds means for its flash.
use Rattle.std.proofs.Common.{◌≡◌, true, false, subst, sym, ⊎_elim}
use Rattle.flash_model.specs.Chip.{Chip}
use Rattle.sector_map.specs.Map.{IsLaidOut}
use Rattle.common.specs.Masks.{is_member}
use Rattle.sector_map.specs.declared.layout.SectorMap.{SectorMap}
use Rattle.machine.specs.Device.{DeviceState, Machine, Trial}
use Rattle.upload.specs.Steady.{IsSteadyAt}
use Rattle.upload.specs.View.{view}
use Rattle.machine.specs.States.{asleep}
use Rattle.flash_contents.specs.Holding.{DeviceView, Holds, IsAtRest, IsTrialAt}
use Rattle.flash_contents.specs.Lifecycle.{HasRunning, IsJustMade, with_power}
use Rattle.flash_contents.proofs.Ending.{member_or}
use Rattle.flash_contents.proofs.Stepping.{holds_asleep}

-- a device at rest has what runs in its primary slots
rest_runs : (map : SectorMap) (chip : Chip) (s : DeviceState) → IsAtRest (view map chip) s → HasRunning map chip s
rest_runs map chip s rest i low = ⊎_elim
    (λ (steady : IsSteadyAt (view map chip) s). (steady.each i low).running)
    (λ (tried : (trial : Trial) × IsTrialAt (view map chip) s trial). ⊎_elim
    (λ (member : is_member tried.0.set i ≡ true). (tried.1.opened.tried i member).running)
    (λ (other : is_member tried.0.set i ≡ false). (tried.1.opened.others i low other).running)
    (member_or (is_member tried.0.set i)))
    rest

pub holder_runs : (map : SectorMap) (device : DeviceView) (m : Machine) → Holds map device m → m.is_booted ≡ true
    → HasRunning map device.flash m.kept
holder_runs map device m holds booted = rest_runs map device.flash m.kept (holds.rest booted)

pub holder_anew : (map : SectorMap) (old new : DeviceView) (m : Machine) → IsLaidOut map old.flash → Holds map old m
    → IsJustMade (with_power old.flash) new → Holds map new (asleep m.kept)
holder_anew map old new m laid holds made =
    let held = holds_asleep map old.flash new.flash new.sessions m.kept laid made.flash made.closed holds.stands in
    subst (λ up. Holds map (record { flash = new.flash; sessions = new.sessions; up = up }) (asleep m.kept))
    (sym made.down) held
