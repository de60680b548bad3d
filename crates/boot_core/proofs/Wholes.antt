-- The contracts of a device's calls follow from those of its parts.
use Rattle.std.proofs.Common.{◌≡◌, ℕ, Bool, Result, refl, subst}
use Rattle.sector_map.specs.declared.layout.SectorMap.{SectorMap}
use Rattle.sector_map.specs.Part.{Part}
use Rattle.manifest.specs.declared.identity.Identity.{Identity}
use Rattle.flash_contents.specs.Holding.{DeviceView}
use Rattle.machine.specs.Intake.{Setup}
use Rattle.machine.specs.Steps.{DeviceEvent}
use Rattle.machine.specs.declared.error.Fault.{Fault}
use Rattle.boot_core.specs.Calls.{StepsDevice, Takes, TakesEvent}
use Rattle.boot_core.specs.Device.{Whole, made}
use Rattle.boot_core.specs.Taking.{StepsHere, TakesCall, TakesHere}

abbrev pub whole_of : Setup → DeviceView → Whole
whole_of setup here = record { setup = setup; here = here }

-- Of any call, whatever a refusal leaves.
pub device_steps : (event : DeviceEvent) (touched : Part → Bool) (map : SectorMap) (identity : Identity) (boots : ℕ)
    (old new : DeviceView) (result : Result Unit Fault) → StepsHere map event touched old new result
    → StepsDevice event touched (whole_of (made map identity boots) old) (whole_of (made map identity boots) new) result
device_steps event touched map identity boots old new result took = record {
  setup = refl;
  steps = took.steps identity boots;
  outside = took.outside;
  down = took.down;
  off = took.off;
  ends = took.ends;
}

-- Of a call of uploads, whatever a refusal leaves of the flash.
pub device_call : (event : DeviceEvent) (touched : Part → Bool) (map : SectorMap) (identity : Identity) (boots : ℕ)
    (old new : DeviceView) (result : Result Unit Fault) → TakesCall map event touched old new result
    → TakesEvent event touched (whole_of (made map identity boots) old) (whole_of (made map identity boots) new) result
device_call event touched map identity boots old new result took = record {
  stepped = device_steps event touched map identity boots old new result took.here;
  unready = took.unready;
  up = took.up;
  kept = took.kept;
}

pub device_takes : (event : DeviceEvent) (touched : Part → Bool) (map : SectorMap) (identity : Identity) (boots : ℕ)
    (old new : DeviceView) (whole : Whole) (result : Result Unit Fault)
    → whole_of (made map identity boots) old ≡ whole → TakesHere map event touched old new result
    → Takes event touched whole (whole_of (made map identity boots) new) result
device_takes event touched map identity boots old new whole result is took =
    subst (λ was. Takes event touched was (whole_of (made map identity boots) new) result) is (record {
      call = device_call event touched map identity boots old new result took.call;
      refused = took.refused;
    })
