-- What a caller in C may rely on, in terms of the machine: what its bytes hold after it provisioned
-- them, and what a boot does to that.
use Rattle.std.specs.Prelude.{◌≡◌, ◌⊎◌, ◌≤◌, ℕ, List}
use Rattle.machine.specs.declared.event.Event.TheVariants as event
use Rattle.flash_model.specs.Chip.{Chip}
use Rattle.machine.specs.Device.{DeviceState, Machine}
use Rattle.flash_contents.specs.Holding.{DeviceView, Holds}
use Rattle.machine.specs.States.{asleep}
use Rattle.machine.specs.Steps.{IsStep}
use Rattle.machine.specs.declared.reply.Reply.{Reply}
use Rattle.boot_core.specs.Device.{made}
use Rattle.boot_core.specs.Provisioned.{IsFirstState}
use Rattle.c_interface.specs.declared.saved_state.SavedState.{SavedState}
use Rattle.c_interface.specs.declared.setup.CheckedSetup.{CheckedSetup}
use Rattle.c_interface.specs.declared.setup.Setup.{Setup}
use Rattle.c_interface.specs.CallResult.{number_of}
use Rattle.c_interface.specs.Numbers.{NO_MAP}
use Rattle.c_interface.specs.SavedState.{IsDeviceOf, no_device}
use Rattle.c_interface.specs.Setup.{IsCheckedSetup}

-- The bytes of a flash and a saved state hold a state of the machine: a device that is in them
-- holds it.
pub record HoldsIn (checked : CheckedSetup) (bytes : List ℕ) (saved : SavedState) (m : Machine)
    : Type 0 where
  pub device : DeviceView
  pub is_device : IsDeviceOf checked.map bytes saved device
  pub holds : Holds checked.map device m

-- The new bytes hold the first state of what the primary slots in the old bytes began with. No
-- device is booted in them.
pub record HoldsFirstIn (setup : Setup) (old new : List ℕ) : Type 0 where
  pub checked : CheckedSetup
  pub is_checked : IsCheckedSetup setup old checked
  pub before : Chip
  pub is_before : before.bytes ≡ old
  pub state : DeviceState
  pub first : IsFirstState checked.map before state
  pub holds : HoldsIn checked new no_device (asleep state)

-- A boot was made. From each state that the old bytes and the old saved state hold, it is a step of
-- the machine to one that the new ones hold. The number is that of the machine's reply.
pub record BootsIn (setup : Setup) (old : List ℕ) (was : SavedState) (new : List ℕ)
    (is : SavedState) (number : ℕ) : Type 0 where
  pub checked : CheckedSetup
  pub is_checked : IsCheckedSetup setup old checked
  pub reply : Reply
  pub number_is : number ≡ number_of reply
  pub steps : (m : Machine) → HoldsIn checked old was m → (next : Machine)
      × IsStep (made checked.map checked.identity checked.boots) m event.Boot reply next
      × HoldsIn checked new is next

-- No call was made, which the number says, and nothing changed.
pub record IsNotCalled (old : List ℕ) (was : SavedState) (new : List ℕ) (is : SavedState)
    (number : ℕ) : Type 0 where
  pub number_is : NO_MAP ≤ number
  pub bytes : new ≡ old
  pub saved : is ≡ was

-- A boot was made, or no call was.
abbrev pub IsBoot : Setup → List ℕ → SavedState → List ℕ → SavedState → ℕ → Type 0
IsBoot setup old was new is number =
    BootsIn setup old was new is number ⊎ IsNotCalled old was new is number
