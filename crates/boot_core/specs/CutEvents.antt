-- Which replies of a run are Cut, by the writes that the flash took during each event.
use Rattle.std.specs.Prelude.{◌≡◌, ℕ, ◌+◌, ◌<◌, ◌≤◌, ◌==◌, true, false, List}
use Rattle.std.specs.List.{list_any}
use Rattle.flash_model.specs.Chip.{Chip, reached}
use Rattle.sector_map.specs.declared.layout.SectorMap.{SectorMap}
use Rattle.upload.specs.View.{view}
use Rattle.flash_contents.specs.Holding.{DeviceView}
use Rattle.machine.specs.Intake.{Setup}
use Rattle.flash_contents.specs.Passing.{StepsTo}
use Rattle.flash_contents.specs.Starting.{StartsBy}
use Rattle.machine.specs.Steps.{DeviceEvent, IsRunBy, cut_of}
use Rattle.machine.specs.declared.reply.Reply.{Reply}
use Rattle.machine.specs.declared.reply.Reply.TheVariants.{Cut}

-- A reply is Cut exactly if one of the writes that the flash took during the event was armed.
pub record IsCutByWrite (old : Chip) (reply : Reply) (new : Chip) : Type 0 where
  -- The flash took one armed write if the reply is Cut, else none.
  pub counted : reached old.fixed.numbers new.writes
      ≡ reached old.fixed.numbers old.writes + cut_of reply
  -- If the reply is Cut, this armed write was taken.
  pub which : reply ≡ Cut → (n : ℕ) × (old.writes < n) × (n ≤ new.writes)
      × (list_any (λ number. number == n) old.fixed.numbers ≡ true)
  -- If the reply isn't Cut, no armed write was taken.
  pub none : cut_of reply ≡ 0 → (n : ℕ) → old.writes < n → n ≤ new.writes
      → list_any (λ number. number == n) old.fixed.numbers ≡ false
  -- The same writes stay armed.
  pub fixed : new.fixed ≡ old.fixed

-- How many power cuts are due: one for each armed write that the flash took, and its faults.
abbrev pub due_cuts : Chip → ℕ
due_cuts chip = reached chip.fixed.numbers chip.writes + chip.faults

-- A reply is Cut exactly if the flash took an armed write during the event, or had a fault.
pub record IsCutAsDue (old : Chip) (reply : Reply) (new : Chip) : Type 0 where
  pub counted : due_cuts new ≡ due_cuts old + cut_of reply
  pub fixed : new.fixed ≡ old.fixed

-- A run of the machine in which `Holds` relates each reply to the flash before and after its event.
abbrev pub StepsEach : (Chip → Reply → Chip → Type 0) → Setup → DeviceView → List DeviceEvent
    → List Reply → DeviceView → Type 0
StepsEach Holds setup = IsRunBy (λ old event reply new.
    StepsTo setup old new event reply × Holds old.flash reply new.flash)

-- After a reply the primary slots of the flash begin with what it says.
abbrev pub StartsAfter : SectorMap → Chip → Reply → Chip → Type 0
StartsAfter map old reply new = StartsBy (view map new) reply

-- A run in which each reply is Cut exactly if the flash took an armed write during the event.
abbrev pub CutsEach : Setup → DeviceView → List DeviceEvent → List Reply → DeviceView → Type 0
CutsEach setup old events replies new = StepsEach IsCutByWrite setup old events replies new
