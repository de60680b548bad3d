-- The number of erases in each part of a boot, and of which set.
use Rattle.std.specs.Prelude.{◌≡◌, ℕ, ◌+◌, ◌*◌, ◌≤◌}
use Rattle.flash_model.specs.Chip.{Chip}
use Rattle.sector_map.specs.declared.layout.SectorMap.{SectorMap}
use Rattle.sector_map.specs.declared.layout.Side.{Side}
use Rattle.common.specs.Masks.{is_member}
use Rattle.swap_scratch.specs.Swap.{steps_done, steps_in_all, sum_over}
use Rattle.reports.specs.declared.report.Report.{Report}
use Rattle.reports.specs.Rightness.{taken_in}
use Rattle.flash_contents.specs.declared.finding.Finding.{Finding}
use Rattle.flash_contents.specs.declared.finding.Finding.TheVariants.{Decided, Damaged, Invalid}
use Rattle.machine.specs.declared.reply.Reply.{Reply}
use Rattle.machine.specs.declared.reply.Reply.TheVariants.{Done, Booted, Reverted, TrialAgain, Refused, Cut}

-- The number of images of a map that are in a mask.
abbrev pub members : SectorMap → ℕ → ℕ
members map mask = sum_over mask (λ i. 1) map.images

-- A mask is the set that a report takes.
pub record IsSetIn (mask : ℕ) (report : Report) : Type 0 where
  pub each : (i : ℕ) → is_member mask i ≡ taken_in report i

-- A mask is the set of a decision.
abbrev pub IsSetFound : ℕ → Finding → Type 0
IsSetFound mask (Decided table report) = IsSetIn mask report
IsSetFound mask (Damaged i) = Unit {0}
IsSetFound mask Invalid = Unit {0}

-- A mask is the set that a reply names.
abbrev pub IsSetOf : ℕ → Reply → Type 0
IsSetOf mask (Booted table report permanent) = IsSetIn mask report
IsSetOf mask (Reverted set) = mask ≡ set
IsSetOf mask (TrialAgain set left) = mask ≡ 0
IsSetOf mask (Refused fault) = Unit {0}
IsSetOf mask Done = Unit {0}
IsSetOf mask Cut = Unit {0}

-- The erases of a resumed swap: at most one for each remaining step, two for each image, and two
-- more.
abbrev pub IsResumed : SectorMap → Chip → Chip → Side → ℕ → Type 0
IsResumed map old new side mask = new.erases + steps_done map old side mask
    ≤ old.erases + steps_in_all map old side mask + 2 * members map mask + 2

-- The erases of settling a set's trailers: at most two for each image, and one more.
abbrev pub IsSettling : SectorMap → Chip → Chip → ℕ → Type 0
IsSettling map old new mask = new.erases ≤ old.erases + 2 * members map mask + 1
