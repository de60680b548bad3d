-- What the slots of a flash begin with, and that calls which don't write to slots keep it.
use Rattle.std.proofs.Common.{◌≡◌, ℕ, Bool, false, List, Option, Some, None, refl, sym, subst}
use Rattle.flash_model.specs.Chip.{Chip}
use Rattle.sector_map.specs.declared.layout.SectorMap.{SectorMap}
use Rattle.sector_map.specs.declared.layout.Side.TheVariants.{Primary}
use Rattle.sector_map.specs.Map.{Keeps}
use Rattle.sector_map.specs.Part.{Part, Slot}
use Rattle.reports.specs.Combination.{entry_in}
use Rattle.reports.specs.declared.table.Table.{Table}
use Rattle.upload.specs.Steady.{IsFront}
use Rattle.upload.specs.View.{view}
use Rattle.upload.proofs.Views.{view_kept}
use Rattle.flash_contents.specs.Starting.{AreIntact, HoldsEntry, IsHeld, StartsBy, StartsSet}
use Rattle.machine.specs.declared.reply.Reply.{Reply}
use Rattle.machine.specs.declared.reply.Reply.TheVariants.{Done, Booted, Reverted, TrialAgain, Refused, Cut}

-- A slot that begins with an intact image doesn't begin with none.
pub held_lost : (slot : List ℕ) → IsHeld slot → IsFront slot None → ⊥
held_lost slot held none =
    let there = held.1.image held.0 refl in none.none refl held.0 there.1.0 there.0 there.1.1

pub front_none : (slot : List ℕ) (held : Option (List ℕ)) → IsFront slot held → IsFront slot None → held ≡ None
front_none slot None front none = refl
front_none slot (Some bytes) front none = absurd (held_lost slot (bytes, front) none)

pub held_running : (slot : List ℕ) (held : Option (List ℕ)) → IsFront slot held → IsHeld slot → held ≡ None → ⊥
held_running slot held front there none = held_lost slot there (subst (λ h. IsFront slot h) none front)

-- ---- what isn't touched

module _ (map : SectorMap) (touched : Part → Bool) (old new : Chip) (keeps : Keeps map touched old new)
    (away : (i : ℕ) → touched (Slot i Primary) ≡ false) where
  slot_same : (i : ℕ) → (view map new).slot i Primary ≡ (view map old).slot i Primary
  slot_same i = (view_kept map touched old new keeps).slots i Primary (away i)

  pub intact_kept : AreIntact (view map old) → AreIntact (view map new)
  intact_kept intact = λ i lt. let held = intact i lt in
      (held.0, subst (λ slot. IsFront slot (Some held.0)) (sym (slot_same i)) held.1)

  pub set_kept : (table : Table) (taken : ℕ → Bool) → StartsSet (view map old) table taken
      → StartsSet (view map new) table taken
  set_kept table taken starts = record {
    count = starts.count;
    each = λ i row there. subst (λ slot. HoldsEntry slot (entry_in row (taken i))) (sym (slot_same i))
        (starts.each i row there);
    valid = starts.valid;
  }

  pub starts_kept : (reply : Reply) → StartsBy (view map old) reply → StartsBy (view map new) reply
  starts_kept Done starts = tt
  starts_kept (Booted table report permanent) starts = set_kept table _ starts
  starts_kept (Reverted mask) starts = tt
  starts_kept (TrialAgain set left) starts = intact_kept starts
  starts_kept (Refused fault) starts = tt
  starts_kept Cut starts = tt
