use Rattle.std.proofs.Common.{◌≡◌, ℕ, ◌+◌, ◌*◌, ◌≤◌, false, slice_index}
use Rattle.flash_model.specs.Chip.{IsErased, IsUncut}
use Rattle.sector_map.specs.declared.layout.Side.TheVariants.{Secondary}
use Rattle.sector_map.specs.Part.{Slot, only}
use Rattle.sector_map.specs.Map.{Keeps, length_of, start_of}
use Rattle.trailer.specs.Standing.{incoming_slot}
use Rattle.upload.specs.Wear.{worn_in}
use Rattle.upload.proofs.Writing.{FirstIsFree}
use Rattle.upload.proofs.slots.erase_slot.Given as goal

abbrev pub invariant-loop-index : goal.invariant-loop-index
invariant-loop-index g l = record {
  outside : Keeps l.map (only (Slot l.image Secondary)) (g.F.Flash.chip l.initial.flash) (g.F.Flash.chip l.flash);
  erased : IsErased (g.F.Flash.chip l.flash) (start_of l.map (Slot l.image Secondary)) (l.index * l.map.sector_size);
  uncut : IsUncut (g.F.Flash.chip l.initial.flash) (g.F.Flash.chip l.flash);
  erases : (g.F.Flash.chip l.flash).erases ≤ (g.F.Flash.chip l.initial.flash).erases + l.index;
  journal : (g.F.Flash.chip l.flash).journaled ≤ (g.F.Flash.chip l.initial.flash).journaled + 12 * l.index;
  first : IsErased (g.F.Flash.chip l.initial.flash) (start_of l.map (Slot l.image Secondary)) l.map.sector_size
      → FirstIsFree l.index (g.F.Flash.chip l.initial.flash) (g.F.Flash.chip l.flash);
  worn : (g.F.Flash.chip l.flash).erases ≡ (g.F.Flash.chip l.initial.flash).erases
      + worn_in l.map.sector_size (incoming_slot l.map (g.F.Flash.chip l.initial.flash) l.image) l.index;
  behind : (k : ℕ) → start_of l.map (Slot l.image Secondary) + l.index * l.map.sector_size ≤ k
      → slice_index (g.F.Flash.chip l.flash).bytes k ≡ slice_index (g.F.Flash.chip l.initial.flash).bytes k;
  idle : IsErased (g.F.Flash.chip l.initial.flash) (start_of l.map (Slot l.image Secondary))
      (length_of l.map (Slot l.image Secondary)) → g.F.Flash.chip l.flash ≡ g.F.Flash.chip l.initial.flash;
  asleep : (g.F.Flash.chip l.initial.flash).is_on ≡ false → g.F.Flash.chip l.flash ≡ g.F.Flash.chip l.initial.flash;
}
