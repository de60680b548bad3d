-- What a boot leaves of its map and after it, from one call to the next.
use Rattle.std.proofs.Common.{◌≡◌, ℕ, Bool, true, false, ◌&&◌, sym, subst, refl, ◌∙◌}
use Rattle.std.proofs.lemmas.Bool.{false≢true}
use Rattle.flash_model.specs.Chip.{Chip}
use Rattle.sector_map.specs.declared.layout.SectorMap.{SectorMap}
use Rattle.sector_map.specs.declared.layout.Side.{Side}
use Rattle.sector_map.specs.Part.{Part, Slot, TrailerOf, Scratch, Log, any_part, only, same_side, swap_of, trailers_in, trailers_on}
use Rattle.common.specs.Masks.{is_member}
use Rattle.sector_map.specs.Map.{IsLaidOut, Keeps}
use Rattle.sector_map.proofs.Parts.{keeps_refl, keeps_trans, keeps_wider, laid_out_kept}
use Rattle.sector_map.proofs.Touched.{LeavesLess}
use Rattle.boot_core.specs.BootEnds.{KeepsLayout}
use Rattle.boot_core.specs.Moving.{moved_parts, settled_parts}

-- Each part that is touched is a part of the map.
pub keeps_any : {map : SectorMap} {touched : Part → Bool} {old new : Chip} → Keeps map touched old new
    → Keeps map any_part old new
keeps_any {map} {touched} {old} {new} keeps =
    keeps_wider map touched any_part old new (λ part e. absurd (false≢true (sym e))) keeps

-- What the complete boot touches.
pub layout_keeps : {map : SectorMap} {touched : Part → Bool} {old new : Chip} → KeepsLayout map touched old new
    → Keeps map touched old new
layout_keeps {map} {touched} {old} {new} layout = layout.on_map old (keeps_refl map touched old)

-- A call that touches some of the parts.
pub layout_kept : {map : SectorMap} {touched less : Part → Bool} {old new : Chip} → LeavesLess touched less
    → IsLaidOut map old → Keeps map less old new → KeepsLayout map touched old new
layout_kept {map} {touched} {less} {old} {new} leaves laid keeps = record {
  laid = laid_out_kept map less old new laid keeps;
  on_map = λ start was. keeps_trans map touched start old new was
      (keeps_wider map less touched old new leaves keeps);
}

-- A call that only reads.
pub layout_same : {map : SectorMap} {touched : Part → Bool} {old new : Chip} → IsLaidOut map old → new ≡ old
    → KeepsLayout map touched old new
layout_same {map} {touched} {old} {new} laid same = record {
  laid = subst (λ chip. IsLaidOut map chip) (sym same) laid;
  on_map = λ start was. subst (λ chip. Keeps map touched start chip) (sym same) was;
}

-- A call after another one.
pub layout_then : {map : SectorMap} {touched : Part → Bool} {old mid new : Chip} → KeepsLayout map touched old mid
    → KeepsLayout map touched mid new → KeepsLayout map touched old new
layout_then first last = record {
  laid = last.laid;
  on_map = λ start was. last.on_map start (first.on_map start was);
}

-- A call that touches more.
pub layout_wider : {map : SectorMap} {touched less : Part → Bool} {old new : Chip} → LeavesLess touched less
    → IsLaidOut map old → KeepsLayout map less old new → KeepsLayout map touched old new
layout_wider leaves laid layout = layout_kept leaves laid (layout_keeps layout)

-- A call after another one touches some of the parts.
pub layout_more : {map : SectorMap} {touched less : Part → Bool} {old mid new : Chip} → LeavesLess touched less
    → KeepsLayout map touched old mid → Keeps map less mid new → KeepsLayout map touched old new
layout_more leaves first keeps = layout_then first (layout_kept leaves first.laid keeps)

-- ---- the parts of a boot

no_part : {A : Type 0} → true ≡ false → A
no_part e = absurd (false≢true (sym e))

left_out : (b c : Bool) → b ≡ false → (b && c) ≡ false
left_out true c e = no_part e
left_out false c e = refl

pub log_moved : (moves : ℕ → Bool) → LeavesLess (moved_parts moves) (only Log)
log_moved moves (Slot i side) e = refl
log_moved moves (TrailerOf i side) e = refl
log_moved moves Scratch e = refl
log_moved moves Log e = no_part e

pub trailers_moved : (mask : ℕ) (on : Side) → LeavesLess (moved_parts (is_member mask)) (trailers_on mask on)
trailers_moved mask on (Slot i side) e = refl
trailers_moved mask on (TrailerOf i side) e = left_out (is_member mask i) (same_side side on) e
trailers_moved mask on Scratch e = refl
trailers_moved mask on Log e = refl

pub swap_moved : (mask : ℕ) (on : Side) → LeavesLess (moved_parts (is_member mask)) (swap_of mask on)
swap_moved mask on (Slot i side) e = e
swap_moved mask on (TrailerOf i side) e = left_out (is_member mask i) (same_side side on) e
swap_moved mask on Scratch e = no_part e
swap_moved mask on Log e = refl

pub settled_moved : (mask : ℕ) → LeavesLess (moved_parts (is_member mask)) (settled_parts mask)
settled_moved mask (Slot i side) e = refl
settled_moved mask (TrailerOf i side) e = e
settled_moved mask Scratch e = refl
settled_moved mask Log e = no_part e

pub log_settled : (mask : ℕ) → LeavesLess (settled_parts mask) (only Log)
log_settled mask (Slot i side) e = refl
log_settled mask (TrailerOf i side) e = refl
log_settled mask Scratch e = refl
log_settled mask Log e = no_part e

pub trailers_settled : (mask : ℕ) → LeavesLess (settled_parts mask) (trailers_in mask)
trailers_settled mask (Slot i side) e = refl
trailers_settled mask (TrailerOf i side) e = e
trailers_settled mask Scratch e = refl
trailers_settled mask Log e = refl

unmoved : (a b : Bool) → (a ≡ true → b ≡ true) → b ≡ false → a ≡ false
unmoved true b so e = absurd (false≢true (sym e ∙ so refl))
unmoved false b so e = refl

-- Images that may be moved are among others.
pub moves_more : (less more : ℕ → Bool) → ((i : ℕ) → less i ≡ true → more i ≡ true)
    → LeavesLess (moved_parts more) (moved_parts less)
moves_more less more so (Slot i side) e = unmoved (less i) (more i) (so i) e
moves_more less more so (TrailerOf i side) e = unmoved (less i) (more i) (so i) e
moves_more less more so Scratch e = e
moves_more less more so Log e = e
