-- Lemmas about tests of parts that hold wherever others do. Each says that a part which the wider
-- test leaves out is left out by the narrower one too, as `keeps_wider` needs it.
use Rattle.std.proofs.Common.{◌≡◌, ℕ, Bool, true, false, ◌==◌, ◌&&◌, sym, ◌∙◌, ap, refl}
use Rattle.std.proofs.lemmas.Bool.{eqb-true, false≢true}
use Rattle.sector_map.specs.declared.layout.Side.{Side}
use Rattle.sector_map.specs.declared.layout.Side.TheVariants.{Secondary}
use Rattle.sector_map.specs.Part.{Part, Slot, TrailerOf, Scratch, Log, only, same_side, trailers_of, trailers_on, trailers_in, incoming_of, swap_one}
use Rattle.common.specs.Masks.{is_member}

-- The second test leaves out each part that the first one leaves out.
abbrev pub LeavesLess : (Part → Bool) → (Part → Bool) → Type 0
LeavesLess more less = (part : Part) → more part ≡ false → less part ≡ false

not_left : (b c : Bool) → (b && c) ≡ false → b ≡ true → c ≡ false
not_left true c e is = e
not_left false c e is = absurd (false≢true is)

left_false : (b c : Bool) → b ≡ false → (b && c) ≡ false
left_false true c e = absurd (false≢true (sym e))
left_false false c e = refl

-- A conjunction with a narrower first test is false wherever the wider one is.
and_false : (a b c : Bool) → (a ≡ true → b ≡ true) → (b && c) ≡ false → (a && c) ≡ false
and_false true b c le e = not_left b c e (le refl)
and_false false b c le e = refl

member_of : (mask i j : ℕ) → is_member mask j ≡ true → (i == j) ≡ true → is_member mask i ≡ true
member_of mask i j member same = ap (λ k. is_member mask k) (eqb-true i j same) ∙ member

other_image : (mask i j : ℕ) (b : Bool) → (i == j) ≡ b → is_member mask j ≡ true → is_member mask i ≡ false → b ≡ false
other_image mask i j true same member e = sym (member_of mask i j member same) ∙ e
other_image mask i j false same member e = refl

-- One trailer is among the two trailers of its image.
pub trailer_of_both : (j : ℕ) (side : Side) → LeavesLess (trailers_of j) (only (TrailerOf j side))
trailer_of_both j side (Slot i at) e = refl
trailer_of_both j side (TrailerOf i at) e = left_false (i == j) (same_side at side) e
trailer_of_both j side Scratch e = refl
trailer_of_both j side Log e = refl

-- One trailer is among the trailers of its side, for a mask that has its image.
pub trailer_on_side : (mask j : ℕ) (side : Side) → is_member mask j ≡ true
    → LeavesLess (trailers_on mask side) (only (TrailerOf j side))
trailer_on_side mask j side member (Slot i at) e = refl
trailer_on_side mask j side member (TrailerOf i at) e =
    and_false (i == j) (is_member mask i) (same_side at side) (member_of mask i j member) e
trailer_on_side mask j side member Scratch e = refl
trailer_on_side mask j side member Log e = refl

-- Both trailers of an image are among the trailers of a mask that has the image.
pub trailers_in_mask : (mask j : ℕ) → is_member mask j ≡ true → LeavesLess (trailers_in mask) (trailers_of j)
trailers_in_mask mask j member (Slot i at) e = refl
trailers_in_mask mask j member (TrailerOf i at) e = other_image mask i j (i == j) refl member e
trailers_in_mask mask j member Scratch e = refl
trailers_in_mask mask j member Log e = refl

-- The secondary slot is one of the parts that an incoming image is written to.
pub slot_of_incoming : (j : ℕ) → LeavesLess (incoming_of j) (only (Slot j Secondary))
slot_of_incoming j (Slot i at) e = e
slot_of_incoming j (TrailerOf i at) e = refl
slot_of_incoming j Scratch e = refl
slot_of_incoming j Log e = refl

-- The secondary trailer is one of the parts that an incoming image is written to.
pub trailer_of_incoming : (j : ℕ) → LeavesLess (incoming_of j) (only (TrailerOf j Secondary))
trailer_of_incoming j (Slot i at) e = refl
trailer_of_incoming j (TrailerOf i at) e = e
trailer_of_incoming j Scratch e = refl
trailer_of_incoming j Log e = refl

-- The trailer that counts the swap is one of the parts that a swap of an image writes.
pub trailer_of_swap : (j : ℕ) (side : Side) → LeavesLess (swap_one j side) (only (TrailerOf j side))
trailer_of_swap j side (Slot i at) e = refl
trailer_of_swap j side (TrailerOf i at) e = e
trailer_of_swap j side Scratch e = refl
trailer_of_swap j side Log e = refl
