use Rattle.std.proofs.Common.{◌≡◌, ◌∷◌, ◌++◌, [], codes, decimal, string_bytes}
use Rattle.std.specs.List.{flat_map}
use Rattle.inspecting.specs.StateText.{floor_line, images_text, kind_text, left_text, swap_line}
use Rattle.inspecting.proofs.TextLaws.{state-in_a_row}
use Rattle.inspecting.proofs.show.state_text.Goals as goal

-- The parts are those of the text of a state.
pub returns : goal.returns
returns c =
    let found = c.args.found.now in
    let state = found.state in
    let head : string_bytes c.in_ok-text.text
    ≡ codes "state " ++ (c.kind_text-kind.result.now ++ 10 ∷ (codes "set" ++ (images_text state.mask
    ++ 10 ∷ (left_text state.left ++ (codes "sequence " ++ (decimal state.sequence ++ 10 ∷ []))))))
    = c.in_ok-text.ensures.ok in
    let kind = c.kind_text-kind.ensures in
    let floors = c.in_ok-write_floors.ensures in
    let swaps = c.in_ok-write_swaps.ensures in
    rw (swaps, floors, c.as_slice.ensures.value, c.as_slice-2.ensures.value, head, kind)
    (state-in_a_row (codes "state ") (kind_text state.kind) (10 ∷ []) (codes "set") (images_text state.mask)
    (left_text state.left) (codes "sequence ") (decimal state.sequence) (flat_map floor_line found.floors.items)
    (flat_map swap_line found.swaps.items))
