-- The entries of groups, counted and written one by one.
use Rattle.std.proofs.Common.{◌≡◌, ℕ, ◌+◌, ◌*◌, ◌<◌, List, ◌++◌, length, get_or, map, take, sym, ap, ◌∙◌, length-append}
use Rattle.std.proofs.lemmas.List.Folds.{flat_map-map}
use Rattle.std.specs.Borrow.{Bor}
use Rattle.std.specs.List.{AllByRecursion, flat_map}
use Rattle.common.proofs.Mapped.{All-from_AllByRecursion-map}
use Rattle.version_order.specs.declared.dependency.Dependency.{Dependency}
use Rattle.image_reading.specs.Area.{entries_bytes, entry_bytes}
use Rattle.image_reading.specs.Fields.{FitsDependency, FitsGroup}
use Rattle.tlv.specs.Making.{HasAlternatives, group_entry, group_of, groups_of}
use Rattle.tlv.proofs.MakingSteps.{mapped_more, pieces_more}
use Rattle.tlv.proofs.ProtectedLaws.{groups_size, length-group_entry}

-- The entry of a group, by its alternatives.
abbrev pub group_piece : Bor (List Dependency) → List ℕ
group_piece alternatives = entry_bytes (group_entry (group_of alternatives))

pub group_pieces : (groups : List (Bor (List Dependency)))
    → entries_bytes (map group_entry (groups_of groups)) ≡ flat_map group_piece groups
group_pieces groups =
    flat_map-map entry_bytes group_entry (groups_of groups)
    ∙ flat_map-map (λ group. entry_bytes (group_entry group)) group_of groups

-- One more group's entry is written.
pub groups_more : (groups : List (Bor (List Dependency))) (i : ℕ) (other : Bor (List Dependency)) → i < length groups
    → entries_bytes (map group_entry (groups_of (take i groups))) ++ group_piece (get_or groups i other)
    ≡ entries_bytes (map group_entry (groups_of (take (i + 1) groups)))
groups_more groups i other within =
    ap (λ (bytes : List ℕ). bytes ++ group_piece (get_or groups i other)) (group_pieces (take i groups))
    ∙ pieces_more group_piece groups i other within ∙ sym (group_pieces (take (i + 1) groups))

-- One more group's entry adds its length.
pub groups_size-more : (groups : List (Bor (List Dependency))) (i : ℕ) (other : Bor (List Dependency))
    → i < length groups
    → groups_size (groups_of (take (i + 1) groups)) ≡ groups_size (groups_of (take i groups)) +
    (4 + 12 * length (get_or groups i other).now)
groups_size-more groups i other within =
    let was = entries_bytes (map group_entry (groups_of (take i groups))) in
    let piece = group_piece (get_or groups i other) in
    ap length (sym (groups_more groups i other within)) ∙ length-append was piece
    ∙ ap (λ (n : ℕ). length was + n) (length-group_entry (group_of (get_or groups i other)))

-- If all groups have their alternatives, each has.
pub alternatives_at : (groups : List (Bor (List Dependency))) (i : ℕ) (other : Bor (List Dependency))
    → i < length groups → AllByRecursion HasAlternatives (groups_of groups)
    → HasAlternatives (group_of (get_or groups i other))
alternatives_at groups i other within each =
    All-from_AllByRecursion-map HasAlternatives group_of groups each i other within

-- One more group fits.
pub groups_fit_more : (groups : List (Bor (List Dependency))) (i : ℕ) (other : Bor (List Dependency))
    → i < length groups → AllByRecursion HasAlternatives (groups_of groups)
    → AllByRecursion FitsGroup (groups_of (take i groups))
    → AllByRecursion FitsDependency (get_or groups i other).now
    → AllByRecursion FitsGroup (groups_of (take (i + 1) groups))
groups_fit_more groups i other within each so_far fit =
    let at = alternatives_at groups i other within each in
    mapped_more group_of FitsGroup groups i other within so_far
    (record { some = at.some; most = at.most; fit = fit })
