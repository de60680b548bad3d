-- How a pass, a look and a drop change the marks.
use Rattle.std.proofs.Common.{◌≡◌, ℕ, zero, suc, ◌+◌, ◌<◌, ◌≤◌, Bool, true, false, cond, not, ◌&&◌, ◌||◌, eqb, List, [], ◌∷◌, ◌++◌, length, get_or, set, get_or-set_same, get_or-set_other, Option, Some, None, inl, inr, refl, sym, ap, ◌∙◌, arith}
use Rattle.std.specs.Prelude.{◌==◌, is_some, nat_lt, option_and_then, option_map, position}
use Rattle.std.specs.List.{list_any, position_or_len}
use Rattle.std.specs.Option.{option_map_or, option_or}
use Rattle.std.proofs.lemmas.Bool.{false≢true, and_left, and_parts, and_right, cases_Bool, cases_eq, cases_lt, eqb-false, eqb-true, eq-eqb, ltb-false, ne_eqb, not-true, not_from_true, or_left, or_parts, or_right}
use Rattle.std.proofs.lemmas.List.Folds.{list_any-append}
use Rattle.std.proofs.lemmas.List.Quantifiers.{position-Some}
use Rattle.std.proofs.lemmas.List.Sums.{fails_before_first}
use Rattle.std.proofs.lemmas.Option.{none-some, slice_get_past, slice_get_within}
use Rattle.version_order.specs.declared.dependency.Dependency.{Dependency}
use Rattle.version_order.specs.declared.group.Group.{Group}
use Rattle.version_order.specs.Order.{is_older}
use Rattle.reports.specs.declared.table.Entry.{Entry}
use Rattle.reports.specs.declared.table.Image.{Image}
use Rattle.reports.specs.declared.table.Table.{Table}
use Rattle.reports.specs.declared.report.Reason.{Reason}
use Rattle.reports.specs.declared.report.Reason.TheVariants.{Needs, NeedsOne}
use Rattle.reports.specs.declared.report.Refusal.{Refusal}
use Rattle.reports.specs.Combination.{image_at, intact_entry}
use Rattle.validity.specs.Dependants.{asks_for, has_alternative, is_dependant, names}
use Rattle.reports.specs.Reasons.{depends_on, is_group_out_of_reach, is_in_reach, is_out_of_reach, is_refused, newest_version, requested_version}
use Rattle.reports.specs.Rightness.{once_if}
use Rattle.reports.specs.StandardOrder.{needs_reason, needs_reason_of_entry, unmet_dependency, unmet_group, IsNextNeed}
use Rattle.validity.proofs.DependantLaws.{is_dependant-past}
use Rattle.chooser.specs.Marks.{AreMarks, AreMarksApartFrom, has_need, is_left_dependant}
use Rattle.chooser.proofs.Order.{HasNeed-from_reason}
use Rattle.chooser.proofs.Searches.{find-same, list_any-same}

-- After the last image, no request has a need.
pub has_need-past : (table : Table) (refusals : List Refusal) (i : ℕ) → length table.images.items ≤ i
    → has_need table refusals i ≡ false
has_need-past table refusals i past =
    and_right (not (is_refused refusals i)) _
    (ap (λ (found : Option Image). is_some
    (option_and_then (λ image. option_and_then (needs_reason_of_entry table refusals i) (intact_entry image.request)) found))
    (slice_get_past table.images.items i past))

-- If a request isn't refused, it is marked exactly if it has a need.
has_need-unrefused : (table : Table) (refusals : List Refusal) (i : ℕ) → is_refused refusals i ≡ false
    → has_need table refusals i ≡ is_some (needs_reason table refusals i)
has_need-unrefused table refusals i unrefused =
    ap (λ refused. not refused && is_some (needs_reason table refusals i)) unrefused

-- A place that is marked is within the list of marks.
pub marked_within : (marks : List Bool) (i : ℕ) → get_or marks i false ≡ true → i < length marks
marked_within [] zero marked = absurd (false≢true marked)
marked_within [] (suc i) marked = absurd (false≢true marked)
marked_within (mark ∷ marks) zero marked = omega arith
marked_within (mark ∷ marks) (suc i) marked = omega (arith, marked_within marks i marked)

-- ---- the lowest mark

-- If a search for a mark finds none, there is none.
unmarked : (marks : List Bool) → position (λ is_marked. is_marked) marks ≡ None → (i : ℕ)
    → get_or marks i false ≡ false
unmarked marks none i =
    let test = λ (is_marked : Bool). is_marked in
    let past : length marks ≤ position_or_len test marks =
    ltb-false _ _ (fails_for_none (nat_lt (position_or_len test marks) (length marks)) (position_or_len test marks) none)
    in
    elim (cases_Bool (get_or marks i false)) [
      | inl marked ↦ absurd (false≢true (sym (fails_before_first test marks i false
          (omega (arith, marked_within marks i marked, past))) ∙ marked))
      | inr is ↦ is
    ]
  where
    fails_for_none : (test : Bool) (n : ℕ) → cond test (Some n) None ≡ None → test ≡ false
    fails_for_none true n none = absurd (none-some n (sym none))
    fails_for_none false n none = refl

-- No value.
none_left : {X : Type 0} (o : Option X) → is_some o ≡ false → o ≡ None
none_left None none = refl
none_left (Some x) none = absurd (false≢true (sym none))

module _ (table : Table) (refusals : List Refusal) (marks : List Bool) (right : AreMarks table refusals marks) where
  -- A request that isn't refused and isn't marked has no need.
  none-unmarked : (i : ℕ) → get_or marks i false ≡ false → is_refused refusals i ≡ false
      → needs_reason table refusals i ≡ None
  none-unmarked i is unrefused =
      none_left (needs_reason table refusals i)
      (sym (has_need-unrefused table refusals i unrefused) ∙ sym (right.each i) ∙ is)

  -- If no image is marked, no remaining request has a need.
  pub none-left : position (λ is_marked. is_marked) marks ≡ None
      → (i : ℕ) → is_refused refusals i ≡ false → needs_reason table refusals i ≡ None
  none-left none i unrefused = none-unmarked i (unmarked marks none i) unrefused

  -- The lowest marked request has a reason.
  pub lowest-reason : (n : ℕ) → position (λ is_marked. is_marked) marks ≡ Some n
      → needs_reason table refusals n ≡ None → ⊥
  lowest-reason n lowest none =
      let found = position-Some (λ (is_marked : Bool). is_marked) marks n false lowest in
      let need = and_parts (not (is_refused refusals n)) (is_some (needs_reason table refusals n))
      (sym (right.each n) ∙ found.1) in
      false≢true (ap is_some (sym none) ∙ need.1)

  -- The lowest marked request is the next need.
  pub lowest-next : (n : ℕ) → position (λ is_marked. is_marked) marks ≡ Some n → (reason : Reason)
      → needs_reason table refusals n ≡ Some reason
      → IsNextNeed table refusals (record { image = n; reason = reason })
  lowest-next n lowest reason is =
      let found = position-Some (λ (is_marked : Bool). is_marked) marks n false lowest in
      let need = and_parts (not (is_refused refusals n)) (is_some (needs_reason table refusals n))
      (sym (right.each n) ∙ found.1) in
      record {
        unrefused = not-true _ need.0;
        reason = is;
        lowest = λ i lower unrefused. none-unmarked i (found.2 i lower) unrefused;
      }

-- ---- a pass

-- The images below n are marked exactly if they have a need, and none from n on is marked.
pub record AreMarksBelow (table : Table) (refusals : List Refusal) (n : ℕ) (marks : List Bool) : Type 0 where
  pub below : (i : ℕ) → i < n → get_or marks i false ≡ has_need table refusals i
  pub above : (i : ℕ) → n ≤ i → get_or marks i false ≡ false

-- One more image is marked.
pub AreMarksBelow-more : (table : Table) (refusals : List Refusal) (n : ℕ) (marks : List Bool) → n < length marks
    → AreMarksBelow table refusals n marks
    → AreMarksBelow table refusals (n + 1) (set marks n (has_need table refusals n))
AreMarksBelow-more table refusals n marks within so_far =
    let here = has_need table refusals n in
    record {
      below = λ i less. elim (cases_eq i n) [
        | inl same ↦ ap (λ k. get_or (set marks n here) k false) same ∙ get_or-set_same marks n here false within
            ∙ ap (has_need table refusals) (sym same)
        | inr other ↦ get_or-set_other marks n i here false other ∙ so_far.below i (omega arith)
      ];
      above = λ i from. get_or-set_other marks n i here false (λ same. absurd (omega arith))
          ∙ so_far.above i (omega arith);
    }

-- All images are marked.
pub AreMarks-from_below : (table : Table) (refusals : List Refusal) (n : ℕ) (marks : List Bool)
    → length table.images.items ≤ n → AreMarksBelow table refusals n marks → AreMarks table refusals marks
AreMarks-from_below table refusals n marks past so_far = record {
  each = λ i. elim (cases_lt i n) [
    | inl less ↦ so_far.below i less
    | inr from ↦ so_far.above i from ∙ sym (has_need-past table refusals i (omega arith))
  ];
}

-- ---- looks after a drop

-- The marks are right, except those of the remaining dependants of image j from n on.
pub record AreMarksUpTo (table : Table) (refusals : List Refusal) (j n : ℕ) (marks : List Bool) : Type 0 where
  pub each : (i : ℕ) → (n ≤ i → is_left_dependant table refusals j i ≡ false)
      → get_or marks i false ≡ has_need table refusals i

-- Image n is looked at.
pub AreMarksUpTo-look : (table : Table) (refusals : List Refusal) (j n : ℕ) (marks : List Bool) → n < length marks
    → is_refused refusals n ≡ false → AreMarksUpTo table refusals j n marks
    → AreMarksUpTo table refusals j (n + 1) (set marks n (is_some (needs_reason table refusals n)))
AreMarksUpTo-look table refusals j n marks within unrefused so_far =
    let here = is_some (needs_reason table refusals n) in
    record {
      each = λ i no_later. elim (cases_eq i n) [
        | inl same ↦ ap (λ k. get_or (set marks n here) k false) same ∙ get_or-set_same marks n here false within
            ∙ sym (ap (has_need table refusals) same ∙ has_need-unrefused table refusals n unrefused)
        | inr other ↦ get_or-set_other marks n i here false other
            ∙ so_far.each i (λ from. no_later (omega arith))
      ];
    }

-- Image n is not looked at.
pub AreMarksUpTo-skip : (table : Table) (refusals : List Refusal) (j n : ℕ) (marks : List Bool)
    → is_left_dependant table refusals j n ≡ false → AreMarksUpTo table refusals j n marks
    → AreMarksUpTo table refusals j (n + 1) marks
AreMarksUpTo-skip table refusals j n marks other so_far = record {
  each = λ i no_later. so_far.each i (λ from. elim (cases_eq i n) [
    | inl same ↦ ap (is_left_dependant table refusals j) same ∙ other
    | inr apart ↦ no_later (omega arith)
  ]);
}

-- All images were looked at.
pub AreMarks-from_up_to : (table : Table) (refusals : List Refusal) (j n : ℕ) (marks : List Bool)
    → length table.images.items ≤ n → AreMarksUpTo table refusals j n marks → AreMarks table refusals marks
AreMarks-from_up_to table refusals j n marks past so_far = record {
  each = λ i. so_far.each i (λ from. and_left (is_dependant table j i) _
      (is_dependant-past table j i (omega arith)));
}

-- ---- a drop

-- A disjunction with false is the other test.
or_none : (b : Bool) → (b || false) ≡ b
or_none true = refl
or_none false = refl

-- One more refusal refuses no other image.
pub is_refused-push_other : (refusals : List Refusal) (refusal : Refusal) (i : ℕ) → (refusal.image == i) ≡ false
    → is_refused (refusals ++ refusal ∷ []) i ≡ is_refused refusals i
is_refused-push_other refusals refusal i other =
    list_any-append (λ (any_refusal : Refusal). any_refusal.image == i) refusals (refusal ∷ [])
    ∙ ap (λ b. is_refused refusals i || (b || false)) other ∙ or_none (is_refused refusals i)

-- One more refusal refuses its own image.
pub is_refused-push_same : (refusals : List Refusal) (refusal : Refusal)
    → is_refused (refusals ++ refusal ∷ []) refusal.image ≡ true
is_refused-push_same refusals refusal =
    list_any-append (λ (any_refusal : Refusal). any_refusal.image == refusal.image) refusals (refusal ∷ [])
    ∙ or_right (is_refused refusals refusal.image) _
    (or_left (refusal.image == refusal.image) false (eq-eqb refusal.image refusal.image refl))

module _ (table : Table) (refusals : List Refusal) (refusal : Refusal) (i : ℕ) where
  -- Another image is refused exactly if it was before.
  is_refused-push : (j : ℕ) → (j == refusal.image) ≡ false
      → is_refused (refusals ++ refusal ∷ []) j ≡ is_refused refusals j
  is_refused-push j other =
      is_refused-push_other refusals refusal j
      (ne_eqb refusal.image j (λ same. eqb-false j refusal.image other (sym same)))

  -- A dependency on another image is out of reach exactly if it was before.
  is_out_of_reach-push : (dependency : Dependency) → (dependency.image == refusal.image) ≡ false
      → is_out_of_reach table (refusals ++ refusal ∷ []) i dependency ≡ is_out_of_reach table refusals i dependency
  is_out_of_reach-push dependency other =
      let j = dependency.image in
      ap (λ refused. option_map_or
      (λ image. is_older (cond (eqb j i) (requested_version image)
      (cond refused image.running.version (newest_version image))) dependency.minimum) (image_at table j) false)
      (is_refused-push j other)

  -- An alternative of another image is in reach exactly if it was before.
  is_in_reach-push : (alternative : Dependency) → (alternative.image == refusal.image) ≡ false
      → is_in_reach table (refusals ++ refusal ∷ []) i alternative ≡ is_in_reach table refusals i alternative
  is_in_reach-push alternative other =
      let j = alternative.image in
      ap (λ refused. option_map_or
      (λ image. not (is_older (cond (eqb j i) (requested_version image)
      (cond refused image.running.version (newest_version image))) alternative.minimum)) (image_at table j) false)
      (is_refused-push j other)

  -- A group without the dropped image is out of reach exactly if it was before.
  is_group_out_of_reach-push : (group : Group) → has_alternative refusal.image group ≡ false
      → is_group_out_of_reach table (refusals ++ refusal ∷ []) i group ≡ is_group_out_of_reach table refusals i group
  is_group_out_of_reach-push group other =
      ap not (list_any-same (is_in_reach table (refusals ++ refusal ∷ []) i) (is_in_reach table refusals i)
      (λ (alternative : Dependency). alternative.image == refusal.image) is_in_reach-push group.alternatives.items
      other)

  -- An entry that doesn't name the dropped image has the need that it had before.
  reason_of_entry-push : (requested : Option Entry)
      → option_map_or (λ (entry : Entry). names entry refusal.image) requested false ≡ false
      → option_and_then (needs_reason_of_entry table (refusals ++ refusal ∷ []) i) requested
      ≡ option_and_then (needs_reason_of_entry table refusals i) requested
  reason_of_entry-push None independent = refl
  reason_of_entry-push (Some entry) independent =
      let parts = or_parts (depends_on entry refusal.image)
      (list_any (has_alternative refusal.image) entry.groups.items) independent in
      let dependencies =
      find-same (is_out_of_reach table (refusals ++ refusal ∷ []) i) (is_out_of_reach table refusals i)
      (λ (dependency : Dependency). dependency.image == refusal.image) is_out_of_reach-push entry.dependencies.items
      parts.0 in
      let groups =
      find-same (is_group_out_of_reach table (refusals ++ refusal ∷ []) i) (is_group_out_of_reach table refusals i)
      (has_alternative refusal.image) is_group_out_of_reach-push entry.groups.items parts.1 in
      ap (λ found. option_or
      (option_map (λ (dependency : Dependency). Needs dependency.image dependency.minimum) found)
      (unmet_group table (refusals ++ refusal ∷ []) i entry)) dependencies
      ∙ ap (λ found. option_or (unmet_dependency table refusals i entry)
      (option_map (λ (group : Group). NeedsOne group) found)) groups

  -- If an image's request doesn't name the dropped image, it has the need that it had before.
  reason_of_image-push : (found : Option Image) → option_map_or (asks_for refusal.image) found false ≡ false
      → option_and_then (λ (image : Image). option_and_then
      (needs_reason_of_entry table (refusals ++ refusal ∷ []) i) (intact_entry image.request)) found
      ≡ option_and_then (λ (image : Image). option_and_then
      (needs_reason_of_entry table refusals i) (intact_entry image.request)) found
  reason_of_image-push None independent = refl
  reason_of_image-push (Some image) independent = reason_of_entry-push (intact_entry image.request) independent

  -- The same of the request of image i.
  needs_reason-push : is_dependant table refusal.image i ≡ false
      → needs_reason table (refusals ++ refusal ∷ []) i ≡ needs_reason table refusals i
  needs_reason-push independent = reason_of_image-push (image_at table i) independent

  -- A request that remains and isn't a dependant of the dropped image has a need exactly if it had
  -- one before the drop.
  has_need-push : (refusal.image == i) ≡ false
      → is_left_dependant table (refusals ++ refusal ∷ []) refusal.image i ≡ false
      → has_need table (refusals ++ refusal ∷ []) i ≡ has_need table refusals i
  has_need-push apart not_left =
      let kept = is_refused-push_other refusals refusal i apart in
      elim (cases_Bool (is_refused refusals i)) [
        | inl refused ↦
            and_left (not (is_refused (refusals ++ refusal ∷ []) i)) _ (not_from_true _ (kept ∙ refused))
            ∙ sym (and_left (not (is_refused refusals i)) _ (not_from_true _ refused))
        | inr unrefused ↦
            let independent : is_dependant table refusal.image i ≡ false =
            sym (and_true (is_dependant table refusal.image i))
            ∙ ap (λ refused. is_dependant table refusal.image i && not refused) (sym (kept ∙ unrefused))
            ∙ not_left in
            has_need-unrefused table (refusals ++ refusal ∷ []) i (kept ∙ unrefused)
            ∙ ap is_some (needs_reason-push independent)
            ∙ sym (has_need-unrefused table refusals i unrefused)
      ]
    where
      and_true : (b : Bool) → (b && true) ≡ b
      and_true true = refl
      and_true false = refl

-- Without the mark of the dropped image, the marks are right, except those of its dependants.
pub AreMarksApartFrom-drop : (table : Table) (refusals : List Refusal) (refusal : Refusal) (marks : List Bool)
    → IsNextNeed table refusals refusal → AreMarks table refusals marks
    → AreMarksApartFrom table (refusals ++ refusal ∷ []) refusal.image (set marks refusal.image false)
AreMarksApartFrom-drop table refusals refusal marks need right =
    let was_marked : get_or marks refusal.image false ≡ true =
    right.each refusal.image ∙ has_need-unrefused table refusals refusal.image need.unrefused ∙ ap is_some need.reason in
    let within = marked_within marks refusal.image was_marked in
    record {
      others = λ i not_left. elim (cases_Bool (refusal.image == i)) [
        | inl same ↦
            let here : i ≡ refusal.image = sym (eqb-true refusal.image i same) in
            ap (λ k. get_or (set marks refusal.image false) k false) here
            ∙ get_or-set_same marks refusal.image false false within
            ∙ sym (ap (has_need table (refusals ++ refusal ∷ [])) here
            ∙ and_left (not (is_refused (refusals ++ refusal ∷ []) refusal.image)) _
            (not_from_true _ (is_refused-push_same refusals refusal)))
        | inr apart ↦
            get_or-set_other marks refusal.image i false false (λ same. eqb-false refusal.image i apart (sym same))
            ∙ right.each i ∙ sym (has_need-push table refusals refusal i apart not_left)
      ];
    }

-- The dropped request is that of an image of the table.
pub next_need-within : (table : Table) (refusals : List Refusal) (refusal : Refusal)
    → IsNextNeed table refusals refusal → refusal.image < length table.images.items
next_need-within table refusals refusal need =
    let has = HasNeed-from_reason table refusals refusal.image refusal.reason need.reason in
    slice_get_within table.images.items refusal.image has.image has.has_image
