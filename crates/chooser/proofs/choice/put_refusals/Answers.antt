use Rattle.std.proofs.Common.{rules, arith, ◌≡◌, ℕ, ◌+◌, ◌≤◌, false, List, ◌∷◌, [], ◌++◌, length, set, refl, sym, ap, subst, ◌∙◌}
use Rattle.std.proofs.lemmas.Grind.{common_steps}
use Rattle.std.proofs.lemmas.List.{length_push}
use Rattle.reports.specs.declared.report.Refusal.{Refusal}
use Rattle.reports.specs.StandardOrder.{IsNextNeed}
use Rattle.chooser.specs.declared.steps.Steps.{Steps}
use Rattle.chooser.specs.Counted.{drops_in}
use Rattle.chooser.specs.Marks.{AreMarks, AreMarksApartFrom}
use Rattle.chooser.proofs.Counting.{drops_in-own, drops_in-push, most_looks, most_looks-le, most_looks-more}
use Rattle.chooser.proofs.Marking.{AreMarksApartFrom-drop, next_need-within}
use Rattle.chooser.proofs.Order.{IsRefusalList, IsRefusalList-start, IsRefusalList-push, length-refusal_list}
use Rattle.chooser.proofs.choice.put_refusals.Goals as goal

pub loop-refusal-init : goal.loop-refusal-init
loop-refusal-init c =
    let table = c.args.table.now in
    let own = c.put_own_refusals.new.refusals.items in
    record {
      listed = IsRefusalList-start table own c.put_own_refusals.ensures;
      marked = subst (λ (refusals : List Refusal). AreMarks table refusals c.marks_after-marks.result) c.deref.ensures.0
          c.marks_after-marks.ensures;
      passes = refl;
      drops = omega (arith, ap drops_in c.put_own_refusals.ensures, drops_in-own table);
      at_least = omega arith;
      at_most = omega arith;
    }

pub prove-unreachable-requires : goal.prove-unreachable-requires
prove-unreachable-requires c =
    let room = length-refusal_list c.args.table.now c.loop-refusal.refusals.items c.deref-in-loop-refusal.result.now c.in-Some.refusal c.loop-refusal.invariant.listed c.deref-in-loop-refusal.ensures.0 c.in-Some.ensures.next in
    omega arith

pub bounds-marks-from : goal.bounds-marks-from
bounds-marks-from c =
    let within = next_need-within c.args.table.now c.deref-in-loop-refusal.result.now c.in-Some.refusal c.in-Some.ensures.next in
    omega (arith, within, c.from.ensures, c.len-in-Some.ensures.value, c.len-in-Some.ensures.fits)

pub mark_dependants-requires-clause-others : goal.mark_dependants-requires-clause-others
mark_dependants-requires-clause-others c =
    let table = c.args.table.now in
    let refusals = c.loop-refusal.refusals.items in
    let refusal = c.in-Some.refusal in
    let need : IsNextNeed table refusals refusal =
    subst (λ (listed : List Refusal). IsNextNeed table listed refusal) c.deref-in-loop-refusal.ensures.0 c.in-Some.ensures.next in
    subst (λ (listed : List Refusal). AreMarksApartFrom table listed refusal.image
    (set c.loop-refusal.marks c.from.result false)) (sym (c.deref-in-Some.ensures.0 ∙ c.push.ensures.items))
    (subst (λ (place : ℕ). AreMarksApartFrom table (refusals ++ refusal ∷ []) refusal.image
    (set c.loop-refusal.marks place false)) (sym c.from.ensures)
    (AreMarksApartFrom-drop table refusals refusal c.loop-refusal.marks need c.loop-refusal.invariant.marked))

pub mark_dependants-requires-clause-once : goal.mark_dependants-requires-clause-once
mark_dependants-requires-clause-once c =
    let table = c.args.table.now in
    let pushed : IsRefusalList table c.deref-in-Some.result.now =
    subst (λ (listed : List Refusal). IsRefusalList table listed) (sym (c.deref-in-Some.ensures.0 ∙ c.push.ensures.items))
    (IsRefusalList-push table c.loop-refusal.refusals.items c.deref-in-loop-refusal.result.now c.in-Some.refusal c.loop-refusal.invariant.listed c.deref-in-loop-refusal.ensures.0 c.in-Some.ensures.next) in
    pushed.once.once

pub mark_dependants-requires-clause-room : goal.mark_dependants-requires-clause-room
mark_dependants-requires-clause-room c =
    let few : length c.loop-refusal.refusals.items ≤ 8 = search rules in
    omega (arith, c.requires.looks, c.loop-refusal.invariant.at_most, most_looks-le (length c.loop-refusal.refusals.items) few)

pub loop-refusal-preserved : goal.loop-refusal-preserved
loop-refusal-preserved c =
    let table = c.args.table.now in
    let refusals = c.loop-refusal.refusals.items in
    let refusal = c.in-Some.refusal in
    let so_far = c.loop-refusal.invariant in
    let before = c.loop-refusal.steps in
    let dropped : Steps = record before { drops = before.drops + 1 } in
    let after = c.mark_dependants.new.steps in
    let counted : after ≡ record dropped { looks = after.looks } = c.mark_dependants.ensures.only_looks.1 in
    let need : IsNextNeed table refusals refusal =
    subst (λ (listed : List Refusal). IsNextNeed table listed refusal) c.deref-in-loop-refusal.ensures.0 c.in-Some.ensures.next in
    let more : length c.push.new.self.items ≡ length refusals + 1 =
    ap (λ (listed : List Refusal). length listed) c.push.ensures.items ∙ length_push refusals refusal in
    record {
      listed =
          subst (λ (listed : List Refusal). IsRefusalList table listed) (sym c.push.ensures.items)
          (IsRefusalList-push table refusals refusals refusal so_far.listed refl need);
      marked =
          subst (λ (listed : List Refusal). AreMarks table listed c.mark_dependants.new.marks) c.deref-in-Some.ensures.0
          c.mark_dependants.ensures.marks;
      passes = ap (λ (steps : Steps). steps.passes) counted ∙ so_far.passes;
      drops = omega (
        arith,
        ap (λ (steps : Steps). steps.drops) counted,
        so_far.drops,
        ap drops_in c.push.ensures.items,
        drops_in-push table refusals refusal need,
      );
      at_least = omega (arith, so_far.at_least, c.mark_dependants.ensures.only_looks.0);
      at_most = omega (
        arith,
        so_far.at_most,
        c.mark_dependants.ensures.looks,
        ap (λ (listed : List Refusal). length listed) c.deref-in-Some.ensures.0,
        more,
        ap most_looks more,
        most_looks-more (length refusals),
        c.len-in-Some.ensures.value,
        c.len-in-Some.ensures.fits,
      );
    }

pub returns-clause-looks : goal.returns-clause-looks
returns-clause-looks c =
    let few : length c.loop-refusal.refusals.items ≤ 8 = search rules in (
      c.loop-refusal.invariant.at_least,
      omega (
        arith,
        c.loop-refusal.invariant.at_most,
        most_looks-le (length c.loop-refusal.refusals.items) few,
      ),
    )

pub overflow_add-steps-in-Some : goal.overflow_add-steps-in-Some
overflow_add-steps-in-Some c = grind (arith, common_steps)
