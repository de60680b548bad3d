use Rattle.std.proofs.Common.{rules, arith, ℕ, ◌+◌, ◌<◌, ◌≤◌, Bool, length, length-set, set, sym, subst, ◌∙◌}
use Rattle.chooser.proofs.Marking.{AreMarksBelow, AreMarksBelow-more, AreMarks-from_below}
use Rattle.chooser.proofs.marks.marks_after.Goals as goal

pub loop-number-preserved : goal.loop-number-preserved
loop-number-preserved c =
    let table = c.args.table.now in
    let refusals = c.args.refusals.now in
    let number = c.loop-number.number in
    let marks = c.loop-number.marks in
    let within : number < length marks = omega (arith, c.loop-number.invariant.count, c.len-number-end.ensures.fits) in
    record {
      marked =
          subst (λ (place : ℕ). AreMarksBelow table refusals (number + 1) (set marks place c.has_need.result))
          (sym c.from.ensures)
          (subst (λ (mark : Bool). AreMarksBelow table refusals (number + 1) (set marks number mark))
          (sym c.has_need.ensures)
          (AreMarksBelow-more table refusals number marks within c.loop-number.invariant.marked));
      count = length-set marks c.from.result c.has_need.result ∙ c.loop-number.invariant.count;
    }

pub returns : goal.returns
returns c =
    let past : length c.args.table.now.images.items ≤ c.loop-number.number = search rules in
    AreMarks-from_below c.args.table.now c.args.refusals.now c.loop-number.number c.loop-number.marks past
    c.loop-number.invariant.marked
