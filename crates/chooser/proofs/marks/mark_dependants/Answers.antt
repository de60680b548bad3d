use Rattle.std.proofs.Common.{rules, ◌≡◌, ◌+◌, ◌<◌, ◌≤◌, Bool, false, List, length, set, sym, ap, subst, ◌∙◌}
use Rattle.std.proofs.lemmas.Bool.{and_left, and_right, not_from_true}
use Rattle.validity.specs.Dependants.{is_dependant}
use Rattle.reports.specs.Reasons.{is_refused}
use Rattle.chooser.specs.declared.steps.Steps.{Steps}
use Rattle.chooser.specs.Marks.{is_left_dependant}
use Rattle.chooser.proofs.Counting.{AreLooks, AreLooks-look, AreLooks-skip, counts_only_looks, looks-le}
use Rattle.chooser.proofs.Marking.{AreMarksUpTo, AreMarksUpTo-look, AreMarksUpTo-skip, AreMarks-from_up_to}
use Rattle.chooser.proofs.marks.mark_dependants.Goals as goal
use Rattle.chooser.proofs.marks.mark_dependants.Goals.{then-is_member+then-not-is_refused, else-is_member, else-is_member-via-then-is_member+else-not-is_refused, else-is_member-via-else-is_member}

pub loop-number-preserved : goal.loop-number-preserved
loop-number-preserved c =
    let table = c.args.table.now in
    let refusals = c.args.refusals.now in
    let dropped = c.args.dropped in
    let number = c.loop-number.number in
    let marks = c.loop-number.marks in
    let before = c.args.steps.now in
    let steps = c.loop-number.steps in
    let so_far = c.loop-number.invariant in
    let told : is_dependant table dropped number ≡ c.is_member.result =
    sym (c.dependants-dependants.ensures number) ∙ sym c.is_member.ensures in
    let within : number < length marks = search rules in
    elim c.if-is_member.branch [
      | then-is_member+then-not-is_refused w ↦
          let unrefused : is_refused refusals number ≡ false = sym w.is_refused.ensures ∙ w.if-not-is_refused.true in
          record {
            marked =
                subst (λ (next : List Bool). AreMarksUpTo table refusals dropped (number + 1) next)
                (sym (w.marks-is ∙ ap (λ place. set marks place w.has_unmet.result) w.from.ensures
                ∙ ap (set marks number) w.has_unmet.ensures))
                (AreMarksUpTo-look table refusals dropped number marks within unrefused so_far.marked);
            looked =
                subst (λ (next : Steps). AreLooks table refusals (number + 1) before.looks next.looks) (sym w.steps-is)
                (AreLooks-look table refusals dropped number before.looks steps.looks (told ∙ w.if-is_member.true)
                unrefused so_far.looked);
            only_looks = counts_only_looks before steps c.if-is_member.steps so_far.only_looks w.steps-is;
          }
      | else-is_member w ↦
          let other : is_left_dependant table refusals dropped number ≡ false =
          elim w.else-is_member.branch [
            | else-is_member-via-then-is_member+else-not-is_refused w' ↦
                and_right (is_dependant table dropped number) _
                (not_from_true _ (sym w'.is_refused.ensures ∙ w'.if-not-is_refused.false))
            | else-is_member-via-else-is_member w' ↦
                and_left (is_dependant table dropped number) _ (told ∙ w'.if-is_member.false)
          ] in
          record {
            marked =
                subst (λ (next : List Bool). AreMarksUpTo table refusals dropped (number + 1) next) (sym w.marks-is)
                (AreMarksUpTo-skip table refusals dropped number marks other so_far.marked);
            looked =
                subst (λ (next : Steps). AreLooks table refusals (number + 1) before.looks next.looks) (sym w.steps-is)
                (AreLooks-skip table refusals number before.looks steps.looks so_far.looked);
            only_looks =
                subst (λ (next : Steps). next ≡ record before { looks = next.looks }) (sym w.steps-is) so_far.only_looks;
          }
    ]

pub returns-clause-marks : goal.returns-clause-marks
returns-clause-marks c =
    let past : length c.args.table.now.images.items ≤ c.loop-number.number = search rules in
    AreMarks-from_up_to c.args.table.now c.args.refusals.now c.args.dropped c.loop-number.number c.loop-number.marks past
    c.loop-number.invariant.marked

pub returns-clause-looks : goal.returns-clause-looks
returns-clause-looks c =
    looks-le c.args.table.now c.args.refusals.now c.loop-number.number c.args.steps.now.looks c.loop-number.steps.looks
    c.loop-number.invariant.looked
