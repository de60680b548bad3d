use Rattle.std.proofs.Common.{ap, ◌∙◌}
use Rattle.chooser.specs.Reported.{reported_images}
use Rattle.chooser.proofs.Right.{IsComplete, IsRight-from_complete}
use Rattle.chooser.proofs.choice.put_report.Goals as goal

pub returns-clause-right : goal.returns-clause-right
returns-clause-right c =
    let table = c.args.table.now in
    let listed = c.put_refusals.ensures in
    let complete : IsComplete table c.put_refusals.new.refusals.items =
    record { standard = listed.standard; once = record { once = listed.once }; none_left = listed.none_left } in
    IsRight-from_complete table _ complete
    (c.put_images.ensures ∙ ap (reported_images table) c.deref.ensures.0) c.requires.running

pub returns-clause-greatest : goal.returns-clause-greatest
returns-clause-greatest c =
    c.right_reports_are_greatest.ensures c.args.table.now _ (returns-clause-right c)
