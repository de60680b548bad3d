use Rattle.std.proofs.Common.{arith, rules, sym, subst}
use Rattle.inspecting.proofs.MergingLaws.{HasAdded-next, HasAdded-none, IsSummaryText-done}
use Rattle.inspecting.specs.Merging.{HasAdded}
use Rattle.inspecting.specs.SummaryText.{read_row_of}
use Rattle.inspecting.proofs.fleet.merging.add_text.Goals as goal

-- Nothing is read.
pub loop-rest-init : goal.loop-rest-init
loop-rest-init c = record { added = HasAdded-none c.args.text.now c.args.summary.now.rows; lines = omega arith }

-- One more row is added.
pub loop-rest-preserved : goal.loop-rest-preserved
loop-rest-preserved c = record {
  added = subst (λ last. HasAdded c.args.text.now c.in-Some.after.now last c.args.summary.now.rows c.add_read.new.summary.rows) (sym c.as_bytes-last.ensures.value)
      (HasAdded-next c.args.text.now c.loop-rest.rest.now c.loop-rest.last.now (read_row_of c.in-Some.row) c.in-Some.after.now c.args.summary.now.rows
      c.loop-rest.summary.rows c.add_read.new.summary.rows c.loop-rest.invariant.added c.in-Some.ensures c.in_ok-add_read.ensures);
  lines = omega (arith, c.loop-rest.invariant.lines, c.in-Some.ensures.fewer);
}

-- The text is read to its end.
pub returns : goal.returns
returns c =
    IsSummaryText-done c.args.text.now c.loop-rest.rest.now c.loop-rest.last.now c.args.summary.now.rows c.loop-rest.summary.rows c.loop-rest.invariant.added (search rules)
