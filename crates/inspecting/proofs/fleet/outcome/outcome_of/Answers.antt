use Rattle.inspecting.proofs.fleet.outcome.outcome_of.Goals as goal

-- The text isn't a table.
pub returns-in-Err : goal.returns-in-Err
returns-in-Err c text kept = (
  kept.few c.if-text.false,
  rw (c.deref.ensures.value, kept.whole c.if-text.false) at (rw c.in-Err.is at c.parse_into.ensures.line),
)
