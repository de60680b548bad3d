use Rattle.creating.proofs.next_boot.write_refusals.Goals as goal

-- The running images fit each other.
pub choose-report-requires : goal.choose-report-requires
choose-report-requires c = c.is_valid.ensures.0 c.if-not-is_valid.false
