use Rattle.inspecting.proofs.slots_found.resting_table.Goals as goal

-- The table is the one that was read.
pub returns-clause-table : goal.returns-clause-table
returns-clause-table g c =
    let reading = rw c.in-Ok-Read.field-0-is at c.in-Ok-Read.ensures in record { of = reading.ok; held = reading.held }
