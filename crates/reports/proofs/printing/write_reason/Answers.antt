use Rattle.reports.proofs.printing.write_reason.Goals as goal

pub returns-in-NoSuchImage : goal.returns-in-NoSuchImage
returns-in-NoSuchImage g c = rw c.in-NoSuchImage.is (rw c.from.ensures at c.write_number.ensures)
