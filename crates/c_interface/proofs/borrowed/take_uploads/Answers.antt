use Rattle.c_interface.proofs.borrowed.take_uploads.Goals as goal

pub returns-then-not-saved_uploads-clause-none : goal.returns-then-not-saved_uploads-clause-none
returns-then-not-saved_uploads-clause-none g c none call is sessions taken =
    c.saved_uploads.ensures.none c.if-not-saved_uploads.true sessions taken.rows
