use Rattle.std.proofs.Common.{arith, subst}
use Rattle.std.proofs.lemmas.List.{get_or_default}
use Rattle.upload.specs.Sessions.{upload_at}
use Rattle.c_interface.specs.SavedState.{SavesUpload, no_row}
use Rattle.c_interface.proofs.saved_state.load_uploads.Goals as goal

pub returns-in-None-clause-none : goal.returns-in-None-clause-none
returns-in-None-clause-none c none sessions keeps =
    c.load_upload.ensures.none c.in-None.is (upload_at sessions c.loop-i.i)
    (subst (λ row. SavesUpload row (upload_at sessions c.loop-i.i))
    (get_or_default c.args.rows.now c.loop-i.i no_row _ (omega (arith, c.loop-i-test.true, c.requires.rows)))
    (keeps c.loop-i.i))
