use Rattle.std.proofs.Common.{refl}
use Rattle.c_interface.specs.SavedState.{Booted, NotBooted}
use Rattle.c_interface.proofs.borrowed.restore.Goals as goal

pub returns-then-take_uploads-clause-restored : goal.returns-then-take_uploads-clause-restored
returns-then-take_uploads-clause-restored g c = λ call is. Booted refl (c.take_uploads.ensures.some c.if-take_uploads.true call is)

pub returns-clause-restored : goal.returns-clause-restored
returns-clause-restored g c = λ call is. NotBooted refl c.new.ensures
    (c.take_uploads.ensures.none c.if-take_uploads.false call is)
