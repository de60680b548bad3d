use Rattle.std.proofs.Common.{subst, sym}
use Rattle.upload.specs.View.{view}
use Rattle.upload.specs.Sessions.{AllOpenAt}
use Rattle.layer_tests.proofs.intake.uploads.take.Goals as goal

pub returns-in_ok-_state-in-Accept : goal.returns-in_ok-_state-in-Accept
returns-in_ok-_state-in-Accept g c =
    c.accept.ensures.all_open (subst (λ chip. AllOpenAt (view c.args.map.now chip) c.args.uploads.now.sessions)
    (sym c.read_state.ensures.same) c.requires)
