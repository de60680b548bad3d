use Rattle.boot_core.proofs.confirming.confirm.Goals as goal

pub returns-in-Trial : goal.returns-in-Trial
returns-in-Trial g c = rw c.read_state.ensures.same at c.confirm_tried.ensures
