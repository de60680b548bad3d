use Rattle.system_host.proofs.stack.+marked_on_stack.Given as goal

abbrev pub decreases-marked_on_stack : goal.decreases-marked_on_stack
decreases-marked_on_stack l = l.pages
