use Rattle.host.specs.Input.{KeepsFiles}
use Rattle.sweep.proofs.outputs.sum_of.Given as goal

-- The files are as they were.
abbrev pub invariant-loop-output : goal.invariant-loop-output
invariant-loop-output g l = KeepsFiles (g.H.Host.file l.fn.host) (g.H.Host.file l.host)
