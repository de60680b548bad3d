use Rattle.std.proofs.Common.{◌*◌, ◌-◌, ◌≡◌, ◌++◌, take, replicate}
use Rattle.set_log.specs.Record.{head_bytes, words}
use Rattle.set_log.proofs.state.State.to_bytes.Given as goal

abbrev pub invariant-loop-i : goal.invariant-loop-i
invariant-loop-i l =
    l.out ≡ (head_bytes l.self ++ words (take l.i l.self.floors)) ++ replicate (48 - 4 * l.i) 0
