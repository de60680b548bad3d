use Rattle.std.specs.Io.KnownBytes.{Keeps}
use Rattle.system_host.specs.Held.{held_contents}
use Rattle.system_host.proofs.output.Output.send_held.Given as goal

-- What was sent and what is buffered are together what was buffered at the start.
abbrev pub invariant-loop : goal.invariant-loop
invariant-loop g l = record {
  kept : Keeps (held_contents g.W.Write.contents l.fn.self.to l.fn.self.held.items l.fn.self.sent)
      (held_contents g.W.Write.contents l.self.to l.self.held.items l.self.sent);
}
