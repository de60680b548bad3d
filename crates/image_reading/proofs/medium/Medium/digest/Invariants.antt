use Rattle.std.proofs.Common.{◌≡◌}
use Rattle.image_reading.specs.Span.{CanRead, bytes_of}
use Rattle.image_reading.proofs.Spans.{HoldsBefore}
use Rattle.image_reading.proofs.medium.Medium.digest.Given as goal

abbrev pub invariant-loop-rest : goal.invariant-loop-rest
invariant-loop-rest g l = record {
  same : g.Self.Medium.chip l.self ≡ g.Self.Medium.chip l.fn.self;
  readable : CanRead (g.Self.Medium.chip l.fn.self) l.rest;
  held : HoldsBefore l.hasher
      (bytes_of (g.Self.Medium.chip l.fn.self) l.rest) (bytes_of (g.Self.Medium.chip l.fn.self) l.fn.span);
}

abbrev pub decreases-loop-rest : goal.decreases-loop-rest
decreases-loop-rest g l = l.rest.len
