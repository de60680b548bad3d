use Rattle.std.proofs.Common.{◌≡◌, ◌+◌, ◌*◌, ◌++◌, length}
use Rattle.std.specs.List.{AllByRecursion}
use Rattle.image_reading.specs.Fields.{FitsDependency, alternatives_bytes}
use Rattle.image_reading.specs.Span.{CanRead, bytes_of}
use Rattle.image_reading.proofs.groups.GroupSpelled.at.Given as goal

abbrev pub invariant-loop-rest : goal.invariant-loop-rest
invariant-loop-rest g l = record {
  same : g.M.Medium.chip l.medium ≡ g.M.Medium.chip l.fn.medium;
  readable : CanRead (g.M.Medium.chip l.fn.medium) l.rest;
  fit : AllByRecursion FitsDependency l.alternatives.items;
  spelled : bytes_of (g.M.Medium.chip l.fn.medium) l.fn.value
      ≡ alternatives_bytes l.alternatives.items ++ bytes_of (g.M.Medium.chip l.fn.medium) l.rest;
  count : l.fn.value.len ≡ 12 * length l.alternatives.items + l.rest.len;
}

abbrev pub decreases-loop-rest : goal.decreases-loop-rest
decreases-loop-rest g l = l.rest.len
