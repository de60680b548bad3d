use Rattle.std.proofs.Common.{◌∷◌, take}
use Rattle.std.specs.Prelude.{decimal}
use Rattle.std.specs.List.{flat_map}
use Rattle.common.specs.Lines.{◌␣◌}
use Rattle.version_order.specs.VersionText.{version_text}
use Rattle.reports.proofs.needs.write_alternatives.Given as goal

abbrev pub invariant-loop-alternative : goal.invariant-loop-alternative
invariant-loop-alternative g l =
    g.S.Sink.takes l.initial.sink
    (flat_map (λ alternative. 32 ∷ (decimal alternative.image ␣ version_text alternative.minimum))
    (take l.alternative-index l.alternatives)) l.sink
