use Rattle.std.proofs.Common.{ℕ, List, ◌∷◌, [], ◌∙◌, ap, sym, arith}
use Rattle.std.specs.Prelude.{decimal}
use Rattle.std.specs.List.{flat_map}
use Rattle.std.proofs.lemmas.List.{flat_map_more, take_all, take_more}
use Rattle.common.specs.Lines.{◌␣◌}
use Rattle.version_order.specs.VersionText.{version_text}
use Rattle.version_order.specs.declared.dependency.Dependency.{Dependency}
use Rattle.reports.proofs.AlternativeLaws.{alternatives_text_each}
use Rattle.reports.proofs.Sinks.{respelled}
use Rattle.reports.proofs.needs.write_alternatives.Goals as goal

-- The printed text of an alternative.
abbrev text_of : Dependency → List ℕ
text_of alternative = 32 ∷ (decimal alternative.image ␣ version_text alternative.minimum)

pub loop-alternative-init : goal.loop-alternative-init
loop-alternative-init g c = g.met.S.Sink.takes_nothing _

pub loop-alternative-preserved : goal.loop-alternative-preserved
loop-alternative-preserved g c =
    let more = take_more c.args.alternatives.now c.loop-alternative.alternative-index _ c.loop-alternative-test.true in
    respelled g.S.Sink.takes _ _ _ _
    (flat_map_more text_of [] _ _ ∙ sym (ap (flat_map text_of) more))
    (g.met.S.Sink.takes_both _ _ _ _ (text_of _) c.loop-alternative.invariant c.in_ok-write_image_and_version.ensures)

pub returns : goal.returns
returns g c =
    respelled g.S.Sink.takes _ _ _ _
    (ap (flat_map text_of) (take_all c.loop-alternative.alternative-index c.args.alternatives.now (omega arith))
    ∙ sym (alternatives_text_each c.args.alternatives.now))
    c.loop-alternative.invariant
