use Rattle.std.proofs.Common.{rules}
use Rattle.std.proofs.Output.{has_written_append, has_written_of_eq}
use Rattle.reports.specs.DependencyText.{needs_text}
use Rattle.inspecting.proofs.TextLaws.{printed-more}
use Rattle.inspecting.proofs.image.write_needs.Goals as goal

-- The line of one more dependency is written.
pub loop-dependency-preserved : goal.loop-dependency-preserved
loop-dependency-preserved g c = λ plain.
    let before = c.loop-dependency.invariant plain in
    has_written_of_eq _ _ _ _ _
    (printed-more needs_text c.args.dependencies.now c.loop-dependency.dependency-index _ c.loop-dependency-test.true)
    (has_written_append _ _ _ _ _ _ before (c.in_ok-writeln.ensures.writes before.plain (search rules)))
