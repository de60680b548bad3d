use Rattle.std.proofs.Common.{◌∷◌, ◌++◌, [], rules}
use Rattle.std.proofs.Output.{has_written_append, has_written_of_eq}
use Rattle.reports.specs.DependencyText.{needs_one_text}
use Rattle.inspecting.proofs.TextLaws.{printed-item}
use Rattle.inspecting.proofs.image.write_groups.Goals as goal

-- The line of one more group is written.
pub loop-group-preserved : goal.loop-group-preserved
loop-group-preserved g c = λ plain.
    let before = c.loop-group.invariant plain in
    has_written_of_eq _ _ _ _ _
    (printed-item needs_one_text c.args.groups.now c.loop-group.group-index c.group-item.result
    c.loop-group-test.true c.group-item.is)
    (has_written_append _ _ _ _ (needs_one_text c.group-item.result ++ 10 ∷ []) _ before
    (c.in_ok-writeln.ensures.writes before.plain (search rules)))
