use Rattle.std.proofs.Common.{rules, sym}
use Rattle.std.proofs.Output.{has_written_append, has_written_of_eq}
use Rattle.sweep.specs.FoundText.{version_line}
use Rattle.sweep.proofs.FoundLaws.{numbered-more}
use Rattle.sweep.proofs.text.write_versions.Goals as goal

-- The line of one more image is written.
pub loop-image-preserved : goal.loop-image-preserved
loop-image-preserved g c = λ plain.
    let before = c.loop-image.invariant plain in
    has_written_of_eq _ _ _ _ _
    (sym (numbered-more version_line c.args.versions.now c.loop-image.image _ c.loop-image-test.true))
    (has_written_append _ _ _ _ _ _ before (c.in_ok-write_version.ensures before.plain (search rules)))
