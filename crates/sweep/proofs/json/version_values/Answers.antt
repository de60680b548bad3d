use Rattle.std.proofs.Common.{refl}
use Rattle.device_texts.proofs.JsonLaws.{one-made}
use Rattle.sweep.specs.FoundJson.{version_json}
use Rattle.sweep.proofs.FoundLaws.{numbered-more}
use Rattle.sweep.proofs.json.version_values.Goals as goal

-- The object of one more image is added.
pub loop-image-preserved : goal.loop-image-preserved
loop-image-preserved c =
    rw c.in_ok-push.ensures.ok
    (one-made c.loop-image.values.items c.in_ok-value.value _ _ _ _
    (numbered-more version_json c.args.versions.now c.loop-image.image _ c.loop-image-test.true)
    refl c.loop-image.invariant c.in_ok-value.ensures)
