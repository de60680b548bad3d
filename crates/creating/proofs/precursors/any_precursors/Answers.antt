use Rattle.std.proofs.Common.{◌≡◌, None, refl}
use Rattle.creating.proofs.NewManifestLaws.{nothing, zip_more}
use Rattle.creating.proofs.precursors.any_precursors.Goals as goal

-- One more file has no precursor.
pub loop-preserved : goal.loop-preserved
loop-preserved c =
    rw c.push.ensures.items (zip_more (λ component precursor. precursor ≡ None) c.args.asked.now c.loop.digests.items c.loop.index nothing None
    c.loop-test.true c.loop.invariant refl)
