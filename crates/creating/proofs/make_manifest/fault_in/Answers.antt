use Rattle.creating.proofs.make_manifest.fault_in.Goals as goal

-- Two files are for the same image.
pub returns-then-repeats-clause-fault : goal.returns-then-repeats-clause-fault
returns-then-repeats-clause-fault c =
    (c.have_images.ensures.0 c.if-not-have_images.false, c.repeats.ensures c.if-repeats.true)
