use Rattle.std.proofs.Common.{◌≡◌, ℕ, ◌+◌, ◌<◌, length, arith, set, subst}
use Rattle.reports.specs.declared.table.Entry.{Entry}
use Rattle.boot_core.proofs.Afresh.{AreWritten, all_written, none_written, one_written}
use Rattle.boot_core.proofs.provisioning.counters_of.Goals as goal

pub loop-image-init : goal.loop-image-init
loop-image-init c = none_written c.args.running.now

pub loop-image-preserved : goal.loop-image-preserved
loop-image-preserved c =
    let entries = c.args.running.now in
    let image = c.loop-image.image in
    let counters = c.loop-image.counters in
    let few : image < 8 = omega (arith, c.requires, c.loop-image-test.true) in
    subst (λ (entry : Entry). AreWritten entries (image + 1) (set counters image entry.counter))
    c.index-running-image.is
    (one_written entries image counters _ few c.index-running-image.is c.loop-image.invariant)

pub returns : goal.returns
returns c =
    let entries = c.args.running.now in
    let end : c.loop-image.image ≡ length entries =
    omega (arith, c.loop-image-test.false, c.loop-image.auto.image-end) in
    all_written entries c.loop-image.counters
    (subst (λ (n : ℕ). AreWritten entries n c.loop-image.counters) end c.loop-image.invariant)
