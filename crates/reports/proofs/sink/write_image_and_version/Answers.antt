use Rattle.std.proofs.Common.{append_assoc, ◌∷◌}
use Rattle.std.specs.Prelude.{decimal}
use Rattle.version_order.specs.VersionText.{version_text}
use Rattle.reports.proofs.Sinks.{then, spelled}
use Rattle.reports.proofs.sink.write_image_and_version.Goals as goal

pub returns : goal.returns
returns g c =
    let both = g.met.S.Sink.takes_both in
    let first = rw c.from.ensures at c.in_ok-write_number.ensures in
    spelled g.S.Sink.takes _ _ _ _ c.write_version.result (append_assoc c.args.before.now (decimal c.args.image) (32 ∷ version_text c.args.version.now))
    (then _ both _ _ _ _ _ _ first
    (then _ both _ _ _ _ _ _ c.in_ok-put.ensures c.write_version.ensures))
