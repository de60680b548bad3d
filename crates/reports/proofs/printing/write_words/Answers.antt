use Rattle.std.proofs.Common.{append_assoc, ◌++◌, ◌∷◌}
use Rattle.std.specs.Prelude.{codes, decimal}
use Rattle.common.specs.Lines.{◌␣◌}
use Rattle.version_order.specs.VersionText.{version_text}
use Rattle.reports.proofs.Sinks.{spelled, then}
use Rattle.reports.proofs.printing.write_words.Goals as goal

pub returns-in_ok-write_number-in-Image : goal.returns-in_ok-write_number-in-Image
returns-in_ok-write_number-in-Image g c =
    let both = g.met.S.Sink.takes_both in
    let image = c.in-Image in
    rw c.in-Image.is
    (spelled g.S.Sink.takes _ _ _ _ c.write_number-in-Image.result
    (append_assoc (codes "image " ++ decimal image.number) (32 ∷ version_text image.version)
    (32 ∷ (decimal image.counter ␣ decimal image.floor)))
    (then _ both _ _ _ _ _ _ c.in_ok-write_image_and_version-in-Image.ensures
    (then _ both _ _ _ _ _ _ c.in_ok-write_number-in-Image.ensures c.write_number-in-Image.ensures)))

pub returns-in_ok-write_version-in-Request : goal.returns-in_ok-write_version-in-Request
returns-in_ok-write_version-in-Request g c =
    let both = g.met.S.Sink.takes_both in
    rw c.in-Request.is
    (then _ both _ _ _ _ _ _ c.in_ok-put-in-Request.ensures
    (then _ both _ _ _ _ _ _ c.in_ok-write_version-in-Request.ensures c.write_number-in-Request.ensures))
