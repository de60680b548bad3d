use Rattle.std.proofs.Common.{◌∙◌}
use Rattle.image_reading.proofs.Spans.{bytes_of-reads}
use Rattle.image_reading.proofs.medium.AnyMedium.read.Goals as goal

pub returns-clause-read : goal.returns-clause-read
returns-clause-read g c =
    bytes_of-reads _ c.args.span c.read.new.out c.requires.readable (c.read.auto.out ∙ c.requires.whole)
    c.in-Ok.ensures.ok
