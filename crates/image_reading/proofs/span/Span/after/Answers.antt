use Rattle.std.proofs.Common.{arith}
use Rattle.image_reading.proofs.Spans.{CanRead-span, bytes_of-after}
use Rattle.image_reading.proofs.span.Span.after.Goals as goal

pub returns-clause-bytes : goal.returns-clause-bytes
returns-clause-bytes c = λ chip. bytes_of-after chip c.args.self c.args.n c.requires.within

pub returns-clause-readable : goal.returns-clause-readable
returns-clause-readable c = λ chip can.
    CanRead-span chip _ can.on (omega (arith, can.inside)) (omega (arith, can.addressed))
