use Rattle.std.proofs.Common.{◌∙◌, arith}
use Rattle.image_reading.specs.Span.{bytes_of}
use Rattle.image_reading.proofs.Headers.{header_failed, header_read}
use Rattle.image_reading.proofs.front.header.Goals as goal

pub returns-clause-read : goal.returns-clause-read
returns-clause-read g c =
    let bytes = bytes_of (g.M.Medium.chip c.args.medium.now) c.args.bytes in
    let first = c.read.ensures.read ∙ c.first.ensures.bytes (g.M.Medium.chip c.args.medium.now) in
    header_read bytes c.read.new.out c.read-2.result first c.read-2.ensures.read

pub returns-clause-fault : goal.returns-clause-fault
returns-clause-fault g c =
    let bytes = bytes_of (g.M.Medium.chip c.args.medium.now) c.args.bytes in
    let first = c.read.ensures.read ∙ c.first.ensures.bytes (g.M.Medium.chip c.args.medium.now) in
    header_failed bytes c.read.new.out c.read-2.result first (omega (arith, c.requires.whole)) c.read-2.ensures.fault
