use Rattle.std.proofs.Common.{◌≡◌, sym, ap, ◌∙◌}
use Rattle.byteorder.specs.Endian.{little_number}
use Rattle.image_reading.specs.Fields.{counter_bytes}
use Rattle.image_reading.specs.Span.{bytes_of}
use Rattle.image_header.proofs.Fields.{little_bytes-little_number_4}
use Rattle.image_reading.proofs.Spans.{IsBytes-bytes_of}
use Rattle.image_reading.proofs.fields.counter_at.Goals as goal

pub returns-clause-spelled : goal.returns-clause-spelled
returns-clause-spelled g c =
    let value = bytes_of (g.M.Medium.chip c.args.medium.now) c.args.value in
    let fits = IsBytes-bytes_of _ c.args.value (g.met.M.Medium.bytes c.args.medium.now) in
    let read : c.read_u32.result ≡ little_number 4 value =
    c.read_u32.ensures ∙ ap (little_number 4) c.read.ensures.read in
    sym (ap counter_bytes read
    ∙ little_bytes-little_number_4 value fits (c.requires.whole ∙ c.if-value-ne-COUNTER_LENGTH.false))
