use Rattle.std.proofs.Common.{subst}
use Rattle.system_host.proofs.FileLaws.{BeginsWith-read}
use Rattle.system_host.specs.Passing.{BeginsWith}
use Rattle.system_host.proofs.file_reading.read_next.Goals as goal

-- The bytes that were read are a prefix of the input.
pub returns-clause-next : goal.returns-clause-next
returns-clause-next g c =
    let bytes = c.read_to_end.new.buf.items in
    subst (λ input. BeginsWith (g.I.Read.remaining input.now) bytes) c.take-start.ensures.inner
    (BeginsWith-read (g.I.Read.remaining c.take-start.result.inner.now) c.take-start.result.limit
    c.new-part.result.items bytes c.new-part.ensures.items c.in_ok-read_to_end.ensures.bytes)
