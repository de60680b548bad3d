use Rattle.std.proofs.Common.{arith, subst}
use Rattle.host.specs.Input.{IsKnownAs}
use Rattle.system_host.proofs.FileLaws.{IsKnownAs-below}
use Rattle.system_host.proofs.file_reading.read_input.Goals as goal

-- Fewer bytes than the limit were read, so they are all.
pub returns : goal.returns
returns g c = λ few.
    let bytes = c.read_to_end.new.buf.items in
    subst (λ input. IsKnownAs (g.I.Read.remaining input.now) bytes) c.take-start.ensures.inner
    (IsKnownAs-below (g.I.Read.remaining c.take-start.result.inner.now) c.take-start.result.limit
    c.new-bytes.result.items bytes c.new-bytes.ensures.items c.in_ok-read_to_end.ensures.bytes
    (omega (arith, few, c.take-start.ensures.limit, c.from.ensures)))
