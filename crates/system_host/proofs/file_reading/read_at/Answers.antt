use Rattle.std.proofs.Common.{◌∙◌, arith}
use Rattle.system_host.proofs.FileLaws.{length-filled}
use Rattle.system_host.proofs.file_reading.read_at.Goals as goal

-- The bytes that were read fill the part.
pub returns-clause-many : goal.returns-clause-many
returns-clause-many c =
    length-filled c.read_exact_at.new.buf c.in_ok-part.part.items c.in_ok-part.part.len
    (c.read_exact_at.auto.buf ∙ c.deref_mut.ensures.len) ∙ c.in_ok-part.ensures.len

-- The part has `count` bytes, which is at most the limit.
pub returns-clause-most : goal.returns-clause-most
returns-clause-most c =
    omega (
      arith,
      length-filled c.read_exact_at.new.buf c.in_ok-part.part.items c.in_ok-part.part.len
          (c.read_exact_at.auto.buf ∙ c.deref_mut.ensures.len) ∙ c.in_ok-part.ensures.len,
    )
