use Rattle.std.proofs.KnownBytes.{Keeps-refl}
use Rattle.inspecting.proofs.choose.choose_over.Goals as goal

-- The bytes aren't a table.
pub returns-in-Err-BadLine : goal.returns-in-Err-BadLine
returns-in-Err-BadLine g c = (
  c.in-Ok.bytes.items,
  (c.in-Ok.ensures.bytes, c.in-Ok.ensures.end),
  (
    rw (c.in-Err-BadLine.field-0-is, ← c.in-Err-BadLine.line-is, c.deref.ensures.value) at c.in-Err-BadLine.ensures,
    Keeps-refl (g.W.Write.contents c.args.out.now),
  ),
)

-- The running images of the table don't fit each other.
pub returns-in-Err-NotValid : goal.returns-in-Err-NotValid
returns-in-Err-NotValid g c = (
  c.in-Ok.bytes.items,
  (c.in-Ok.ensures.bytes, c.in-Ok.ensures.end),
  (
    (c.in-Err-NotValid.field-0-0, rw (c.in-Err-NotValid.field-0-is, c.deref.ensures.value) at c.in-Err-NotValid.ensures),
    Keeps-refl (g.W.Write.contents c.args.out.now),
  ),
)
