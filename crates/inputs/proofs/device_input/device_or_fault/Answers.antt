use Rattle.std.proofs.Common.{arith}
use Rattle.inputs.proofs.device_input.device_or_fault.Goals as goal

pub returns-in-Err-Map-clause-read : goal.returns-in-Err-Map-clause-read
returns-in-Err-Map-clause-read g c = (
  c.in_ok-bytes.ensures.bytes (omega (arith, c.if-len.false, c.len.ensures)),
  rw (c.deref.ensures.value, c.in-Err-Map.field-0-is) at c.in-Err-Map.ensures.fault,
)
