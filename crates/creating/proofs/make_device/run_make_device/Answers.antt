use Rattle.std.proofs.Common.{rules}
use Rattle.creating.proofs.make_device.run_make_device.Goals as goal

-- The text that was written is the one that was read back.
pub returns : goal.returns
returns g c = (
  c.as_bytes.result.now,
  c.device_of-device.result,
  search rules,
  c.in_ok-expect_file.ensures,
  rw (c.as_bytes.ensures.value, ← c.as_bytes-2.ensures.value) c.in_ok-tell.ensures.told,
)
