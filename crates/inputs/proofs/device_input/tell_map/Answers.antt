use Rattle.inputs.proofs.device_input.tell_map.Goals as goal

-- The complete text was written.
pub returns-in-Ok-write_all : goal.returns-in-Ok-write_all
returns-in-Ok-write_all g c = rw (c.as_bytes.ensures.value, c.in-Ok.ensures) at c.in-Ok-write_all.ensures.ok
