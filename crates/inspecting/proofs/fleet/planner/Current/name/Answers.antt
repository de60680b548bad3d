use Rattle.std.proofs.Common.{subst, sym}
use Rattle.std.specs.Str.{IsUtf8}
use Rattle.inspecting.proofs.DeviceLaws.{IsUtf8-name}
use Rattle.inspecting.proofs.fleet.planner.Current.name.Goals as goal

-- The name is UTF-8.
pub returns-in-Err : goal.returns-in-Err
returns-in-Err c device was =
    let utf8 = subst IsUtf8 (sym (c.name_bytes.ensures device was)) (IsUtf8-name device.name was.is.named) in
    let fails = rw c.in-Err.is at c.from_utf8.ensures in absurd (fails.cases.0 utf8)
