use Rattle.inspecting.proofs.DeviceLaws.{IsReadSoFar-line}
use Rattle.inspecting.proofs.fleet.planner.Current.add_line.Goals as goal

-- The table has one more line.
pub returns : goal.returns
returns c device added was none kept =
    IsReadSoFar-line device c.args.self.now added _ was none (c.in-Ok.ensures _ _ was.table kept)
