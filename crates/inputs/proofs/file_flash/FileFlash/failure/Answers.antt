use Rattle.std.proofs.Common.{◌+◌, ap}
use Rattle.inputs.proofs.file_flash.FileFlash.failure.Goals as goal

pub returns-clause-armed : goal.returns-clause-armed
returns-clause-armed g c = ap (λ n. n + c.args.self.now.faults.amount) c.args.self.now.memory.cut_as_armed
