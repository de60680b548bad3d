use Rattle.std.proofs.Common.{rules}
use Rattle.version_order.proofs.Readings.{Ok_from_text}
use Rattle.version_order.proofs.version.Version.from_ascii.Goals as goal

pub returns-clause-only : goal.returns-clause-only
returns-clause-only c = Ok_from_text c.args.text.now c.ok_or.result (search rules)
