use Rattle.device_texts.proofs.LineLaws.{other-read, says-read}
use Rattle.device_texts.proofs.line_reading.line_of.Goals as goal

pub returns-clause-says : goal.returns-clause-says
returns-clause-says c = says-read c.args.line.now c.read_line.result c.read_line.ensures

pub returns-clause-other : goal.returns-clause-other
returns-clause-other c = other-read c.args.line.now c.read_line.result c.read_line.ensures
