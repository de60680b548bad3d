use Rattle.device_texts.proofs.LineLaws.{one_line}
use Rattle.device_texts.proofs.laws.a_text_says_one_line.Goals as goal

pub returns : goal.returns
returns c = one_line
