use Rattle.std.proofs.Common.{◌-◌, ◌++◌, arith, ◌∙◌, ap}
use Rattle.upload.proofs.Writing.{filler, take_filler}
use Rattle.upload.proofs.finishing.fill.Goals as goal

pub returns : goal.returns
returns c = c.extend.ensures
    ∙ ap (λ l. c.args.unit.now.items ++ l) (take_filler (8 - c.len-missing.result) 8 (omega arith))
    ∙ ap (λ n. c.args.unit.now.items ++ filler (8 - n)) c.len-missing.ensures.value
