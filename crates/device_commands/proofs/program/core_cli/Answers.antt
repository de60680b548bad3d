use Rattle.std.proofs.Common.{map}
use Rattle.device_commands.proofs.WordsLaws.{EndsCore-error}
use Rattle.device_commands.proofs.program.core_cli.Goals as goal

-- Arguments that give no order end by the answer to them.
pub returns-in-Err : goal.returns-in-Err
returns-in-Err g c =
    EndsCore-error (map g.S.AsStr.text c.args.words.now) c.in-Err.error c.answer_words.result _
    (g.H.Host.input c.args.host.now) (g.H.Host.file c.args.host.now)
    (g.O.Write.contents c.args.out.now) (g.O.Write.contents c.answer_words.new.out)
    c.in-Err.ensures.refused c.answer_words.ensures
