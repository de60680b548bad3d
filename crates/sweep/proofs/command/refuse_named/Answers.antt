use Rattle.sweep.proofs.SweepEndLaws.{apart_more}
use Rattle.sweep.proofs.command.refuse_named.Goals as goal

-- The file that the next line names is apart too.
pub loop-lines-preserved : goal.loop-lines-preserved
loop-lines-preserved g c =
    apart_more (g.H.Host.apart c.args.host.now) c.args.picture.now c.args.text.now c.loop-lines.lines
    c.next_line.new.self c.in_ok-line.line c.in_ok-line.ensures.next c.in_ok-refuse_line.ensures c.loop-lines.invariant
