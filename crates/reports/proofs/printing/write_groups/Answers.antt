use Rattle.std.proofs.Common.{◌∷◌, ◌++◌, []}
use Rattle.reports.specs.TableText.{table_line_text}
use Rattle.reports.specs.declared.table_line.TableLine.TheVariants as line
use Rattle.reports.proofs.PrintedLines.{printed_more}
use Rattle.reports.proofs.Sinks.{respelled}
use Rattle.reports.proofs.printing.write_groups.Goals as goal

pub loop-group-init : goal.loop-group-init
loop-group-init g c = g.met.S.Sink.takes_nothing _

pub loop-group-preserved : goal.loop-group-preserved
loop-group-preserved g c =
    let both = g.met.S.Sink.takes_both in
    respelled g.S.Sink.takes _ _ _ _
    (printed_more table_line_text (λ group. line.NeedsOne group) c.args.groups.now c.loop-group.group-index
    c.group-item.result c.loop-group-test.true c.group-item.is)
    (both _ _ _ _ (table_line_text (line.NeedsOne c.group-item.result) ++ 10 ∷ []) c.loop-group.invariant
    (both _ _ _ _ _ c.in_ok-write_group.ensures c.in_ok-put.ensures))
