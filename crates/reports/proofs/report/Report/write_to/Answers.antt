use Rattle.std.proofs.Common.{◌++◌, ◌∷◌, [], sym}
use Rattle.std.proofs.lemmas.List.Concat.{flat_map-append}
use Rattle.reports.specs.ReportText.{refuse_lines, report_line_text, reported_lines}
use Rattle.reports.proofs.Sinks.{spelled, then}
use Rattle.reports.proofs.report.Report.write_to.Goals as goal

pub returns : goal.returns
returns g c =
    let report = c.args.self.now in
    let images = rw c.as_slice.ensures.value at c.in_ok-write_reported_images.ensures in
    let refusals = rw c.as_slice-2.ensures.value at c.write_refusals.ensures in
    spelled g.S.Sink.takes _ _ _ _ c.write_refusals.result
    (sym (flat_map-append (λ said. report_line_text said ++ 10 ∷ []) (reported_lines 0 report.images.items)
    (refuse_lines report.refusals.items)))
    (then _ g.met.S.Sink.takes_both _ _ _ _ _ _ images refusals)
