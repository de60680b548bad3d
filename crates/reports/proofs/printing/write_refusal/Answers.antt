use Rattle.std.proofs.Common.{append_assoc, sym, ◌++◌, ◌∷◌, []}
use Rattle.std.specs.Prelude.{codes, decimal}
use Rattle.reports.specs.ReportText.{reason_text}
use Rattle.reports.proofs.Sinks.{spelled, then}
use Rattle.reports.proofs.printing.write_refusal.Goals as goal

pub returns : goal.returns
returns g c =
    let both = g.met.S.Sink.takes_both in
    let refusal = c.args.refusal.now in
    let first = rw c.from.ensures at c.in_ok-write_number.ensures in
    spelled g.S.Sink.takes _ _ _ _ c.put-2.result
    (sym (append_assoc (codes "refuse " ++ decimal refusal.image) (32 ∷ reason_text refusal.reason) (10 ∷ [])))
    (then _ both _ _ _ _ _ _ first
    (then _ both _ _ _ _ _ _ c.in_ok-put.ensures
    (then _ both _ _ _ _ _ _ c.in_ok-write_reason.ensures c.put-2.ensures)))
