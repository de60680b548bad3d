use Rattle.std.proofs.Common.{◌∙◌, sym, None, Some}
use Rattle.validity.proofs.RunningSet.{met_by_version}
use Rattle.reports.proofs.Comparisons.{is_ge-not_lt}
use Rattle.validity.proofs.fitting.is_met.Goals as goal

pub returns-in-Some : goal.returns-in-Some
returns-in-Some r c = c.ge.ensures ∙ is_ge-not_lt _
    ∙ sym (met_by_version (r.R.Running.table c.args.running.now) c.args.dependency.now (Some c.in-Some.version)
    (sym c.in-Some.is ∙ c.version_of.ensures))

pub returns-in-None : goal.returns-in-None
returns-in-None r c =
    sym (met_by_version (r.R.Running.table c.args.running.now) c.args.dependency.now None
    (sym c.in-None.is ∙ c.version_of.ensures))
