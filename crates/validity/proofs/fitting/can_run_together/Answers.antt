use Rattle.std.proofs.Common.{◌≡◌, ◌∙◌, ap}
use Rattle.std.specs.List.{list_all}
use Rattle.reports.specs.Combination.{meets_all, running_set}
use Rattle.validity.specs.Running.{running_table}
use Rattle.validity.proofs.RunningSet.{entries_are_valid, entries_fit}
use Rattle.validity.proofs.fitting.can_run_together.Goals as goal

pub returns : goal.returns
returns c =
    let entries = c.args.running.now.items in
    let is : c.can_all_run.result ≡ entries_fit entries = c.can_all_run.ensures
    ∙ ap (λ l. list_all (meets_all (running_table entries) running_set) l) c.deref.ensures.0 in
    rw is (entries_are_valid entries)
