use Rattle.std.proofs.lemmas.Result.{IfOk-weaker}
use Rattle.flash_contents.proofs.Trying.{over_either, over_ok}
use Rattle.boot_core.proofs.Records.{fits_steady}
use Rattle.boot_core.proofs.trial.record_over.Goals as goal

pub append_state-requires-clause-fits : goal.append_state-requires-clause-fits
append_state-requires-clause-fits g c =
    rw c.steady.ensures (fits_steady c.args.map.now _ c.args.state.now c.args.floors c.requires.read c.requires.rest)

pub returns : goal.returns
returns g c =
    let records = rw c.steady.ensures at c.append_state.ensures in
    record {
      outside = records.outside;
      stands = over_either c.args.map.now _ _ _ c.args.floors c.requires.read records.outside records.either;
      done = IfOk-weaker c.append_state.result _ _ (λ now recorded. record {
        recorded = recorded;
        rests = over_ok c.args.map.now _ _ _ c.args.floors c.requires.read records.outside recorded.says;
      }) records.done;
      journal = records.journal;
      ends = records.ends;
    }
