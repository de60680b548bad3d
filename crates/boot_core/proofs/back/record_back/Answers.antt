use Rattle.std.proofs.Common.{◌∙◌, inl, inr, refl, ⊎_elim}
use Rattle.std.proofs.lemmas.Result.{IfOk-weaker}
use Rattle.flash_contents.proofs.Returning.{back_settle_either, back_settle_ok}
use Rattle.boot_core.proofs.Records.{fits_back_settle, has_state}
use Rattle.boot_core.proofs.OnMap.{layout_kept, log_settled}
use Rattle.boot_core.proofs.back.record_back.Goals as goal

pub append_state-requires-clause-has_state : goal.append_state-requires-clause-has_state
append_state-requires-clause-has_state g c = has_state c.args.map.now _ c.args.state.now c.requires.read

pub append_state-requires-clause-fits : goal.append_state-requires-clause-fits
append_state-requires-clause-fits g c =
    fits_back_settle c.args.map.now _ c.args.state.now c.requires.read c.requires.kind

pub returns : goal.returns
returns g c =
    let map = c.args.map.now in
    let state = c.args.state.now in
    let records = c.append_state.ensures in
    record {
      returns = ⊎_elim (λ same. inr (same ∙ c.requires.read, records.outside, records.journal))
          (λ said. inl (_, said, refl)) records.either;
      passes = record {
        layout = layout_kept (log_settled state.mask) c.requires.laid_out records.outside;
        stands = λ s trial was. back_settle_either map _ _ state c.requires.read records.outside c.requires.laid_out
            records.either s trial was.1 was.2;
        done = IfOk-weaker c.append_state.result _ _ (λ now recorded. record {
          ok = λ s trial was. back_settle_ok map _ _ state c.requires.read records.outside recorded.says s trial was.2;
          recorded = recorded.recorded;
          is = recorded.is;
          erases = recorded.erases;
        }) records.done;
        ends = records.ends;
      };
    }
