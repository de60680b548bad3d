use Rattle.std.proofs.Common.{◌≡◌, ap, arith, inl, refl, ⊎_elim}
use Rattle.std.proofs.lemmas.Result.{IfOk-weaker}
use Rattle.upload.proofs.Ends.{err_passed}
use Rattle.flash_contents.proofs.Returning.{back_finishes}
use Rattle.set_log.specs.declared.state.State.{State}
use Rattle.boot_core.proofs.OnMap.{layout_then}
use Rattle.boot_core.proofs.Passed.{passes_err, then_ends}
use Rattle.boot_core.proofs.Asking.{this_kind}
use Rattle.boot_core.specs.Journal.{is_returned}
use Rattle.set_log.specs.declared.state.RecordKind.TheVariants.{BackSettle}
use Rattle.boot_core.proofs.back.finish_back.Goals as goal

pub returns-in_err-settle : goal.returns-in_err-settle
returns-in_err-settle g c =
    rw (err_passed c.from_residual.result c.in_err-settle.field-0.0 c.from_residual.ensures.1)
    (record {
      passes = passes_err c.record_back.ensures.layout (λ s trial was. inl (c.record_back.ensures.stands s trial was))
          c.in_err-settle.ensures.ends;
      returns = c.record_back.ensures.returns;
    })

pub returns : goal.returns
returns g c =
    let recorded = c.in_ok-settle.ensures in
    let same : c.in_ok-settle.settle.mask ≡ c.args.state.now.mask =
    ap (λ (state : State). state.mask) recorded.done.is in
    let returns = rw same at c.settle_and_return.ensures in
    record {
      returns = inl (⊎_elim
          (λ still. this_kind is_returned _ c.in_ok-settle.settle BackSettle still
          (ap (λ (state : State). state.kind) recorded.done.is) refl)
          (λ rests. (rests.0, rests.1, ap is_returned rests.2)) c.settle_and_return.ensures.either);
      passes = record {
        layout = layout_then recorded.layout returns.layout;
        stands = λ s trial was. back_finishes c.args.map.now _ s trial
            (returns.stands s trial was.0 (recorded.done.ok s trial was));
        done = IfOk-weaker c.settle_and_return.result _ _ (λ value returned. record {
          ok = λ s trial was. returned.ok s trial was.0 (recorded.done.ok s trial was);
          erases = omega (arith, recorded.done.erases, returned.erases);
        }) returns.done;
        ends = then_ends recorded.ends returns.ends;
      };
    }
