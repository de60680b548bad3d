use Rattle.std.proofs.Common.{◌∙◌, arith, inl, inr, refl, subst, true, ⊎_elim}
use Rattle.std.proofs.lemmas.Result.{IfOk-weaker}
use Rattle.sector_map.proofs.Parts.{laid_out_kept}
use Rattle.upload.specs.View.{view}
use Rattle.upload.proofs.Ends.{err_passed}
use Rattle.flash_contents.specs.Holding.{AreSettled}
use Rattle.flash_contents.proofs.Returning.{returning_kept}
use Rattle.boot_core.proofs.Records.{read_kept}
use Rattle.boot_core.proofs.OnMap.{layout_kept, layout_more, log_settled, trailers_settled}
use Rattle.boot_core.proofs.Passed.{ok_both, passes_err, then_ends}
use Rattle.boot_core.proofs.back.settle_and_return.Goals as goal

pub record_returned-requires : goal.record_returned-requires
record_returned-requires g c = record {
  laid_out = laid_out_kept c.args.map.now _ _ _ c.requires.laid_out c.settle_set.ensures.outside;
  read = read_kept c.args.map.now _ _ _ c.args.state.now c.settle_set.ensures.outside refl c.requires.read;
}

pub returns-in_err-settle_set : goal.returns-in_err-settle_set
returns-in_err-settle_set g c =
    rw (err_passed c.from_residual.result c.in_err-settle_set.field-0.0 c.from_residual.ensures.1) (record {
      passes = passes_err (layout_kept (trailers_settled c.args.state.now.mask) c.requires.laid_out
          c.settle_set.ensures.outside)
          (λ s trial is was. inl (returning_kept c.args.map.now _ _ _ s trial _ is c.settle_set.ensures.outside was))
          c.in_err-settle_set.ensures.ends;
      either = inl (read_kept c.args.map.now _ _ _ c.args.state.now c.settle_set.ensures.outside refl c.requires.read);
      journal = omega (arith, c.settle_set.ensures.journal);
    })

pub returns : goal.returns
returns g c =
    let map = c.args.map.now in
    let mid = g.F.Flash.chip c.settle_set.new.flash in
    let settles = c.in_ok-settle_set.ensures in
    let returns = c.record_returned.ensures in
    record {
      passes = record {
        layout = layout_more (log_settled c.args.state.now.mask)
            (layout_kept (trailers_settled c.args.state.now.mask) c.requires.laid_out settles.outside) returns.outside;
        stands = λ s trial is was. returns.stands s trial
            (returning_kept map _ _ _ s trial _ is settles.outside was)
            (subst (λ m. AreSettled (view map mid) m true) is settles.ok);
        done = IfOk-weaker c.record_returned.result _ _ (λ value returned. record {
          ok = λ s trial is was. returned.0 s trial (returning_kept map _ _ _ s trial _ is settles.outside was)
              (subst (λ m. AreSettled (view map mid) m true) is settles.ok);
          erases = omega (arith, returned.1, settles.erases);
        }) (ok_both _ _ c.record_returned.result returns.ok returns.erases);
        ends = then_ends settles.ends returns.ends;
      };
      either = ⊎_elim (λ same. inl (same ∙ read_kept map _ _ _ c.args.state.now settles.outside refl c.requires.read))
          (λ rests. inr rests) returns.either;
      journal = omega (arith, settles.journal, returns.journal);
    }
