use Rattle.std.proofs.Common.{arith, ◌∙◌, ap, inl, refl, subst, sym}
use Rattle.std.proofs.lemmas.Result.{IfOk-weaker}
use Rattle.set_log.specs.Log.{state_of}
use Rattle.upload.proofs.Ends.{err_passed}
use Rattle.upload.specs.View.{view}
use Rattle.flash_contents.specs.Reading.{CanRead}
use Rattle.flash_contents.specs.Wear.{IsSetFound}
use Rattle.boot_core.specs.Found.{IsToldAgain, StartsFound}
use Rattle.boot_core.proofs.OnMap.{layout_keeps, layout_same}
use Rattle.boot_core.proofs.Undecided.{starts_settled}
use Rattle.boot_core.proofs.Passed.{passes_err}
use Rattle.decision.specs.Places.{finding_in, read_as}
use Rattle.boot_core.proofs.settle.finish_settle.Goals as goal

pub settle_found-requires : goal.settle_found-requires
settle_found-requires g c = record {
  laid_out = rw c.find_again.ensures.same c.requires.recorded.laid_out;
  read = ap (λ chip. state_of c.args.map.now chip) c.find_again.ensures.same ∙ c.requires.recorded.read;
  kind = c.requires.recorded.kind;
  few = c.requires.few;
  found = λ s table permanent can decision.
      c.in_ok-finding.ensures.ok s table permanent
      (subst (λ chip. CanRead (view c.args.map.now chip) s c.args.state.now.mask c.args.state.now.floors)
      c.find_again.ensures.same can) decision;
  rows = c.in_ok-finding.ensures.rows;
}

pub returns-in_err-finding : goal.returns-in_err-finding
returns-in_err-finding g c =
    rw (err_passed c.from_residual.result c.in_err-finding.field-0.0 c.from_residual.ensures.1)
    (rw c.find_again.ensures.same (record {
      passes = passes_err (layout_same c.requires.recorded.laid_out refl)
          (λ s table was. inl was) (rw c.find_again.ensures.same at c.in_err-finding.ensures.ends);
      settles = inl c.requires.recorded.read;
      journal = omega arith;
    }))

pub returns : goal.returns
returns g c =
    let mask = c.args.state.now.mask in
    let finds = c.in_ok-finding.ensures in
    let settles = rw c.find_again.ensures.same at c.settle_found.ensures in
    record {
      settles = settles.settles;
      journal = settles.journal;
      passes = record {
        layout = settles.layout;
        stands = settles.stands;
        done = IfOk-weaker (read_as (finding_in c.find_again.new.table c.find_again.new.report) c.settle_found.result) _ _ (λ answer done. (
          done.0,
          (
            subst (λ found. IsSetFound mask found) (sym done.1) finds.set,
            subst (λ found. IsToldAgain (view c.args.map.now (g.F.Flash.chip c.args.flash.now)) mask
                c.args.state.now.floors found) (sym done.1) finds.told,
            starts_settled c.args.map.now mask _ _ answer (layout_keeps settles.layout)
                (subst (λ found. StartsFound (view c.args.map.now (g.F.Flash.chip c.args.flash.now)) found) (sym done.1)
                finds.starts),
          ),
        )) settles.done;
        ends = settles.ends;
      };
    }
