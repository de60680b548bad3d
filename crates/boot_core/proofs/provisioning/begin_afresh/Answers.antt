use Rattle.std.proofs.Common.{rules, arith, ◌≡◌, Err, inl, inr}
use Rattle.std.proofs.lemmas.Result.{on_ok_weaker}
use Rattle.boot_core.proofs.Afresh.{begun_afresh, cleared_kept, first_fits, provided_log, provided_trailers}
use Rattle.boot_core.proofs.provisioning.begin_afresh.Goals as goal

pub start-requires-clause-fits : goal.start-requires-clause-fits
start-requires-clause-fits g c = rw c.steady.ensures (first_fits c.args.map.now c.args.floors.now c.requires.rest)

pub returns-in_err-clear_all : goal.returns-in_err-clear_all
returns-in_err-clear_all g c =
    let passed : c.from_residual.result ≡ Err c.in_err-clear_all.field-0.0 = search rules in
    rw passed (record {
      outside = provided_trailers c.args.map.now _ _ c.clear_all.ensures.outside;
      order = inl c.clear_all.ensures.outside;
      ok = tt;
      journal = omega (arith, c.clear_all.ensures.journal);
      ends = search rules;
    })

pub returns : goal.returns
returns g c = record {
  outside = provided_log c.args.map.now _ _ _ c.clear_all.ensures.outside c.start.ensures.outside;
  order = inr (cleared_kept c.args.map.now _ _ c.in_ok-clear_all.ensures.ok c.start.ensures.outside);
  ok = on_ok_weaker c.start.result
      (λ recorded. begun_afresh c.args.map.now c.args.floors.now _ _ c.in_ok-clear_all.ensures.ok
      c.start.ensures.outside recorded)
      (rw c.steady.ensures at c.start.ensures.ok);
  journal = omega (arith, c.clear_all.ensures.journal, c.start.ensures.journal);
  ends = search rules;
}
