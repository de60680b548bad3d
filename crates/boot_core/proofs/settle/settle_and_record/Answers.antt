use Rattle.std.proofs.Common.{arith, inl, refl, sym, subst}
use Rattle.upload.proofs.Ends.{err_passed}
use Rattle.sector_map.proofs.Parts.{laid_out_kept}
use Rattle.flash_contents.proofs.Swapping.{settling_kept}
use Rattle.boot_core.specs.FromSettle.{RecordsTaken}
use Rattle.boot_core.proofs.Records.{read_kept}
use Rattle.boot_core.proofs.Concluding.{settled_as, settles_taken}
use Rattle.boot_core.proofs.OnMap.{layout_kept, trailers_settled}
use Rattle.boot_core.proofs.Passed.{passes_err}
use Rattle.boot_core.proofs.settle.settle_and_record.Goals as goal

pub record_taken-requires-clause-recorded : goal.record_taken-requires-clause-recorded
record_taken-requires-clause-recorded g c = record {
  laid_out = laid_out_kept c.args.map.now _ _ _ c.requires.recorded.laid_out c.settle_set.ensures.outside;
  read = read_kept c.args.map.now _ _ _ c.args.state.now c.settle_set.ensures.outside refl c.requires.recorded.read;
}

pub record_trial-requires-clause-recorded : goal.record_trial-requires-clause-recorded
record_trial-requires-clause-recorded g c = record {
  laid_out = laid_out_kept c.args.map.now _ _ _ c.requires.recorded.laid_out c.settle_set.ensures.outside;
  read = read_kept c.args.map.now _ _ _ c.args.state.now c.settle_set.ensures.outside refl c.requires.recorded.read;
  kind = c.requires.recorded.kind;
}

pub returns-in_err-settle_set : goal.returns-in_err-settle_set
returns-in_err-settle_set g c =
    rw (err_passed c.from_residual.result c.in_err-settle_set.field-0.0 c.from_residual.ensures.1) (record {
      passes = passes_err (layout_kept (trailers_settled c.args.state.now.mask) c.requires.recorded.laid_out
          c.settle_set.ensures.outside)
          (λ s table was. inl (settling_kept c.args.map.now _ _ _ c.settle_set.ensures.outside s table _ _ was))
          c.in_err-settle_set.ensures.ends;
      settles = inl (read_kept c.args.map.now _ _ _ c.args.state.now c.settle_set.ensures.outside refl c.requires.recorded.read);
      journal = omega (arith, c.settle_set.ensures.journal);
    })

pub returns-then-state : goal.returns-then-state
returns-then-state g c =
    let settles = c.in_ok-settle_set.ensures in
    settles_taken c.args.map.now _ _ _ c.args.state.now c.args.left c.args.floors c.record_taken.result
    c.requires.recorded.laid_out c.requires.recorded.read settles.outside (settled_as c.args.map.now _ _ _ _ c.settling_for.ensures settles.ok)
    settles.erases settles.journal settles.ends (subst
    (λ permanent. RecordsTaken c.args.map.now permanent c.args.left c.args.floors
    (g.F.Flash.chip c.settle_set.new.flash) (g.F.Flash.chip c.record_taken.new.flash) c.record_taken.result)
    (sym c.if-state.true) (c.record_taken.ensures c.args.left))

pub returns-else-state : goal.returns-else-state
returns-else-state g c =
    let settles = c.in_ok-settle_set.ensures in
    let settled = settled_as c.args.map.now _ _ _ _ c.settling_for.ensures settles.ok in
    settles_taken c.args.map.now _ _ _ c.args.state.now c.args.left c.args.floors c.record_trial.result
    c.requires.recorded.laid_out c.requires.recorded.read settles.outside settled settles.erases settles.journal settles.ends
    (subst
    (λ permanent. RecordsTaken c.args.map.now permanent c.args.left c.args.floors
    (g.F.Flash.chip c.settle_set.new.flash) (g.F.Flash.chip c.record_trial.new.flash) c.record_trial.result)
    (sym c.if-state.false) (c.record_trial.ensures c.args.floors))
