use Rattle.std.proofs.Common.{arith, inl, refl}
use Rattle.std.proofs.lemmas.Bool.{false≢true}
use Rattle.upload.proofs.Ends.{err_passed}
use Rattle.flash_contents.proofs.Reverting.{back_either, back_kept, back_ok}
use Rattle.boot_core.proofs.Begun.{begun}
use Rattle.boot_core.proofs.Records.{fits_back, state_kept}
use Rattle.boot_core.proofs.OnMap.{layout_kept, trailers_moved}
use Rattle.sector_map.specs.declared.layout.Side.TheVariants.{Secondary}
use Rattle.boot_core.proofs.Passed.{passes_err}
use Rattle.boot_core.proofs.trial.begin_back.Goals as goal

pub prepare_set-requires-clause-held : goal.prepare_set-requires-clause-held
prepare_set-requires-clause-held g c = λ is. absurd (false≢true is)

pub append_state-requires-clause-has_state : goal.append_state-requires-clause-has_state
append_state-requires-clause-has_state g c =
    state_kept c.args.map.now _ _ _ c.args.state.now c.prepare_set.ensures.outside refl c.requires.read

pub append_state-requires-clause-fits : goal.append_state-requires-clause-fits
append_state-requires-clause-fits g c =
    fits_back c.args.map.now _ c.args.state.now c.requires.read c.requires.kind

pub returns-in_err-prepare_set : goal.returns-in_err-prepare_set
returns-in_err-prepare_set g c =
    rw (err_passed c.from_residual.result c.in_err-prepare_set.field-0.0 c.from_residual.ensures.1)
    (record {
      passes = passes_err (layout_kept (trailers_moved c.args.state.now.mask Secondary) c.requires.laid_out
          c.prepare_set.ensures.outside)
          (λ s trial goes was.
          inl (back_kept c.args.map.now _ _ _ c.requires.read c.prepare_set.ensures.outside s trial was))
          c.in_err-prepare_set.ensures.ends;
      journal = omega (arith, c.prepare_set.ensures.journal);
    })

pub returns : goal.returns
returns g c =
    let ready = c.in_ok-prepare_set.ensures in
    let log = c.append_state.ensures in
    let begins = back_ok c.args.map.now _ _ _ c.requires.laid_out _ c.requires.read ready.outside ready.ok log.outside in
    record {
      passes = begun c.requires.laid_out ready log
          (back_either c.args.map.now _ _ _ c.requires.laid_out _ c.requires.read ready.outside ready.ok log.outside log.either)
          (λ now r moves wear. record { ok = begins r.says; recorded = r.recorded; is = r.is; moves = moves; erases = wear });
      journal = omega (arith, ready.journal, log.journal);
    }
