use Rattle.std.proofs.Common.{arith, inl, refl}
use Rattle.upload.proofs.Ends.{err_passed}
use Rattle.flash_contents.proofs.Frames.{primary_aside, steady_kept}
use Rattle.flash_contents.proofs.Beginning.{begin_either, begin_ok}
use Rattle.boot_core.proofs.Begun.{begun}
use Rattle.boot_core.proofs.Records.{fits_swap, state_kept}
use Rattle.boot_core.proofs.OnMap.{layout_kept, trailers_moved}
use Rattle.sector_map.specs.declared.layout.Side.TheVariants.{Primary}
use Rattle.boot_core.proofs.Passed.{passes_err}
use Rattle.boot_core.proofs.steady.begin_swap.Goals as goal

pub prepare_set-requires-clause-held : goal.prepare_set-requires-clause-held
prepare_set-requires-clause-held g c = λ is. c.requires.held

pub append_state-requires-clause-has_state : goal.append_state-requires-clause-has_state
append_state-requires-clause-has_state g c =
    state_kept c.args.map.now _ _ _ c.args.state.now c.prepare_set.ensures.outside refl c.requires.read

pub append_state-requires-clause-fits : goal.append_state-requires-clause-fits
append_state-requires-clause-fits g c = fits_swap c.args.map.now _ c.args.state.now c.args.mask c.args.permanent
    c.requires.read (omega arith) c.requires.some c.requires.within

pub returns-in_err-prepare_set : goal.returns-in_err-prepare_set
returns-in_err-prepare_set g c =
    rw (err_passed c.from_residual.result c.in_err-prepare_set.field-0.0 c.from_residual.ensures.1)
    (record {
      passes = passes_err (layout_kept (trailers_moved c.args.mask Primary) c.requires.laid_out c.prepare_set.ensures.outside)
          (λ s table was decision.
          inl (steady_kept c.args.map.now _ _ _ s c.prepare_set.ensures.outside (primary_aside c.args.mask) was))
          c.in_err-prepare_set.ensures.ends;
      journal = omega (arith, c.prepare_set.ensures.journal);
    })

pub returns : goal.returns
returns g c =
    let ready = c.in_ok-prepare_set.ensures in
    let log = c.append_state.ensures in
    let begins = begin_ok c.args.map.now _ _ _ c.requires.laid_out _ _ c.args.permanent c.requires.read ready.outside
    ready.ok log.outside in
    record {
      passes = begun c.requires.laid_out ready log
          (begin_either c.args.map.now _ _ _ c.requires.laid_out _ _ _ c.requires.read ready.outside ready.ok log.outside
          log.either)
          (λ now r moves wear. record { ok = begins r.says; recorded = r.recorded; is = r.is; moves = moves; erases = wear });
      journal = omega (arith, ready.journal, log.journal);
    }
