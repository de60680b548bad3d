use Rattle.std.proofs.Common.{arith, ◌<◌, inl, refl}
use Rattle.sector_map.specs.Part.{Log, only}
use Rattle.common.specs.Masks.{is_member}
use Rattle.flash_contents.proofs.Starting.{intact_kept}
use Rattle.boot_core.proofs.Trying.{again_is}
use Rattle.upload.proofs.Ends.{err_passed}
use Rattle.flash_contents.proofs.Trying.{again_cut, again_ends}
use Rattle.boot_core.proofs.Again.{fits_again}
use Rattle.boot_core.proofs.Records.{has_state, one_erase}
use Rattle.boot_core.proofs.Booted.{boot_fails, boot_gives}
use Rattle.boot_core.proofs.OnMap.{layout_kept, log_moved}
use Rattle.boot_core.proofs.trial.boot_again.Goals as goal

pub append-requires-clause-has_state : goal.append-requires-clause-has_state
append-requires-clause-has_state g c = has_state c.args.map.now _ c.args.state.now c.requires.recorded.read

pub append-requires-clause-fits : goal.append-requires-clause-fits
append-requires-clause-fits g c = fits_again c.args.map.now _ c.args.state.now _ c.requires.recorded.read c.requires.recorded.kind
    (let more : 0 < c.args.state.now.left = c.requires.more in omega arith)

pub returns-in_err-append : goal.returns-in_err-append
returns-in_err-append g c = λ table report.
    let more : 0 < c.args.state.now.left = c.requires.more in
    rw (err_passed c.from_residual.result c.in_err-append.field-0.0 c.from_residual.ensures.1) (record {
      boot = record {
        boot = λ boots. boot_fails (layout_kept (log_moved (is_member c.args.state.now.mask))
            c.requires.recorded.laid_out c.append.ensures.outside)
            (λ s was. again_cut c.args.map.now _ _ c.args.state.now _ c.requires.recorded.read c.append.ensures.outside
            (omega arith) c.append.ensures.either boots s was.0 was.1 was.2)
            c.in_err-append.ensures.ends;
      };
      acts = tt;
      again = tt;
      journal = c.append.ensures.journal;
    })

pub returns : goal.returns
returns g c = λ table report.
    let more : 0 < c.args.state.now.left = c.requires.more in
    record {
      boot = record {
        boot = λ boots. boot_gives (layout_kept (log_moved (is_member c.args.state.now.mask))
            c.requires.recorded.laid_out c.append.ensures.outside)
            (λ s was. again_cut c.args.map.now _ _ c.args.state.now _ c.requires.recorded.read c.append.ensures.outside
            (omega arith) c.append.ensures.either boots s was.0 was.1 was.2)
            (λ s was. again_ends c.args.map.now _ _ c.args.state.now _ c.requires.recorded.read c.append.ensures.outside
            (omega arith) c.in_ok-append.ensures.ok boots s was.0 was.1 was.2)
            (0, refl, λ sizes each. omega (arith, one_erase _ _ _ c.in_ok-append.ensures.erases))
            tt (intact_kept c.args.map.now (only Log) _ _ c.append.ensures.outside (λ i. refl) c.requires.intact)
            c.in_ok-append.ensures.ends;
      };
      acts = λ nothing. nothing;
      journal = c.append.ensures.journal;
      again = λ set left is. again_is c.args.map.now c.args.state.now _ _ c.args.state.now.mask _ set left is
          (refl, inl (omega arith, c.in_ok-append.ensures));
    }
