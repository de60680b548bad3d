use Rattle.std.proofs.Common.{refl}
use Rattle.upload.proofs.Ends.{err_passed}
use Rattle.boot_core.proofs.Reverts.{finish_fails, finish_gives, swap_fails}
use Rattle.sector_map.proofs.Parts.{laid_out_kept}
use Rattle.set_log.specs.declared.state.RecordKind.TheVariants.{Back}
use Rattle.boot_core.proofs.Asking.{returns_reverting, this_kind}
use Rattle.boot_core.specs.Journal.{is_reverting}
use Rattle.boot_core.proofs.back.revert.Goals as goal

pub finish_back-requires : goal.finish_back-requires
finish_back-requires g c = record {
  laid_out = laid_out_kept c.args.map.now _ _ _ c.requires.laid_out c.swap_back.ensures.outside;
  read = c.swap_back.ensures.read;
  kind = c.requires.kind;
}

pub returns-in_err-swap_back : goal.returns-in_err-swap_back
returns-in_err-swap_back g c = λ table report.
    rw (err_passed c.from_residual.result c.in_err-swap_back.field-0.0 c.from_residual.ensures.1) (record {
      boot = swap_fails c.args.map.now c.args.state.now _ c.requires.laid_out c.requires.read c.requires.kind _
          c.in_err-swap_back.ensures;
      is = tt;
      reverting = this_kind is_reverting _ c.args.state.now Back c.swap_back.ensures.read c.requires.kind refl;
    })

pub returns-in_err-finish_back : goal.returns-in_err-finish_back
returns-in_err-finish_back g c = λ table report.
    rw (err_passed c.from_residual-in_err-finish_back.result c.in_err-finish_back.field-0.0
    c.from_residual-in_err-finish_back.ensures.1) (record {
      boot = finish_fails c.args.map.now c.args.state.now _ c.requires.laid_out c.requires.read c.requires.kind _
          c.in_ok-swap_back.ensures _ c.in_err-finish_back.ensures;
      is = tt;
      reverting = returns_reverting c.args.map.now c.args.state.now _ _ c.requires.kind c.finish_back.ensures.returns;
    })

pub returns : goal.returns
returns g c = λ table report. record {
  boot = finish_gives c.args.map.now c.args.state.now _ c.requires.laid_out c.requires.read c.requires.kind _
      c.in_ok-swap_back.ensures _ c.in_ok-finish_back.ensures;
  is = refl;
  reverting = returns_reverting c.args.map.now c.args.state.now _ _ c.requires.kind c.finish_back.ensures.returns;
}
