use Rattle.std.proofs.Common.{refl}
use Rattle.machine.specs.declared.event.Event.TheVariants as event
use Rattle.sector_map.specs.Part.{incoming_of}
use Rattle.boot_core.proofs.Keeping.{kept_by_withdraw}
use Rattle.boot_core.proofs.NotReady.{declined}
use Rattle.boot_core.proofs.Taken.{laid_now, takes_here, withdraw_event}
use Rattle.boot_core.proofs.intake.withdraw.Goals as goal

pub returns-in_err-ready : goal.returns-in_err-ready
returns-in_err-ready g c =
    declined _ _ _ _ _ c.in_err-ready.ensures c.from_residual.ensures.1 (incoming_of c.args.image)
    (event.Withdraw c.args.image) refl refl c.requires.laid_out

pub returns : goal.returns
returns g c =
    takes_here _ _ _ _ _ _ _ _ _ _ _ _ (withdraw_event c.args.image) c.requires.laid_out
    c.in_ok-ready.ensures _ _ (record {
      outside = c.withdraw.ensures.outside;
      opens = c.withdraw.ensures.all_open;
      ends = c.withdraw.ensures.ends;
      kept = kept_by_withdraw _ _ _ _ _ c.withdraw.ensures.nothing c.withdraw.ensures.table;
      journal = c.withdraw.ensures.journal;
      row = c.withdraw.ensures.row;
    }) c.withdraw.ensures.nothing c.pass_on.ensures

pub withdraw-requires : goal.withdraw-requires
withdraw-requires g c = laid_now _ _ _ c.in_ok-ready.ensures c.requires.laid_out
