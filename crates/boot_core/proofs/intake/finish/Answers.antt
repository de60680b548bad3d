use Rattle.std.proofs.Common.{refl}
use Rattle.machine.specs.declared.event.Event.TheVariants as event
use Rattle.sector_map.specs.Part.{incoming_of}
use Rattle.boot_core.proofs.Finished.{finish_declined, finish_passed}
use Rattle.boot_core.proofs.Keeping.{kept_by_finish}
use Rattle.boot_core.proofs.NotReady.{declined}
use Rattle.boot_core.proofs.Taken.{finish_event, laid_now, opens_now, takes_call}
use Rattle.boot_core.proofs.intake.finish.Goals as goal

pub returns-in_err-ready : goal.returns-in_err-ready
returns-in_err-ready g c =
    finish_declined _ _ _ _ _ c.in_err-ready.ensures.asked.same
    (declined _ _ _ _ _ c.in_err-ready.ensures c.from_residual.ensures.1 (incoming_of c.args.image)
    (event.Finish c.args.image) refl refl c.requires.laid_out)

pub returns : goal.returns
returns g c =
    finish_passed _ _ _ _ _ _ _ _ _ _ _ _ c.in_ok-ready.ensures (takes_call _ _ _ _ _ _ _ _ _ _ _ _
    (finish_event c.args.image) c.requires.laid_out c.in_ok-ready.ensures _ _ (record {
      outside = c.finish.ensures.outside;
      opens = c.finish.ensures.all_open;
      ends = c.finish.ensures.ends;
      kept = kept_by_finish _ _ _ _ _ c.finish.ensures.refused.no_session c.finish.ensures.stays;
      journal = c.finish.ensures.journal;
      row = c.finish.ensures.row;
    }) c.pass_on.ensures) c.finish.ensures.refused c.pass_on.ensures

pub finish-requires-clause-laid_out : goal.finish-requires-clause-laid_out
finish-requires-clause-laid_out g c = laid_now _ _ _ c.in_ok-ready.ensures c.requires.laid_out

pub finish-requires-clause-open : goal.finish-requires-clause-open
finish-requires-clause-open g c = opens_now _ _ _ c.in_ok-ready.ensures c.requires.opens c.args.image
