use Rattle.std.proofs.Common.{◌≡◌, ap, arith, refl}
use Rattle.upload.proofs.Ends.{err_passed}
use Rattle.machine.specs.Device.{DeviceState}
use Rattle.machine.specs.Boots.{GoesBack}
use Rattle.flash_contents.specs.Holding.{Stands}
use Rattle.flash_contents.proofs.Trying.{back_here, open_of, opened_cut}
use Rattle.set_log.specs.declared.state.State.{State}
use Rattle.boot_core.specs.FromTrial.{HasTrial}
use Rattle.boot_core.proofs.Booted.{boot_after, boot_fails}
use Rattle.boot_core.proofs.Wears.{fresh_back}
use Rattle.set_log.specs.declared.state.RecordKind.TheVariants as log
use Rattle.boot_core.proofs.Asking.{asks_few, asks_other, members_few}
use Rattle.boot_core.specs.Journal.{is_reverting}
use Rattle.boot_core.proofs.trial.boot_back.Goals as goal

pub returns-in_err-back : goal.returns-in_err-back
returns-in_err-back g c = λ table report.
    rw (err_passed c.from_residual.result c.in_err-back.field-0.0 c.from_residual.ensures.1) (record {
      boot = record {
        boot = λ boots. boot_fails c.begin_back.ensures.layout
            (λ s was. opened_cut c.args.map.now boots _ s was.0 was.1
            (c.begin_back.ensures.stands s was.0 was.1 (open_of c.args.map.now _ s was.0 was.2)))
            c.in_err-back.ensures.ends;
      };
      is = tt;
      journal = asks_few c.args.map.now c.args.state.now _ _ 376 (omega (
        arith,
        c.begin_back.ensures.journal,
        members_few c.args.map.now _ c.args.state.now.mask c.requires.laid_out,
      )) (omega arith);
    })

pub revert-requires : goal.revert-requires
revert-requires g c = record {
  laid_out = c.begin_back.ensures.laid;
  read = c.in_ok-back.ensures.done.recorded;
  kind = ap (λ (state : State). state.kind) c.in_ok-back.ensures.done.is;
}

pub returns : goal.returns
returns g c = λ table report.
    let map = c.args.map.now in
    let old = g.F.Flash.chip c.args.flash.now in
    let mid = g.F.Flash.chip c.begin_back.new.flash in
    let same : c.in_ok-back.back.mask ≡ c.args.state.now.mask =
    ap (λ (state : State). state.mask) c.in_ok-back.ensures.done.is in
    let reverts = rw same at (c.revert.ensures table report) in
    let here : (s : DeviceState) → HasTrial GoesBack map old s → Stands map mid s = λ s was.
    back_here map mid s was.0 (c.in_ok-back.ensures.done.ok s was.0 was.1 (open_of map old s was.0 was.2)) in
    record {
      boot = record {
        boot = λ boots. boot_after c.begin_back.ensures.layout c.in_ok-back.ensures.ends here
            (λ reply worn. λ s was. fresh_back map old mid (g.F.Flash.chip c.revert.new.flash)
            c.args.state.now.mask reply c.in_ok-back.ensures.done.erases c.in_ok-back.ensures.done.moves
            (worn s (here s was)))
            (reverts.boot.boot boots);
      };
      is = reverts.is;
      journal = asks_other map c.args.state.now old _ is_reverting log.Trial (c.revert.ensures table report).reverting
          c.requires.kind refl;
    }
