use Rattle.std.proofs.Common.{arith, ◌∙◌, sym}
use Rattle.boot_core.proofs.Asking.{asks_few, members_few}
use Rattle.flash_contents.proofs.Standing.{settle_cut, settle_ends}
use Rattle.upload.proofs.Ends.{err_passed}
use Rattle.boot_core.proofs.Booted.{boot_fails, boot_replies}
use Rattle.boot_core.proofs.OnMap.{layout_wider, settled_moved}
use Rattle.boot_core.proofs.Stops.{settle_stops}
use Rattle.boot_core.proofs.settle.boot_from_settle.Goals as goal

pub returns-in_err-finding : goal.returns-in_err-finding
returns-in_err-finding g c =
    rw (err_passed c.from_residual.result c.in_err-finding.field-0.0 c.from_residual.ensures.1) (record {
      boot = boot_fails (layout_wider (settled_moved c.args.state.now.mask) c.requires.recorded.laid_out
          c.finish_settle.ensures.layout)
          (settle_cut c.args.map.now _ _ _ c.args.left c.requires.recorded.read c.requires.recorded.kind
          c.finish_settle.ensures.stands)
          c.in_err-finding.ensures.ends;
      stops = tt;
      journal = asks_few c.args.map.now c.args.state.now _ _ 856 (omega (
        arith,
        c.finish_settle.ensures.journal,
        members_few c.args.map.now _ c.args.state.now.mask c.requires.recorded.laid_out,
      )) (omega arith);
    })

pub returns : goal.returns
returns g c = record {
  boot = boot_replies (c.reply_to.ensures c.finish_settle.new.table c.finish_settle.new.report)
      (layout_wider (settled_moved c.args.state.now.mask) c.requires.recorded.laid_out c.finish_settle.ensures.layout)
      (settle_cut c.args.map.now _ _ _ c.args.left c.requires.recorded.read c.requires.recorded.kind
      c.finish_settle.ensures.stands)
      (settle_ends c.args.map.now _ _ _ c.args.left c.requires.recorded.read c.requires.recorded.kind _
      c.in_ok-finding.ensures.done.0.ok)
      (c.in_ok-finding.ensures.done.0.erases, (c.reply_to.ensures c.finish_settle.new.table c.finish_settle.new.report).set _ c.in_ok-finding.ensures.done.1.0)
      c.in_ok-finding.ensures.done.1.2 c.in_ok-finding.ensures.ends;
  stops = λ finding permanent is. settle_stops c.args.map.now _ _ c.args.state.now.mask
      c.args.state.now.floors _ finding c.args.state.now.permanent permanent (sym (c.reply_to.ensures c.finish_settle.new.table c.finish_settle.new.report).is ∙ is)
      c.in_ok-finding.ensures.done.1.1 c.in_ok-finding.ensures.done.0.kept;
  journal = asks_few c.args.map.now c.args.state.now _ _ 856 (omega (
    arith,
    c.finish_settle.ensures.journal,
    members_few c.args.map.now _ c.args.state.now.mask c.requires.recorded.laid_out,
  )) (omega arith);
}
