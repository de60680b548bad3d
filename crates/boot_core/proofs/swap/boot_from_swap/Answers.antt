use Rattle.std.proofs.Common.{◌∙◌, sym}
use Rattle.flash_contents.proofs.Standing.{stands_swap, swap_cut, swap_ends}
use Rattle.upload.proofs.Ends.{err_passed}
use Rattle.boot_core.proofs.Booted.{boot_fails, boot_replies}
use Rattle.boot_core.proofs.Stops.{swap_stops}
use Rattle.boot_core.proofs.swap.boot_from_swap.Goals as goal

pub returns-in_err-finding : goal.returns-in_err-finding
returns-in_err-finding g c =
    rw (err_passed c.from_residual.result c.in_err-finding.field-0.0 c.from_residual.ensures.1) (record {
      boot = boot_fails c.finish_swap.ensures.layout
          (swap_cut c.args.map.now _ _ _ c.args.left c.requires.recorded.read c.requires.recorded.kind
          c.finish_swap.ensures.stands)
          c.in_err-finding.ensures.ends;
      stops = tt;
      journal = c.finish_swap.ensures.journal;
    })

pub returns : goal.returns
returns g c = record {
  journal = c.finish_swap.ensures.journal;
  boot = boot_replies (c.reply_to.ensures c.finish_swap.new.table c.finish_swap.new.report) c.finish_swap.ensures.layout
      (swap_cut c.args.map.now _ _ _ c.args.left c.requires.recorded.read c.requires.recorded.kind
      c.finish_swap.ensures.stands)
      (swap_ends c.args.map.now _ _ _ c.args.left c.requires.recorded.read c.requires.recorded.kind _
      c.in_ok-finding.ensures.done.ok)
      (λ s stands.
      let swapping = stands_swap c.args.map.now _ s _ c.requires.recorded.read c.requires.recorded.kind stands in
      (c.in_ok-finding.ensures.done.erases s swapping.0 _ swapping.1, (c.reply_to.ensures c.finish_swap.new.table c.finish_swap.new.report).set _ c.in_ok-finding.ensures.done.tells.set))
      c.in_ok-finding.ensures.done.tells.starts c.in_ok-finding.ensures.ends;
  stops = λ finding permanent is. swap_stops c.args.map.now _ _ c.args.state.now.mask
      c.args.state.now.floors _ finding c.args.state.now.permanent permanent (sym (c.reply_to.ensures c.finish_swap.new.table c.finish_swap.new.report).is ∙ is)
      c.in_ok-finding.ensures.done.tells.told c.in_ok-finding.ensures.done.tells.alone;
}
