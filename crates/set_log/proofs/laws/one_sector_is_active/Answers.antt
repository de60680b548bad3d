use Rattle.std.proofs.Common.{◌≡◌, Some, sym, ◌∙◌}
use Rattle.set_log.proofs.Turns.{active_is}
use Rattle.set_log.proofs.laws.one_sector_is_active.Goals as goal

pub returns : goal.returns
returns c = λ e log first second one other.
    let same : Some first ≡ Some second = sym (active_is e log first one) ∙ active_is e log second other in
    cc same
