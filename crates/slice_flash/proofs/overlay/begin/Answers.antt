use Rattle.std.proofs.Common.{length, ◌∙◌}
use Rattle.slice_flash.proofs.Parts.{begins_blank, begins_plain}
use Rattle.slice_flash.proofs.overlay.begin.Goals as goal

pub returns-then-start : goal.returns-then-start
returns-then-start c = λ journal entries are is.
    c.blank.ensures
    ∙ begins_blank c.args.base.now journal entries c.args.at (length c.args.out.now) c.args.start are is c.requires c.if-start.true

pub returns-else-start : goal.returns-else-start
returns-else-start c = λ journal entries are is.
    c.copy_from_slice.ensures.after
    ∙ begins_plain c.args.base.now journal entries c.args.at (length c.args.out.now) c.args.start are is c.requires c.if-start.false
