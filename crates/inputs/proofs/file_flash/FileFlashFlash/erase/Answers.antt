use Rattle.std.proofs.Common.{rules, sym, ◌∙◌}
use Rattle.inputs.proofs.Written.{still_written, done_through}
use Rattle.inputs.proofs.file_flash.FileFlashFlash.erase.Goals as goal

pub invariant_of-self-then-is_some-2-clause-written : goal.invariant_of-self-then-is_some-2-clause-written
invariant_of-self-then-is_some-2-clause-written g c = still_written c.write_through.result _ _ _ _ _ _ _
    c.err-self.ensures.variant (rw c.sector_size-n.ensures at c.write_through.ensures)
    c.erase.ensures.chip.outside (search rules) (c.args.self.now.written (sym c.is_some.ensures ∙ c.if-is_some.false))

pub invariant_of-self-2-clause-written : goal.invariant_of-self-2-clause-written
invariant_of-self-2-clause-written g c = still_written c.write_through.result _ _ _ _ _ _ _
    c.err-self.ensures.variant (rw c.sector_size-n.ensures at c.write_through.ensures)
    c.erase.ensures.chip.outside (search rules) (c.args.self.now.written (sym c.is_some.ensures ∙ c.if-is_some.false))

pub returns-clause-flash : goal.returns-clause-flash
returns-clause-flash g c = done_through c.erase.result _ _ _ _ _ c.erase.ensures.memory
    (sym c.is_ok-self.ensures.value ∙ c.if-not-self-2.false)
    (c.args.self.now.powered c.if-not-self.false) c.if-not-self.false (sym c.is_some.ensures ∙ c.if-is_some.false) (sym c.is_some-2.ensures ∙ c.if-is_some-2.false)

pub invariant_of-self-clause-written : goal.invariant_of-self-clause-written
invariant_of-self-clause-written g c = still_written c.write_through.result _ _ _ _ _ _ _
    c.err-self.ensures.variant (rw c.sector_size-n.ensures at c.write_through.ensures)
    c.erase.ensures.chip.outside (search rules) (c.args.self.now.written (sym c.is_some.ensures ∙ c.if-is_some.false))
