use Rattle.std.proofs.Common.{rules, sym}
use Rattle.std.proofs.Output.{has_written_append, has_written_of_eq}
use Rattle.sweep.specs.FoundText.{event_line}
use Rattle.sweep.proofs.FoundLaws.{numbered-more}
use Rattle.sweep.proofs.text.write_events.Goals as goal

-- The line of one more event is written.
pub loop-place-preserved : goal.loop-place-preserved
loop-place-preserved g c = λ plain.
    let before = c.loop-place.invariant plain in
    let one = rw (c.writes_of.ensures.before, c.writes_of.ensures.marks) at
    (c.in_ok-write_event.ensures before.plain (search rules)) in
    has_written_of_eq _ _ _ _ _
    (sym (numbered-more (event_line c.args.found.now) c.args.events.now c.loop-place.place _ c.loop-place-test.true))
    (has_written_append _ _ _ _ _ _ before one)
