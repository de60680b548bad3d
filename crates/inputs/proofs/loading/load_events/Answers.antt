use Rattle.std.proofs.Common.{◌+◌, None, arith, eqb-true, subst, sym}
use Rattle.common.proofs.Results.{IfErr-passed}
use Rattle.inputs.specs.Script.{known_at}
use Rattle.inputs.specs.ScriptFault.{IsLostLine}
use Rattle.inputs.proofs.ScriptFaultLaws.{AreRead-more, AreRead-none, IsLostLine-file, IsLostLine-text, NamesLine-weaker}
use Rattle.inputs.specs.Loading.{came_in, came_of}
use Rattle.inputs.proofs.ScriptLaws.{AreTaken, AreTaken-cut, AreTaken-event, AreTaken-none, LoadsAll-taken, came_in-push}
use Rattle.inputs.proofs.loading.load_events.Goals as goal

-- No line was loaded yet.
pub loop-lines-init : goal.loop-lines-init
loop-lines-init g c = record {
  lines = AreRead-none c.args.text.now c.of-lines.result c.of-lines.ensures.all c.of-lines.ensures.none
      c.of-lines.ensures.order;
  taken = 0;
  are = subst (λ events. AreTaken c.args.text.now c.of-lines.result.rest.now c.of-lines.result.order 0
      c.args.sources.now.buffered.now (g.H.Host.file c.args.sources.now.host.now) (came_in events))
      (sym c.new-events.ensures.items)
      (AreTaken-none c.args.text.now c.of-lines.result.rest.now c.of-lines.result.order c.args.sources.now.buffered.now
      (g.H.Host.file c.args.sources.now.host.now) c.of-lines.ensures.all c.of-lines.ensures.order);
}

-- One more line was loaded, which is an event.
pub loop-lines-preserved-in-Continue-branch-4 : goal.loop-lines-preserved-in-Continue-branch-4
loop-lines-preserved-in-Continue-branch-4 g c =
    let before = c.loop-lines.invariant in
    let next = rw c.in-Event.is at c.in_ok-event.ensures.next in record {
      lines = AreRead-more c.args.text.now c.loop-lines.lines c.next_line.new.self _ (omega arith)
          c.in_ok-event.ensures.shorter c.in_ok-event.ensures.number next before.lines;
      taken = before.taken + 1;
      are = subst (λ came. AreTaken c.args.text.now c.next_line.new.self.rest.now c.next_line.new.self.order (before.taken + 1)
          c.args.sources.now.buffered.now (g.H.Host.file c.args.sources.now.host.now) came)
          (sym (came_in-push c.loop-lines.events.items c.add_event.new.events.items c.in_ok-event-2.event
          c.in_ok-add_event.ensures.added))
          (AreTaken-event c.args.text.now c.loop-lines.lines c.next_line.new.self c.in-Event.event before.taken
          c.args.sources.now.buffered.now (g.H.Host.file c.args.sources.now.host.now) (came_in c.loop-lines.events.items)
          (came_of c.in_ok-event-2.event) next c.in_ok-event-2.ensures.loaded before.are);
    }

-- One more line was loaded, which is a `cut`.
pub loop-lines-preserved : goal.loop-lines-preserved
loop-lines-preserved g c =
    let before = c.loop-lines.invariant in
    let next = rw c.in_default.is at c.in_ok-event.ensures.next in record {
      lines = AreRead-more c.args.text.now c.loop-lines.lines c.next_line.new.self _ (omega arith)
          c.in_ok-event.ensures.shorter c.in_ok-event.ensures.number next before.lines;
      taken = before.taken + 1;
      are = AreTaken-cut c.args.text.now c.loop-lines.lines c.next_line.new.self c.in_default.field-0 c.in_default.field-1 before.taken
          c.args.sources.now.buffered.now (g.H.Host.file c.args.sources.now.host.now) (came_in c.loop-lines.events.items)
          next before.are;
    }

-- All lines were loaded.
pub returns-clause-loaded : goal.returns-clause-loaded
returns-clause-loaded g c =
    LoadsAll-taken c.args.text.now c.loop-lines.lines.rest.now c.loop-lines.lines.order c.loop-lines.invariant.taken
    c.args.sources.now.buffered.now (g.H.Host.file c.args.sources.now.host.now) (came_in c.loop-lines.events.items)
    (eqb-true _ _ (sym c.loop-lines-test.ensures)) c.loop-lines.invariant.are

-- The next line isn't a valid line.
pub returns-in_err-event-clause-wrong : goal.returns-in_err-event-clause-wrong
returns-in_err-event-clause-wrong g c =
    let known = known_at None (g.H.Host.file c.args.sources.now.host.now) in
    IfErr-passed _ _ _ c.from_residual.ensures.1
    (NamesLine-weaker _ _ _ (IsLostLine c.args.text.now known)
    (λ why is. IsLostLine-text c.args.text.now known c.loop-lines.lines c.next_line.new.self why (omega arith)
    c.in_err-event.ensures.shorter c.in_err-event.ensures.number c.loop-lines.invariant.lines is)
    c.in_err-event.ensures.wrong)

-- The file of the next line isn't as it was.
pub returns-in_err-event-2-clause-wrong : goal.returns-in_err-event-2-clause-wrong
returns-in_err-event-2-clause-wrong g c =
    let known = known_at None (g.H.Host.file c.args.sources.now.host.now) in
    let next = rw c.in-Event.is at c.in_ok-event.ensures.next in
    IfErr-passed _ _ _ c.from_residual-in_err-event-2.ensures.1
    (NamesLine-weaker _ _ _ (IsLostLine c.args.text.now known)
    (λ why is. IsLostLine-file c.args.text.now known c.loop-lines.lines c.next_line.new.self _ is.0 why (omega arith)
    c.in_ok-event.ensures.shorter c.in_ok-event.ensures.number c.loop-lines.invariant.lines next is.1 is.2)
    c.in_err-event-2.ensures.wrong)
