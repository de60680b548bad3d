use Rattle.std.proofs.Common.{◌≡◌, ◌+◌, ◌∷◌, ◌++◌, ◌||◌, Bool, None, [], ap, arith, eqb-true, length, length-append, is_some, refl, rules, subst, sym, ◌∙◌}
use Rattle.std.proofs.lemmas.Bool.{or_parts}
use Rattle.flash_model.specs.Chip.{Chip}
use Rattle.common.proofs.Results.{IfErr-passed}
use Rattle.device_commands.specs.Telling.{TellsAll}
use Rattle.inputs.specs.Loading.{came_of}
use Rattle.inputs.specs.Script.{known_at}
use Rattle.inputs.specs.ScriptFault.{IsLostLine}
use Rattle.inputs.proofs.ScriptFaultLaws.{AreRead-more, AreRead-none, IsLostLine-file, IsLostLine-text, NamesLine-weaker}
use Rattle.inputs.proofs.ScriptLaws.{AreTaken-cut, AreTaken-event, AreTaken-none, LoadsAll-taken}
use Rattle.device_commands.proofs.TellingLaws.{BreaksText-all, BreaksText-some, TellsAll-more, TellsAll-none, TellsSome-all, TellsSome-more, not_of_file}
use Rattle.device_commands.proofs.run.run_events.Goals as goal

-- No line was taken yet.
pub loop-lines-init : goal.loop-lines-init
loop-lines-init g c =
    let whole = ap length c.of-lines.ensures.all in
    record {
      setup = refl;
      on = search rules;
      few = omega (arith, whole);
      lines = AreRead-none c.args.text.now c.of-lines.result c.of-lines.ensures.all c.of-lines.ensures.none
          c.of-lines.ensures.order;
      taken = 0;
      came = [];
      counted = refl;
      are = AreTaken-none c.args.text.now c.of-lines.result.rest.now c.of-lines.result.order c.args.sources.now.buffered.now
          (g.H.Host.file c.args.sources.now.host.now) c.of-lines.ensures.all c.of-lines.ensures.order;
      told = TellsAll-none c.args.options.form _ _ _ c.requires.sound;
    }

-- The next line isn't a valid line.
pub returns-in_err-event-clause-some : goal.returns-in_err-event-clause-some
returns-in_err-event-clause-some g c =
    let before = c.loop-lines.invariant in
    IfErr-passed _ _ _ c.from_residual.ensures.1
    (BreaksText-some c.args.options.form _ c.args.device.now.setup _ _ c.args.text.now c.loop-lines.lines.rest.now c.loop-lines.lines.order
    before.taken c.args.sources.now.buffered.now (g.H.Host.file c.args.sources.now.host.now) before.came _ _ before.are
    (TellsSome-all c.args.options.form _ c.args.device.now.setup _ _ before.came c.loop-lines.last c.loop-lines.has_refused (is_some c.loop-lines.failure) _ _ before.told)
    (not_of_file _ c.in_err-event.ensures.refused))

-- The file of the next line can't be read any more.
pub returns-in_err-event-2-clause-some : goal.returns-in_err-event-2-clause-some
returns-in_err-event-2-clause-some g c =
    let before = c.loop-lines.invariant in
    IfErr-passed _ _ _ c.from_residual-in_err-event-2.ensures.1
    (BreaksText-some c.args.options.form _ c.args.device.now.setup _ _ c.args.text.now c.loop-lines.lines.rest.now c.loop-lines.lines.order
    before.taken c.args.sources.now.buffered.now (g.H.Host.file c.args.sources.now.host.now) before.came _ _ before.are
    (TellsSome-all c.args.options.form _ c.args.device.now.setup _ _ before.came c.loop-lines.last c.loop-lines.has_refused (is_some c.loop-lines.failure) _ _ before.told)
    (not_of_file _ c.in_err-event-2.ensures.refused))

-- The reply to the next event was written in part or not at all.
pub returns-in_err-told-clause-some : goal.returns-in_err-told-clause-some
returns-in_err-told-clause-some g c =
    let before = c.loop-lines.invariant in
    let next = rw c.in-Event.is at c.in_ok-event.ensures.next in
    let one = came_of c.in_ok-event-2.event in
    IfErr-passed _ _ _ c.from_residual-in_err-told.ensures.1
    (BreaksText-some c.args.options.form _ c.args.device.now.setup _ _ c.args.text.now c.next_line.new.self.rest.now
    c.next_line.new.self.order (before.taken + 1) c.args.sources.now.buffered.now
    (g.H.Host.file c.args.sources.now.host.now) (before.came ++ one ∷ []) _ _
    (AreTaken-event c.args.text.now c.loop-lines.lines c.next_line.new.self c.in-Event.event before.taken
    c.args.sources.now.buffered.now (g.H.Host.file c.args.sources.now.host.now) before.came one next
    c.in_ok-event-2.ensures.loaded before.are)
    (TellsSome-more c.args.options.form _ c.args.device.now.setup c.loop-lines.device.setup _ _ _ before.came one (c.loop-lines.number + 1)
    c.loop-lines.last c.loop-lines.has_refused (is_some c.loop-lines.failure) _ _ _ before.told (omega (arith, before.counted)) before.setup
    c.in_err-told.ensures.begun)
    c.in_err-told.ensures.begun.broken.output)

-- The reply to one more event was written.
pub loop-lines-preserved-in-Event : goal.loop-lines-preserved-in-Event
loop-lines-preserved-in-Event g c =
    let before = c.loop-lines.invariant in
    let next = rw c.in-Event.is at c.in_ok-event.ensures.next in
    let one = came_of c.in_ok-event-2.event in
    record {
      setup = c.in_ok-told.ensures.setup ∙ before.setup;
      on = c.in_ok-told.ensures.on;
      few = omega (arith, before.few, c.in_ok-event.ensures.shorter);
      lines = AreRead-more c.args.text.now c.loop-lines.lines c.next_line.new.self _ (omega arith)
          c.in_ok-event.ensures.shorter c.in_ok-event.ensures.number next before.lines;
      taken = before.taken + 1;
      came = before.came ++ one ∷ [];
      counted = ap (λ k. k + 1) before.counted ∙ sym (length-append before.came (one ∷ []));
      are = AreTaken-event c.args.text.now c.loop-lines.lines c.next_line.new.self c.in-Event.event before.taken
          c.args.sources.now.buffered.now (g.H.Host.file c.args.sources.now.host.now) before.came one next
          c.in_ok-event-2.ensures.loaded before.are;
      told = TellsAll-more c.args.options.form c.args.device.now.setup c.loop-lines.device.setup _ _ _ before.came one
          (c.loop-lines.number + 1) c.loop-lines.last _ c.loop-lines.has_refused _ (is_some c.loop-lines.failure) _ _ _ _ before.told
          (omega (arith, before.counted)) before.setup c.in_ok-told.ensures.told
          refl
          (λ none.
          let parts = or_parts (is_some c.loop-lines.failure) (is_some c.failure.result) (sym c.first_failure-failure.ensures ∙ none) in (
            parts.0,
            subst (λ (chip : Chip). chip.faults ≡ 0) c.flash.ensures (rw parts.1 at c.failure.ensures.faults),
          ));
    }

-- A line `cut` brings no event, and was passed over.
pub loop-lines-preserved : goal.loop-lines-preserved
loop-lines-preserved g c =
    let before = c.loop-lines.invariant in
    let next = rw c.in_default.is at c.in_ok-event.ensures.next in
    record {
      setup = before.setup;
      on = before.on;
      few = omega (arith, before.few, c.in_ok-event.ensures.shorter);
      lines = AreRead-more c.args.text.now c.loop-lines.lines c.next_line.new.self _ (omega arith)
          c.in_ok-event.ensures.shorter c.in_ok-event.ensures.number next before.lines;
      taken = before.taken + 1;
      came = before.came;
      counted = before.counted;
      are = AreTaken-cut c.args.text.now c.loop-lines.lines c.next_line.new.self c.in_default.field-0
          c.in_default.field-1 before.taken c.args.sources.now.buffered.now (g.H.Host.file c.args.sources.now.host.now)
          before.came next before.are;
      told = before.told;
    }

-- All replies were written, and the flash file failed.
pub returns-in-Some-clause-some : goal.returns-in-Some-clause-some
returns-in-Some-clause-some g c =
    let before = c.loop-lines.invariant in
    BreaksText-all c.args.options.form _ c.args.device.now.setup _ _ c.args.text.now c.args.sources.now.buffered.now
    (g.H.Host.file c.args.sources.now.host.now) before.came c.loop-lines.last c.loop-lines.has_refused (is_some c.loop-lines.failure) _ _
    (LoadsAll-taken c.args.text.now c.loop-lines.lines.rest.now c.loop-lines.lines.order before.taken
    c.args.sources.now.buffered.now (g.H.Host.file c.args.sources.now.host.now) before.came
    (eqb-true _ _ (sym c.loop-lines-test.ensures)) before.are)
    before.told

-- All replies were written, and the flash file didn't fail.
pub returns-in-None-clause-all : goal.returns-in-None-clause-all
returns-in-None-clause-all g c =
    let before = c.loop-lines.invariant in
    let setup = c.args.device.now.setup in
    let old = c.args.device.now.here in
    let new = c.loop-lines.device.here in
    let written = g.O.Write.contents c.loop-lines.out in
    record {
      came = before.came;
      last = c.loop-lines.last;
      refused = c.loop-lines.has_refused;
      comes = LoadsAll-taken c.args.text.now c.loop-lines.lines.rest.now c.loop-lines.lines.order before.taken
          c.args.sources.now.buffered.now (g.H.Host.file c.args.sources.now.host.now) before.came
          (eqb-true _ _ (sym c.loop-lines-test.ensures)) before.are;
      tells = subst (λ failed. TellsAll c.args.options.form c.loop-lines.last c.loop-lines.has_refused failed setup old new before.came
          (g.O.Write.contents c.args.out.now) written) (ap is_some c.in-None.is) before.told;
      ends = c.ending.ensures;
    }

-- The next line isn't what it was when the script was checked.
pub returns-in_err-event-clause-wrong : goal.returns-in_err-event-clause-wrong
returns-in_err-event-clause-wrong g c =
    let known = known_at None (g.H.Host.file c.args.sources.now.host.now) in
    IfErr-passed _ _ _ c.from_residual.ensures.1
    (NamesLine-weaker _ _ _ (IsLostLine c.args.text.now known)
    (λ why is. IsLostLine-text c.args.text.now known c.loop-lines.lines c.next_line.new.self why (omega arith)
    c.in_err-event.ensures.shorter c.in_err-event.ensures.number c.loop-lines.invariant.lines is)
    c.in_err-event.ensures.wrong)

-- The file of the next line isn't as it was then.
pub returns-in_err-event-2-clause-wrong : goal.returns-in_err-event-2-clause-wrong
returns-in_err-event-2-clause-wrong g c =
    let known = known_at None (g.H.Host.file c.args.sources.now.host.now) in
    let next = rw c.in-Event.is at c.in_ok-event.ensures.next in
    IfErr-passed _ _ _ c.from_residual-in_err-event-2.ensures.1
    (NamesLine-weaker _ _ _ (IsLostLine c.args.text.now known)
    (λ why is. IsLostLine-file c.args.text.now known c.loop-lines.lines c.next_line.new.self _ is.0 why (omega arith)
    c.in_ok-event.ensures.shorter c.in_ok-event.ensures.number c.loop-lines.invariant.lines next is.1 is.2)
    c.in_err-event-2.ensures.wrong)
