use Rattle.std.proofs.Common.{◌≡◌, take, drop, ap, ◌∙◌, arith, rules}
use Rattle.std.proofs.lemmas.List.{take_at}
use Rattle.flash_model.specs.Chip.{Chip}
use Rattle.image_reading.specs.Span.{bytes_of}
use Rattle.image_reading.proofs.Spans.{HoldsBefore-all, HoldsBefore-update, bytes_of-none}
use Rattle.image_reading.proofs.medium.Medium.digest.Goals as goal

pub loop-rest-preserved : goal.loop-rest-preserved
loop-rest-preserved g c =
    let chip = g.Self.Medium.chip c.args.self.now in
    let rest = c.loop-rest.rest in
    let size = c.min-size.result in
    let own : g.Self.Medium.chip c.loop-rest.self ≡ chip = c.loop-rest.invariant.same in
    let read : c.read.new.out ≡ take size (bytes_of chip rest) =
    c.read.ensures.read ∙ ap (λ (there : Chip). bytes_of there c.first.result) own ∙ c.first.ensures.bytes chip in
    let piece = take_at c.read.new.out (drop size c.loop-rest.buffer) size (search rules) ∙ read in
    record {
      same = cc;
      readable = c.after-rest.ensures.readable chip c.loop-rest.invariant.readable;
      held = HoldsBefore-update c.loop-rest.hasher c.update.new.self c.min-size.result _ (bytes_of chip rest) _ _
          c.loop-rest.invariant.held c.update.ensures piece (c.after-rest.ensures.bytes chip);
    }

pub returns-clause-digest : goal.returns-clause-digest
returns-clause-digest g c =
    let chip = g.Self.Medium.chip c.args.self.now in
    let none = bytes_of-none chip c.loop-rest.rest (omega arith) in
    let held = HoldsBefore-all c.loop-rest.hasher _ _ c.loop-rest.invariant.held none in
    search (rules, c.finalize.ensures _ held)
