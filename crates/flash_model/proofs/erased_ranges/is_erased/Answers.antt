use Rattle.std.proofs.Common.{◌+◌, ◌≤◌, length, take, rules, arith}
use Rattle.std.proofs.lemmas.List.{length-take}
use Rattle.flash_model.proofs.Erased.{erased_narrower}
use Rattle.flash_model.proofs.erased_ranges.is_erased.Goals as goal

pub returns-then-not-branch : goal.returns-then-not-branch
returns-then-not-branch g c =
    let piece = rw (c.if-not-branch.true, c.loop-done.invariant.same) at c.in_ok-is_piece_erased.ensures.ok in
    let within : c.args.at + c.loop-done.done + length (take c.min-size.result c.loop-done.buffer) ≤ c.args.at + c.args.len =
    omega (arith, length-take c.min-size.result c.loop-done.buffer) in
    record {
      same = search rules;
      ok = (λ no. cc, λ all. piece.1 (erased_narrower _ _ _ _ _ all (omega arith) within));
      answers = search rules;
      refuses = search rules;
      erases = search rules;
      journal = search rules;
      ends = search rules;
    }
