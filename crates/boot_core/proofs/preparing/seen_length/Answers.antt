use Rattle.std.proofs.Common.{rules, arith}
use Rattle.boot_core.proofs.Described.{described_fits, described_size, fault_size, slot_small, slot_some}
use Rattle.boot_core.proofs.Passed.{here_ends}
use Rattle.boot_core.proofs.preparing.seen_length.Goals as goal

pub overflow_cast-result : goal.overflow_cast-result
overflow_cast-result g c =
    let begins = rw c.if-branch.true at c.in_ok-intact_image_into.ensures.found in
    let fits = described_fits c.args.map.now (g.F.Flash.chip c.args.flash.now) c.args.image c.args.side
    c.intact_image_into.new.description c.requires.laid_out begins in
    let small = slot_small c.args.map.now c.args.image c.requires.laid_out.is_map in
    omega (arith, fits, small)

pub returns-then-branch : goal.returns-then-branch
returns-then-branch g c = record {
  same = c.intact_image_into.ensures.same;
  ok = described_size c.args.map.now (g.F.Flash.chip c.args.flash.now) c.args.image c.args.side c.intact_image_into.new.description
      c.requires.laid_out (rw c.if-branch.true at c.in_ok-intact_image_into.ensures.found) (search rules);
  ends = rw c.intact_image_into.ensures.same here_ends;
}

pub returns : goal.returns
returns g c =
    let failed = rw c.if-branch.false at c.in_ok-intact_image_into.ensures.found in
    record {
      same = c.intact_image_into.ensures.same;
      ok = fault_size c.args.map.now (g.F.Flash.chip c.args.flash.now) c.args.image c.args.side failed.0
          c.slot_length.result c.requires.laid_out failed.1 c.slot_length.ensures
          (omega (
            arith,
            c.slot_length.ensures,
            slot_some c.args.map.now c.args.image c.requires.laid_out.is_map c.requires.there,
          ));
      ends = rw c.intact_image_into.ensures.same here_ends;
    }
