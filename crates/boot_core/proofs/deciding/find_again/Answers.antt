use Rattle.std.proofs.Common.{◌≡◌, arith, subst, sym}
use Rattle.upload.specs.View.{view}
use Rattle.flash_contents.specs.Reading.{HasImages}
use Rattle.machine.proofs.Unique.{one_greatest, one_table}
use Rattle.machine.proofs.FoundAgain.{chosen_again, found_again}
use Rattle.decision.specs.Found.{HasTable, IsFindingAt, IsFindingHeld}
use Rattle.boot_core.proofs.Masks.{set_found}
use Rattle.boot_core.proofs.Moves.{starts_set}
use Rattle.boot_core.proofs.Passed.{ok_ends}
use Rattle.boot_core.proofs.Undecided.{none_decided, reported, set_for, starts_none, told_undecided}
use Rattle.boot_core.proofs.Undecided.{decided_in, undecided_in}
use Rattle.boot_core.proofs.deciding.find_again.Goals as goal

pub returns-then-taken_mask-mask : goal.returns-then-taken_mask-mask
returns-then-taken_mask-mask g c = record {
  same = c.find_into.ensures.same;
  ok = λ s table permanent can decision.
      let found = reported s _ _ _ (decided_in c.find_into.new.table c.find_into.new.report _ c.in-Decided.is) (c.in_ok-verdict.ensures.ok s can) in
      let same : c.args.mask ≡ c.taken_mask.result = c.taken_mask.ensures.only c.args.mask (omega arith)
      (chosen_again _ table s c.args.mask permanent c.find_into.new.report
      (one_table s c.find_into.new.table table found.rows decision.chosen.rows) decision found.greatest) in
      c.if-taken_mask-mask.true (sym same);
  set = tt;
  whole = tt;
  rows = tt;
  starts = tt;
  told = (
    subst (λ f. IsFindingAt (view c.args.map.now (g.F.Flash.chip c.args.flash.now)) c.args.mask f)
        (decided_in c.find_into.new.table c.find_into.new.report _ c.in-Decided.is) c.in_ok-verdict.ensures.front,
    λ s can.
        let found = reported s _ _ _ (decided_in c.find_into.new.table c.find_into.new.report _ c.in-Decided.is) (c.in_ok-verdict.ensures.ok s can) in (
          c.find_into.new.table,
          found.rows,
          λ valid greatest.
              let same : c.args.mask ≡ c.taken_mask.result = c.taken_mask.ensures.only c.args.mask (omega arith)
              (one_greatest c.find_into.new.table _ _ greatest found.greatest) in
              c.if-taken_mask-mask.true (sym same),
        ),
  );
  ends = ok_ends c.in_ok-verdict.ensures.ends;
}

pub returns-in_default : goal.returns-in_default
returns-in_default g c =
    let finds = c.in_ok-verdict.ensures in
    record {
      same = c.find_into.ensures.same;
      ok = λ s table permanent can decision. none_decided s table c.args.mask permanent _ (undecided_in c.find_into.new.table c.find_into.new.report _ c.in_default.not-Decided) decision
          (finds.ok s can);
      set = set_for c.args.mask _ (undecided_in c.find_into.new.table c.find_into.new.report _ c.in_default.not-Decided);
      whole = finds.whole;
      rows = finds.rows;
      starts = starts_none _ _ (undecided_in c.find_into.new.table c.find_into.new.report _ c.in_default.not-Decided);
      told = told_undecided _ c.args.mask _ _ finds.front finds.ok;
      ends = finds.ends;
    }

pub returns-else-taken_mask-mask : goal.returns-else-taken_mask-mask
returns-else-taken_mask-mask g c = record {
  same = c.find_into.ensures.same;
  ok = λ s table permanent can decision.
      let found = reported s _ _ _ (decided_in c.find_into.new.table c.find_into.new.report _ c.in-Decided.is) (c.in_ok-verdict.ensures.ok s can) in
      found_again _ table s c.args.mask permanent _ found.rows
      (one_table s c.find_into.new.table table found.rows decision.chosen.rows) decision found.right
      found.greatest found.standard;
  set = set_found c.args.mask c.taken_mask.result _
      c.if-taken_mask-mask.false c.taken_mask.ensures.each;
  whole = subst (λ f. HasImages c.args.map.now.images f) (decided_in c.find_into.new.table c.find_into.new.report _ c.in-Decided.is) c.in_ok-verdict.ensures.whole;
  rows = subst (λ f. HasTable c.args.map.now.images f) (decided_in c.find_into.new.table c.find_into.new.report _ c.in-Decided.is) c.in_ok-verdict.ensures.rows;
  starts =
      let held = subst (λ f. IsFindingHeld (view c.args.map.now (g.F.Flash.chip c.args.flash.now)) c.args.mask f)
      (decided_in c.find_into.new.table c.find_into.new.report _ c.in-Decided.is) c.in_ok-verdict.ensures.held in
      let rows = subst (λ f. HasTable c.args.map.now.images f)
      (decided_in c.find_into.new.table c.find_into.new.report _ c.in-Decided.is) c.in_ok-verdict.ensures.rows in
      starts_set _ c.find_into.new.table c.find_into.new.report c.args.mask rows held.0 held.1
      (set_found c.args.mask c.taken_mask.result c.find_into.new.report c.if-taken_mask-mask.false
      c.taken_mask.ensures.each).each;
  told = tt;
  ends = ok_ends c.in_ok-verdict.ensures.ends;
}
