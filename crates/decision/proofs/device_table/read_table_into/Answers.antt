use Rattle.std.proofs.Common.{rules, ◌≡◌, ◌∙◌, sym, subst, ap, ◌<◌, arith, ◌+◌, length, slice_index}
use Rattle.sector_map.specs.Map.{IsLaidOut}
use Rattle.upload.specs.View.{view}
use Rattle.flash_contents.specs.Reading.{AreRowsOf}
use Rattle.decision.specs.Found.{AreReadable, AreRowsHeld}
use Rattle.decision.proofs.Held.{held_more, held_none, one_more}
use Rattle.decision.specs.Places.{some_if}
use Rattle.flash_contents.proofs.Rows.{lowest_damaged, row_none, row_some, rows_more, rows_none, whole_table}
use Rattle.decision.proofs.Readable.{lowest_at, readable_more, readable_none}
use Rattle.decision.proofs.device_table.read_table_into.Goals as goal

pub loop-image-init : goal.loop-image-init
loop-image-init g c = record {
  laid_out = c.requires.laid_out;
  few = c.requires.laid_out.is_map.counts.few;
  same = search rules;
  count = search rules;
  rows = λ s can. subst (λ l. AreRowsOf s c.args.floors.now 0 l) (sym c.clear.ensures)
      (rows_none s c.args.floors.now);
  front = readable_none c.args.map.now _ c.args.mask;
  held = subst (λ l. AreRowsHeld (view c.args.map.now (g.F.Flash.chip c.args.flash.now)) c.args.mask l)
      (sym c.clear.ensures) (held_none _ c.args.mask);
}

pub returns-then-not-branch : goal.returns-then-not-branch
returns-then-not-branch g c =
    let pushed = c.in_ok-push_row.ensures in
    let none = ap (λ is. some_if pushed.row is) c.if-not-branch.true in
    let lt : c.loop-image.image < c.args.map.now.images = omega arith in
    record {
      same = search rules;
      ok = λ s can.
          lowest_damaged c.args.map.now _ s _ _ _ _ can (c.loop-image.invariant.rows s can) lt
          (row_none c.args.map.now _ _ s _ _ _ _ _ _ can lt c.loop-image.invariant.same c.is_member-is_swapped.ensures
          pushed.reads.ok none);
      whole = search rules;
      front = lowest_at c.args.map.now _ _ c.args.mask c.loop-image.image _ _ c.loop-image.invariant.same
          c.is_member-is_swapped.ensures lt pushed.reads.front none c.loop-image.invariant.front;
      held = tt;
      ends = search rules;
    }

pub loop-image-preserved : goal.loop-image-preserved
loop-image-preserved g c =
    let pushed = c.in_ok-push_row.ensures in
    let some = ap (λ is. some_if pushed.row is) c.if-not-branch.false in
    let lt : c.loop-image.image < c.args.map.now.images = omega arith in
    record {
      laid_out = subst (λ chip. IsLaidOut c.args.map.now chip) (sym pushed.reads.same)
          c.loop-image.invariant.laid_out;
      few = search rules;
      same = pushed.reads.same ∙ c.loop-image.invariant.same;
      count = ap (λ l. length l) pushed.pushed ∙ one_more _ _ _ c.loop-image.invariant.count;
      rows = λ s can. subst (λ l. AreRowsOf s c.args.floors.now (c.loop-image.image + 1) l) (sym pushed.pushed)
          (rows_more s _ _ _ _ (c.loop-image.invariant.rows s can)
          (row_some c.args.map.now _ _ s _ _ _ _ _ _ _ can lt c.loop-image.invariant.same
          c.is_member-is_swapped.ensures pushed.reads.ok some
          (ap (λ k. slice_index c.args.floors.now k) c.from.ensures)));
      front = readable_more c.args.map.now _ _ c.args.mask c.loop-image.image _ _ _ c.loop-image.invariant.same
          c.is_member-is_swapped.ensures pushed.reads.front some c.loop-image.invariant.front;
      held = subst (λ l. AreRowsHeld (view c.args.map.now (g.F.Flash.chip c.args.flash.now)) c.args.mask l)
          (sym pushed.pushed)
          (held_more c.args.map.now _ _ c.args.mask c.loop-image.image _ _ _ _ c.loop-image.invariant.same
          c.loop-image.invariant.count c.is_member-is_swapped.ensures pushed.reads.held
          pushed.reads.asked pushed.reads.wanted some c.loop-image.invariant.held);
    }

pub returns : goal.returns
returns g c = record {
  same = search rules;
  ok = λ s can. whole_table c.args.map.now _ s _ _ _ _ can (c.loop-image.invariant.rows s can)
      (omega arith);
  whole = search rules;
  front =
      let all : c.loop-image.image ≡ c.args.map.now.images = omega arith in
      subst (λ n. AreReadable (view c.args.map.now (g.F.Flash.chip c.args.flash.now)) c.args.mask n) all
      c.loop-image.invariant.front;
  held = c.loop-image.invariant.held;
  ends = search rules;
}
