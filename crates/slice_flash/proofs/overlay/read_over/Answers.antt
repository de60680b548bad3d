use Rattle.std.proofs.Common.{◌≡◌, ◌+◌, suc, length, slice_range, refl, sym, ◌∙◌, ap, arith}
use Rattle.flash_model.specs.Torn.{replaced}
use Rattle.slice_flash.specs.Overlay.{position, replayed, done_at, room_at, place_at}
use Rattle.slice_flash.proofs.Parts.{length-replayed, position_inside}
use Rattle.slice_flash.proofs.overlay.read_over.Goals as goal

pub loop-k-preserved : goal.loop-k-preserved
loop-k-preserved c =
    let k = c.loop-k.k in
    let base = c.args.base.now in
    let journal = c.args.journal.now in
    let n = length c.begin.new.out in
    let next : suc k ≡ k + 1 = omega arith in
    let old = c.loop-k.invariant in
    let entry = c.requires.entries k (omega (arith, c.loop-k-test.true)) in
    let room : c.loop-k.offset + c.perform_at-offset.result ≡ position journal (suc k) =
    ap (λ r. c.loop-k.offset + r) c.perform_at-offset.ensures.room ∙ ap (λ s. s + room_at journal s) old.offset in
    record {
      offset = room ∙ ap (λ m. position journal m) next;
      same_size = c.perform_at-offset.ensures.same_size ∙ old.same_size;
      within = omega (arith, room, entry.whole);
      read = c.perform_at-offset.ensures.bytes (replayed base journal k)
          (length-replayed base journal c.args.entries k c.requires.entries (omega (arith, c.loop-k-test.true)))
          (omega (arith, old.same_size, c.requires.inside))
          (old.read ∙ ap (λ m. slice_range (replayed base journal k) c.args.at (c.args.at + m)) (sym old.same_size))
          ∙ ap (λ s. slice_range (replaced (place_at journal s) (done_at journal s) (replayed base journal k)) c.args.at
          (c.args.at + length c.loop-k.out)) old.offset
          ∙ ap (λ m. slice_range (replayed base journal (suc k)) c.args.at (c.args.at + m)) old.same_size
          ∙ ap (λ m. slice_range (replayed base journal m) c.args.at (c.args.at + n)) next;
    }

pub loop-k-init : goal.loop-k-init
loop-k-init c =
    let base = c.args.base.now in
    let journal = c.args.journal.now in
    let start = c.args.start in
    record {
      offset = c.requires.start.offset;
      same_size = refl;
      within = omega (
        arith,
        c.requires.start.offset,
        position_inside (length base) journal c.args.entries start.entries c.requires.entries c.requires.start.entries,
      );
      read = c.begin.ensures journal c.args.entries c.requires.entries c.requires.start
          ∙ ap (λ n. slice_range (replayed base journal start.entries) c.args.at (c.args.at + n)) (sym c.begin.auto.out);
    }
