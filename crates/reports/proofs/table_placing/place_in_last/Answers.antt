use Rattle.std.proofs.Common.{sym, arith, slice_set, ◌-◌}
use Rattle.arrayvec.proofs.ArrayVecLemmas.{items-with_items}
use Rattle.std.proofs.lemmas.List.{length-set}
use Rattle.reports.proofs.TableRuns.{in_last-placed}
use Rattle.reports.proofs.table_placing.place_in_last.Goals as goal

pub returns-then-count-gt0 : goal.returns-then-count-gt0
returns-then-count-gt0 c =
    let images = c.args.images.now in
    let written = slice_set images.items (c.len-count.result - 1) c.place_in_image.new.image in
    rw (
      c.deref_mut.ensures.value,
      items-with_items images written
          (length-set images.items (c.len-count.result - 1) c.place_in_image.new.image),
    )
    (in_last-placed c.place_in_image.result images.items
    (c.len-count.result - 1) c.index-deref_mut-count.result c.place_in_image.new.image c.args.line (omega arith)
    (rw c.deref_mut.ensures.value at c.index-deref_mut-count.is)
    (rw (sym c.index-deref_mut-count.is) at c.place_in_image.ensures))
