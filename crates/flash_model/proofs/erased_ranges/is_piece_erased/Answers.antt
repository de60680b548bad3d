use Rattle.std.proofs.Common.{rules}
use Rattle.flash_model.proofs.Erased.{erased_of_reads, reads_of_erased}
use Rattle.flash_model.proofs.erased_ranges.is_piece_erased.Goals as goal

pub returns : goal.returns
returns g c =
    let reads = c.in_ok-read.ensures in
    record {
      same = reads.same;
      ok = rw (c.are_erased.ensures, ← c.read.auto.out)
          (erased_of_reads _ _ _ reads.ok, reads_of_erased _ _ _ reads.ok);
      on = reads.on;
      ends = search rules;
    }
