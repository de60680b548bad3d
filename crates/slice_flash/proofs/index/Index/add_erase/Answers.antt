use Rattle.std.proofs.Common.{ℕ, ◌/◌, arith}
use Rattle.std.proofs.lemmas.List.{length-replicate}
use Rattle.slice_flash.specs.Steps.{Erased}
use Rattle.slice_flash.proofs.Indexed.{erase_place, erased_row, index_grown, rows_with}
use Rattle.slice_flash.proofs.index.Index.add_erase.Goals as goal

pub returns : goal.returns
returns c = λ n base old new here more is.
    let size = c.args.size in
    let sector = c.args.at / size in
    let place = erase_place size c.args.at n _ c.requires.some more.accepted in
    let long = length-replicate {A = ℕ} n 255 in
    index_grown size base old new c.args.writes sector (Erased c.args.at n) c.args.self.now c.set.new.self more
    (omega (arith, place)) (omega (arith, place, long, more.accepted.whole)) is
    (rows_with size base old new c.args.writes (Erased c.args.at n) c.args.self.now.rows c.set.new.self.rows sector _ more is.rows
    (erased_row size base old new c.args.writes c.args.used c.args.at n c.requires.some here more)
    c.set.ensures.rows)
    c.set.ensures.sector c.set.ensures.others
