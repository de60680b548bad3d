use Rattle.std.proofs.Common.{◌/◌, arith}
use Rattle.slice_flash.specs.Steps.{Programmed}
use Rattle.slice_flash.proofs.Indexed.{first_row, index_grown, rows_kept, rows_with}
use Rattle.slice_flash.proofs.index.Index.add_program.Goals as goal

pub returns-then-not-is_touched : goal.returns-then-not-is_touched
returns-then-not-is_touched c = λ base old new here more is.
    let size = c.args.size in
    let sector = c.args.at / size in
    let step = Programmed c.args.at c.args.bytes.now in
    index_grown size base old new c.args.writes sector step c.args.self.now c.set.new.self more
    (omega arith) (omega (arith, c.is_in_sector.ensures)) is
    (rows_with size base old new c.args.writes step c.args.self.now.rows c.set.new.self.rows sector _ more is.rows
    (first_row size base old new c.args.writes c.args.used sector step here more (is.untouched sector (cc)))
    c.set.ensures.rows)
    c.set.ensures.sector c.set.ensures.others

pub returns-else-not-is_touched : goal.returns-else-not-is_touched
returns-else-not-is_touched c = λ base old new here more is.
    let size = c.args.size in
    let sector = c.args.at / size in
    let step = Programmed c.args.at c.args.bytes.now in
    index_grown size base old new c.args.writes sector step c.args.self.now c.args.self.now more
    (omega arith) (omega (arith, c.is_in_sector.ensures)) is
    (rows_kept size base old new c.args.writes step c.args.self.now.rows more is.rows)
    (cc)
    (λ other unset. unset)
