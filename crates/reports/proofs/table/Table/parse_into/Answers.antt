use Rattle.std.proofs.Common.{◌≡◌, length, refl, sym, ap, inl, arith}
use Rattle.std.proofs.lemmas.Bool.{eqb-true, eqb-false}
use Rattle.std.proofs.lemmas.List.{nil_from_length}
use Rattle.common.specs.Lines.{lines_of}
use Rattle.reports.proofs.TableTextLaws.{from_no_images, FitsTable-from_text, IsTableText-read, read_lines-table, IsFirstBadLine-table, lines_of-no_images}
use Rattle.reports.proofs.table.Table.parse_into.Goals as goal

pub returns-in-Err-clause-only : goal.returns-in-Err-clause-only
returns-in-Err-clause-only c = λ table spelled.
    let read = read_lines-table c.args.text.now table spelled in
    let failed = from_no_images _ _
    (lines_of c.args.text.now) c.clear.ensures c.in-Err.ensures in
    cc

pub returns-in-Err-clause-line : goal.returns-in-Err-clause-line
returns-in-Err-clause-line c =
    IsFirstBadLine-table c.args.text.now c.in-Err.line
    (from_no_images _ _
    (lines_of c.args.text.now) c.clear.ensures c.in-Err.ensures)

pub returns-then-is_empty-clause-only : goal.returns-then-is_empty-clause-only
returns-then-is_empty-clause-only c = λ table spelled.
    let read = read_lines-table c.args.text.now table spelled in
    let found = from_no_images _ _
    (lines_of c.args.text.now) c.clear.ensures c.in_default.ensures in
    let none = eqb-true _ _ (sym c.if-is_empty.ensures) in
    let same : c.read_lines.new.state ≡ table = cc in
    absurd (omega (arith, spelled.some, none, ap (λ (t : _). length t.images.items) same))

pub returns-then-is_empty-clause-line : goal.returns-then-is_empty-clause-line
returns-then-is_empty-clause-line c =
    let found = from_no_images _ _
    (lines_of c.args.text.now) c.clear.ensures c.in_default.ensures in
    let none = nil_from_length c.read_lines.new.state.images.items (eqb-true _ _ (sym c.if-is_empty.ensures)) in
    inl (lines_of-no_images c.args.text.now c.read_lines.new.state found none, refl)

pub returns-clause-spelled : goal.returns-clause-spelled
returns-clause-spelled c =
    let found = from_no_images _ _
    (lines_of c.args.text.now) c.clear.ensures c.in_default.ensures in
    let some = eqb-false _ _ (sym c.if-is_empty.ensures) in
    IsTableText-read c.args.text.now c.read_lines.new.state found (omega (arith, some))

pub returns-clause-fits : goal.returns-clause-fits
returns-clause-fits c = FitsTable-from_text c.args.text.now c.read_lines.new.state (returns-clause-spelled c)

pub returns-clause-only : goal.returns-clause-only
returns-clause-only c = λ table spelled.
    let read = read_lines-table c.args.text.now table spelled in
    let found = from_no_images _ _
    (lines_of c.args.text.now) c.clear.ensures c.in_default.ensures in
    let same : c.read_lines.new.state ≡ table = cc in
    (refl, same)
