use Rattle.std.proofs.Common.{◌+◌, sym, arith}
use Rattle.std.proofs.lemmas.Bool.{eqb-true}
use Rattle.common.specs.Lines.{lines_of}
use Rattle.common.proofs.ReadingLaws.{read_lines-stops, read_lines-goes_on, read_lines-ends}
use Rattle.common.proofs.lines.read_lines.Goals as goal

pub returns-then-not-take_line : goal.returns-then-not-take_line
returns-then-not-take_line g c =
    read_lines-stops g.S.TakesLines.with_line c.loop-rest.state (c.loop-rest.number + 1) (lines_of c.loop-rest.rest.now) (lines_of c.first_line.result.1.now) c.first_line.result.0.now _
    c.first_line.ensures.lines c.if-not-take_line.ensures c.loop-rest.invariant.read

pub loop-rest-preserved : goal.loop-rest-preserved
loop-rest-preserved g c = record {
  counted = omega (arith, c.first_line.ensures.shorter);
  read = read_lines-goes_on g.S.TakesLines.with_line c.loop-rest.state c.take_line.new.self (c.loop-rest.number + 1) (lines_of c.loop-rest.rest.now) (lines_of c.first_line.result.1.now) c.first_line.result.0.now _
      c.first_line.ensures.lines c.if-not-take_line.ensures c.loop-rest.invariant.read;
}

pub returns : goal.returns
returns g c = read_lines-ends g.S.TakesLines.with_line c.loop-rest.state (c.loop-rest.number + 1) c.loop-rest.rest.now _ (eqb-true _ _ (sym c.loop-rest-test.ensures)) c.loop-rest.invariant.read
