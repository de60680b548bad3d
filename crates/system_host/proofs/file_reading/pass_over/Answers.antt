use Rattle.std.proofs.Common.{◌-◌, arith}
use Rattle.system_host.proofs.FileLaws.{Passes-more}
use Rattle.system_host.proofs.file_reading.pass_over.Goals as goal

-- The block that was read is passed over too.
pub loop-left-preserved : goal.loop-left-preserved
loop-left-preserved g c = record {
  within = omega arith;
  passed = Passes-more (g.I.Read.remaining c.args.input.now) (g.I.Read.remaining c.loop-left.input)
      (g.I.Read.remaining c.pass_block.new.input) (c.args.count - c.loop-left.left) c.min-size.result
      (c.args.count - (c.loop-left.left - c.min-size.result))
      (omega (arith, c.min-size.ensures, c.loop-left.invariant.within))
      c.loop-left.invariant.passed c.in-Ok.ensures;
}
