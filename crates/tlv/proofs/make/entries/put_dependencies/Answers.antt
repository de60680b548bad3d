use Rattle.std.proofs.Common.{refl}
use Rattle.image_reading.specs.Fields.{FitsDependency}
use Rattle.tlv.specs.Making.{dependency_entry}
use Rattle.tlv.proofs.MakingSteps.{dependencies_more, each_more, entry_spelled, puts_more}
use Rattle.tlv.proofs.make.entries.put_dependencies.Goals as goal

pub loop-dependency-preserved : goal.loop-dependency-preserved
loop-dependency-preserved c =
    let i = c.loop-dependency.dependency-index in
    let entry =
    puts_more c.put_head-end.ensures c.put_dependency-end.ensures.written
    (entry_spelled (dependency_entry _) 12 refl) in
    record {
      written = puts_more c.loop-dependency.invariant.written entry
          (dependencies_more c.args.dependencies.now i _ c.loop-dependency-test.true);
      fit = each_more FitsDependency c.args.dependencies.now i _ c.loop-dependency-test.true
          c.loop-dependency.invariant.fit c.put_dependency-end.ensures.fits;
    }
