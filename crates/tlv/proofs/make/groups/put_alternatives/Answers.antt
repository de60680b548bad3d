use Rattle.image_reading.specs.Fields.{FitsDependency, dependency_bytes}
use Rattle.tlv.proofs.MakingSteps.{each_more, pieces_more, puts_more}
use Rattle.tlv.proofs.make.groups.put_alternatives.Goals as goal

pub loop-alternative-preserved : goal.loop-alternative-preserved
loop-alternative-preserved c =
    let i = c.loop-alternative.alternative-index in
    record {
      written = puts_more c.loop-alternative.invariant.written c.put_dependency-end.ensures.written
          (pieces_more dependency_bytes c.args.alternatives.now i _ c.loop-alternative-test.true);
      fit = each_more FitsDependency c.args.alternatives.now i _ c.loop-alternative-test.true
          c.loop-alternative.invariant.fit c.put_dependency-end.ensures.fits;
    }
