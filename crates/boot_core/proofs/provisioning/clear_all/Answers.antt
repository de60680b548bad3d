use Rattle.std.proofs.Common.{rules, arith}
use Rattle.sector_map.proofs.Parts.{keeps_refl, laid_out_kept}
use Rattle.boot_core.proofs.Afresh.{cleared_more, trailers_more}
use Rattle.boot_core.proofs.provisioning.clear_all.Goals as goal

pub loop-image-init : goal.loop-image-init
loop-image-init g c = record {
  laid_out = c.requires.laid_out;
  outside = keeps_refl _ _ _;
  cleared = λ i lt side. absurd (omega arith);
  journal = omega arith;
  uncut = search rules;
  asleep = search rules;
}

pub loop-image-preserved : goal.loop-image-preserved
loop-image-preserved g c = record {
  laid_out = laid_out_kept _ _ _ _ c.loop-image.invariant.laid_out c.clear_image.ensures.outside;
  outside = trailers_more _ _ _ _ _ c.loop-image.invariant.outside c.clear_image.ensures.outside;
  cleared = cleared_more c.args.map.now _ _ _ c.loop-image.invariant.cleared c.clear_image.ensures.outside
      c.in_ok-clear_image.ensures.ok;
  journal = omega (arith, c.loop-image.invariant.journal, c.clear_image.ensures.journal);
  uncut = search rules;
  asleep = search rules;
}
