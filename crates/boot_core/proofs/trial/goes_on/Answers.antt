use Rattle.std.proofs.Common.{◌<◌, arith, inr, subst}
use Rattle.sector_map.specs.declared.layout.Side.TheVariants.{Primary}
use Rattle.upload.specs.View.{view}
use Rattle.flash_contents.specs.Starting.{IsLost, IsLowestLost}
use Rattle.boot_core.proofs.Looked.{all_intact}
use Rattle.boot_core.proofs.Passed.{ok_ends}
use Rattle.boot_core.proofs.trial.goes_on.Goals as goal

pub returns-in-None : goal.returns-in-None
returns-in-None g c =
    let old = g.F.Flash.chip c.args.flash.now in
    let some : 0 < c.args.left = omega arith in
    record {
      same = c.lowest_damaged.ensures.same;
      ok = (
        some,
        all_intact c.args.map.now old c.requires
            (subst (λ lost. IsLowestLost (view c.args.map.now old) 255 Primary lost) c.in-None.is
            c.in_ok-lowest_damaged.ensures.ok),
      );
      ends = ok_ends c.in_ok-lowest_damaged.ensures.ends;
    }

pub returns-in-Some : goal.returns-in-Some
returns-in-Some g c =
    let old = g.F.Flash.chip c.args.flash.now in
    let lost : IsLost (view c.args.map.now old) 255 Primary c.in-Some.field-0 =
    subst (λ lost. IsLowestLost (view c.args.map.now old) 255 Primary lost) c.in-Some.is
    c.in_ok-lowest_damaged.ensures.ok in
    record {
      same = c.lowest_damaged.ensures.same;
      ok = inr (c.in-Some.field-0, lost.there, lost.lost);
      ends = ok_ends c.in_ok-lowest_damaged.ensures.ends;
    }
