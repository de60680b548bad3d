use Rattle.std.proofs.Common.{◌≡◌, ◌<◌, ◌∙◌, ap, arith, length, take}
use Rattle.std.proofs.lemmas.List.{take_all}
use Rattle.std.proofs.lemmas.Grind.{common_steps}
use Rattle.tlv.specs.Making.{groups_of}
use Rattle.c_interface.proofs.Parts.{slices_more}
use Rattle.c_interface.proofs.making.slices_of.Goals as goal

pub loop-i-preserved : goal.loop-i-preserved
loop-i-preserved c =
    let room : c.loop-i.i < length c.loop-i.slices =
    omega (arith, c.loop-i.invariant.long, c.loop-i-test.true, c.requires) in
    record {
      long = grind (arith, common_steps, c.loop-i.invariant.long);
      each = slices_more c.args.groups.now c.loop-i.slices c.loop-i.i _ c.as_slice.result c.loop-i-test.true room
          c.loop-i.invariant.each c.as_slice.ensures.value;
    }

pub returns : goal.returns
returns c =
    let all : length c.args.groups.now ≡ c.loop-i.i = omega (arith, c.loop-i-test.false, c.loop-i.auto.i-end) in
    ap (λ n. groups_of (take n c.loop-i.slices)) all ∙ c.loop-i.invariant.each
    ∙ take_all c.loop-i.i c.args.groups.now c.loop-i-test.false
