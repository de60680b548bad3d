use Rattle.std.proofs.Common.{◌-◌, arith}
use Rattle.std.proofs.lemmas.Result.{IfOk-weaker}
use Rattle.sector_map.specs.Part.{Slot}
use Rattle.sector_map.specs.Map.{length_of}
use Rattle.trailer.proofs.FailedCalls.{at_any}
use Rattle.sector_map.specs.declared.layout.Side.TheVariants.{Secondary}
use Rattle.upload.proofs.StandingLaws.{incoming_inside, tells_written}
use Rattle.upload.proofs.standing.is_erased_behind.Goals as goal

pub overflow_add-start : goal.overflow_add-start
overflow_add-start g c =
    let inside = incoming_inside c.args.map.now _ c.args.image c.requires.image in
    omega (arith, c.slot_start-start.ensures, inside, c.requires.image.laid_out.size, c.requires.within)

pub is_erased-requires : goal.is_erased-requires
is_erased-requires g c =
    let inside = incoming_inside c.args.map.now _ c.args.image c.requires.image in
    omega (arith, c.slot_start-start.ensures, c.slot_length.ensures, inside, c.requires.within)

pub returns : goal.returns
returns g c =
    let map = c.args.map.now in
    let chip = g.F.Flash.chip c.args.flash.now in
    let left = length_of map (Slot c.args.image Secondary) - c.args.at in
    record {
      same = c.is_erased.ensures.same;
      ok = IfOk-weaker c.is_erased.result _ _ (λ erased told.
          tells_written map chip c.args.image c.args.at left erased c.requires.image.laid_out
          (omega (arith, c.requires.within)) told)
          (rw (c.slot_start-start.ensures, c.slot_length.ensures) at c.is_erased.ensures.ok);
      erases = at_any _ _ c.is_erased.ensures.erases;
      ends = c.is_erased.ensures.ends;
    }
