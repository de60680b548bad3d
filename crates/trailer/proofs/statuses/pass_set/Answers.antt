use Rattle.std.proofs.Common.{◌≡◌, ◌+◌, ◌*◌, arith, rules, true}
use Rattle.sector_map.specs.Map.{slot_sectors}
use Rattle.trailer.specs.Fields.{trailer_bytes}
use Rattle.trailer.specs.Status.{is_block_set}
use Rattle.trailer.proofs.StatusUnits.{passed_block}
use Rattle.trailer.proofs.statuses.pass_set.Goals as goal

pub loop-block-preserved : goal.loop-block-preserved
loop-block-preserved g c =
    let map = c.args.map.now in
    let bytes = trailer_bytes map (g.F.Flash.chip c.args.flash.now) c.args.image c.args.side in
    let from = c.args.known + 8 * c.loop-block.block in
    let all : is_block_set bytes from ≡ true = search rules in
    record {
      same = search rules;
      set = omega (
        arith,
        passed_block bytes (3 * slot_sectors map c.args.image) from c.loop-block.invariant.set (omega arith) all,
      );
      on = search rules;
    }
