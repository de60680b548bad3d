use Rattle.std.proofs.Common.{rules}
use Rattle.trailer.proofs.Marks.{erased_whole}
use Rattle.trailer.proofs.settling.make_whole.Goals as goal

pub returns : goal.returns
returns g c = record {
  outside = search rules;
  ok = erased_whole c.args.map.now _ c.args.image c.args.side _ c.in_ok-erase_trailer.ensures.bytes;
  back = search rules;
  erases = search rules;
  spares = search rules;
  must = search rules;
  journal = search rules;
  ends = search rules;
}
