use Rattle.std.proofs.Common.{rules, arith, ap, sym, ◌∙◌, ◌≡◌}
use Rattle.sector_map.specs.Map.{slot_sectors}
use Rattle.swap_scratch.specs.Used.{sectors_for, used_of}
use Rattle.trailer.proofs.FailedCalls.{refuses_first}
use Rattle.swap_scratch.proofs.Sizes.{used_is, used_within}
use Rattle.swap_scratch.proofs.used.used_sectors.Goals as goal

pub returns : goal.returns
returns g c =
    let read : c.sectors_for.result
    ≡ used_of c.args.map.now (g.F.Flash.chip c.args.flash.now) c.args.side c.args.image =
    c.sectors_for.ensures
    ∙ ap (λ size. sectors_for (slot_sectors c.args.map.now c.args.image) c.args.map.now.sector_size size)
    c.in_ok-size.ensures.ok
    ∙ sym (used_is c.args.map.now (g.F.Flash.chip c.args.flash.now) c.args.side c.args.image) in
    record {
      same = search rules;
      ok = read;
      few = omega (
        arith,
        read,
        used_within c.args.map.now (g.F.Flash.chip c.args.flash.now) c.args.side c.args.image
            c.requires.image.laid_out.is_map,
      );
      erases = search rules;
      off = refuses_first _ _ _ c.in_ok-size.ensures.off;
      ends = search rules;
    }
