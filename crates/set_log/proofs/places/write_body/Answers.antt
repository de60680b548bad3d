use Rattle.std.proofs.Common.{rules, arith, sym, subst}
use Rattle.flash_model.specs.Chip.{IsErased, Reads, SameOutside}
use Rattle.std.proofs.lemmas.Result.{on_ok_weaker}
use Rattle.set_log.proofs.View.{at_body, at_inside, flash_erased, place_aligned, log_alone, log_same, log_reads}
use Rattle.set_log.proofs.places.write_body.Goals as goal

pub program-requires-clause-inside : goal.program-requires-clause-inside
program-requires-clause-inside g c =
    let map = c.args.map.now in
    let here = at_body map c.record_start.result c.args.sector c.args.place c.requires.laid_out.is_map
    c.requires.sector c.requires.place c.record_start.ensures in
    omega (arith, at_inside map _ _ _ 56 c.requires.laid_out here, c.told-body)

pub program-requires-clause-erased : goal.program-requires-clause-erased
program-requires-clause-erased g c =
    let map = c.args.map.now in
    subst (λ n. IsErased (g.F.Flash.chip c.args.flash.now) c.record_start.result n) (sym c.told-body)
    (flash_erased map _ _ _ 56 c.requires.erased
    (at_body map _ c.args.sector c.args.place c.requires.laid_out.is_map c.requires.sector c.requires.place
    c.record_start.ensures))

pub program-requires-clause-place : goal.program-requires-clause-place
program-requires-clause-place g c = grind (arith, place_aligned)

pub returns : goal.returns
returns g c =
    let map = c.args.map.now in
    let here = at_body map c.record_start.result c.args.sector c.args.place c.requires.laid_out.is_map
    c.requires.sector c.requires.place c.record_start.ensures in
    let same = subst (λ n. SameOutside c.record_start.result n (g.F.Flash.chip c.args.flash.now)
    (g.F.Flash.chip c.program.new.self)) c.told-body c.program.ensures.outside in
    record {
      outside = log_alone map _ _ _ _ 56 c.requires.laid_out same here;
      within = log_same map _ _ _ _ 56 c.requires.laid_out same here;
      ok = on_ok_weaker c.program.result
          (λ (reads : Reads (g.F.Flash.chip c.program.new.self) c.record_start.result c.args.body.now).
          log_reads map _ _ _ 56 _ reads here c.told-body)
          c.program.ensures.ok;
      erases = search rules;
      journal = omega (arith, c.program.ensures.journal, c.told-body);
      ends = search rules;
    }
