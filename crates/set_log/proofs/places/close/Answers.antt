use Rattle.std.proofs.Common.{rules, arith, refl}
use Rattle.flash_model.specs.Chip.{Reads}
use Rattle.set_log.specs.Layout.{flag}
use Rattle.flash_model.specs.Units.{IsSet}
use Rattle.std.proofs.lemmas.Result.{on_ok_weaker}
use Rattle.sector_map.proofs.Parts.{laid_out_kept}
use Rattle.set_log.proofs.View.{at_closing, flash_erased_of, unit_aligned, log_alone, log_same, log_set, log_reads, open_reads, closed_by}
use Rattle.set_log.proofs.places.close.Goals as goal

pub set_unit-requires-clause-erased : goal.set_unit-requires-clause-erased
set_unit-requires-clause-erased g c =
    let map = c.args.map.now in
    flash_erased_of map _ _ _ 8 c.requires.laid_out (open_reads _ _ _ c.requires.stays_open)
    (at_closing map _ c.args.sector c.requires.laid_out.is_map c.requires.sector c.closing_unit.ensures)

pub set_unit-requires-clause-place : goal.set_unit-requires-clause-place
set_unit-requires-clause-place g c =
    omega (
      arith,
      c.closing_unit.ensures,
      unit_aligned c.args.map.now c.args.sector c.requires.laid_out.is_map,
    )

pub returns : goal.returns
returns g c =
    let map = c.args.map.now in
    let here = at_closing map c.closing_unit.result c.args.sector c.requires.laid_out.is_map c.requires.sector
    c.closing_unit.ensures in
    let alone = log_alone map _ _ _ _ 8 c.requires.laid_out c.set_unit.ensures.outside here in
    record {
      outside = alone;
      within = log_same map _ _ _ _ 8 c.requires.laid_out c.set_unit.ensures.outside here;
      ok = on_ok_weaker c.set_unit.result
          (λ (set : IsSet (g.F.Flash.chip c.set_unit.new.flash) c.closing_unit.result). closed_by _ _ _
          (log_set map _ _ _ (laid_out_kept map _ _ _ c.requires.laid_out alone) set here))
          c.set_unit.ensures.ok;
      flag = on_ok_weaker c.set_unit.result
          (λ (reads : Reads (g.F.Flash.chip c.set_unit.new.flash) c.closing_unit.result flag).
          log_reads map _ _ _ 8 flag reads here refl)
          c.set_unit.ensures.flag;
      erases = search rules;
      journal = c.set_unit.ensures.journal;
      ends = search rules;
    }
