use Rattle.std.proofs.Common.{rules, ◌≡◌, ℕ, ◌+◌, ◌*◌, arith, ap, refl}
use Rattle.flash_model.specs.Chip.{Chip, Reads}
use Rattle.sector_map.specs.declared.layout.SectorMap.{SectorMap}
use Rattle.sector_map.specs.Map.{place_of_record}
use Rattle.set_log.specs.Layout.{flag}
use Rattle.set_log.specs.Places.{CanSetGate}
use Rattle.flash_model.specs.Units.{IsSet}
use Rattle.std.proofs.lemmas.Result.{on_ok_weaker}
use Rattle.sector_map.proofs.Parts.{laid_out_kept}
use Rattle.set_log.proofs.View.{IsAt, at_gate, at_inside, flash_erased, place_aligned, log_alone, log_same, log_set, log_reads}
use Rattle.set_log.proofs.places.set_gate.Goals as goal

-- the address of the gate
gate_at : (map : SectorMap) (chip : Chip) (sector place start : ℕ) → CanSetGate map sector place chip
    → start ≡ place_of_record map sector place
    → IsAt map (start + 56) (sector * map.sector_size + 64 * place + 56) 8
gate_at map chip sector place start can is =
    at_gate map (start + 56) sector place can.laid_out.is_map can.sector can.place (ap (λ a. a + 56) is)

pub set_unit-requires-clause-inside : goal.set_unit-requires-clause-inside
set_unit-requires-clause-inside g c =
    at_inside c.args.map.now _ _ _ 8 c.requires.laid_out (gate_at _ _ _ _ _ c.requires c.record_start.ensures)

pub set_unit-requires-clause-erased : goal.set_unit-requires-clause-erased
set_unit-requires-clause-erased g c =
    flash_erased c.args.map.now _ _ _ 8 c.requires.erased (gate_at _ _ _ _ _ c.requires c.record_start.ensures)

pub set_unit-requires-clause-place : goal.set_unit-requires-clause-place
set_unit-requires-clause-place g c =
    let aligned = place_aligned c.args.map.now c.args.sector c.args.place c.requires.laid_out.is_map in
    omega (arith, c.record_start.ensures, aligned)

pub returns : goal.returns
returns g c =
    let map = c.args.map.now in
    let here = gate_at _ _ _ _ _ c.requires c.record_start.ensures in
    let alone = log_alone map _ _ _ _ 8 c.requires.laid_out c.set_unit.ensures.outside here in
    record {
      outside = alone;
      within = log_same map _ _ _ _ 8 c.requires.laid_out c.set_unit.ensures.outside here;
      ok = on_ok_weaker c.set_unit.result
          (λ (set : IsSet (g.F.Flash.chip c.set_unit.new.flash) (c.record_start.result + 56)).
          log_set map _ _ _ (laid_out_kept map _ _ _ c.requires.laid_out alone) set here)
          c.set_unit.ensures.ok;
      flag = on_ok_weaker c.set_unit.result
          (λ (reads : Reads (g.F.Flash.chip c.set_unit.new.flash) (c.record_start.result + 56) flag).
          log_reads map _ _ _ 8 flag reads here refl)
          c.set_unit.ensures.flag;
      erases = search rules;
      journal = c.set_unit.ensures.journal;
      ends = search rules;
    }
