use Rattle.std.proofs.Common.{rules, ◌≡◌, ◌+◌, ◌-◌, ◌<◌, length, length-append, arith, ◌∙◌, ap, subst}
use Rattle.std.proofs.lemmas.Result.{on_ok_weaker}
use Rattle.flash_model.specs.Chip.{SameOutside}
use Rattle.flash_model.proofs.Erased.{erased_narrower}
use Rattle.sector_map.specs.declared.layout.Side.TheVariants.{Secondary}
use Rattle.sector_map.specs.Part.{Slot}
use Rattle.sector_map.specs.Map.{start_of}
use Rattle.upload.proofs.Writing.{length_filler, no_bytes, slot_units, written_less}
use Rattle.upload.proofs.finishing.write_last.Goals as goal

pub write_slot-requires-clause-units : goal.write_slot-requires-clause-units
write_slot-requires-clause-units g c =
    let m = ap length (c.as_slice.ensures.value ∙ c.fill.ensures) ∙ length-append c.args.unit.items _ in
    let n = length_filler (8 - length c.args.unit.items) in
    (1, omega (arith, m, n, c.requires.few))

pub write_slot-requires-clause-behind : goal.write_slot-requires-clause-behind
write_slot-requires-clause-behind g c =
    let before = c.requires.behind in
    let m = ap length (c.as_slice.ensures.value ∙ c.fill.ensures) ∙ length-append c.args.unit.items _ in
    let n = length_filler (8 - length c.args.unit.items) in
    let some : 0 < length c.args.unit.items = search rules in
    let whole = slot_units c.args.map.now c.args.image before.laid_out.is_map in
    record {
      laid_out = before.laid_out;
      there = before.there;
      place = before.place;
      room = omega (arith, m, n, c.requires.few, whole.1, before.place.1, before.room, some);
      erased = erased_narrower (g.F.Flash.chip c.args.flash.now) _ 8 _ _ (c.requires.whole some) (omega arith)
          (omega (arith, m, n, c.requires.few));
    }

pub returns : goal.returns
returns g c =
    let m = ap length (c.as_slice.ensures.value ∙ c.fill.ensures) ∙ length-append c.args.unit.items _ in
    let n = length_filler (8 - length c.args.unit.items) in
    let some : 0 < length c.args.unit.items = search rules in
    let whole : length c.as_slice.result.now ≡ 8 = omega (arith, m, n, c.requires.few) in
    record {
      outside = c.write_slot.ensures.outside;
      range = subst (λ n. SameOutside (start_of c.args.map.now (Slot c.args.image Secondary) + c.args.start) n
          (g.F.Flash.chip c.args.flash.now) (g.F.Flash.chip c.write_slot.new.flash)) whole c.write_slot.ensures.range;
      none = λ none. absurd (no_bytes c.args.unit.items none some);
      ok = on_ok_weaker c.write_slot.result (λ ok. λ front long written.
          written_less _ front c.args.unit.items _ (8 - length c.args.unit.items)
          (c.as_slice.ensures.value ∙ c.fill.ensures)
          (ok front long written)) c.write_slot.ensures.ok;
      on = on_ok_weaker c.write_slot.result (λ on. λ some. on (omega (arith, whole))) c.write_slot.ensures.on;
      erases = c.write_slot.ensures.erases;
      journal = omega (arith, whole, c.write_slot.ensures.journal);
      ends = c.write_slot.ensures.ends;
    }
