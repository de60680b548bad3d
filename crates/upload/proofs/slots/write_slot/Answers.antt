use Rattle.std.proofs.Common.{rules, ◌+◌, ◌<◌, length, arith, ap, refl, subst, sym}
use Rattle.std.proofs.lemmas.Bool.{eqb-true}
use Rattle.std.proofs.lemmas.List.{append-nil, nil_from_length}
use Rattle.std.proofs.lemmas.Result.{on_ok_weaker}
use Rattle.sector_map.specs.declared.layout.Side.TheVariants.{Secondary}
use Rattle.sector_map.specs.Part.{Slot}
use Rattle.sector_map.proofs.Parts.{keeps_refl}
use Rattle.sector_map.proofs.PartBytes.{keeps_write, range_inside}
use Rattle.flash_model.specs.Chip.{IsErased, SameOutside}
use Rattle.flash_model.proofs.Frame.{same_outside_refl}
use Rattle.flash_model.proofs.Ending.{ends_well, uncut_refl}
use Rattle.upload.proofs.Writing.{no_bytes, slot_aligned, written_more}
use Rattle.upload.proofs.slots.write_slot.Goals as goal

pub overflow_add-slot_start : goal.overflow_add-slot_start
overflow_add-slot_start g c =
    let some : 0 < length c.args.bytes.now = search rules in
    let inside = range_inside c.args.map.now (g.F.Flash.chip c.args.flash.now) (Slot c.args.image Secondary) c.args.at
    (length c.args.bytes.now) c.requires.behind.laid_out c.requires.behind.room some in
    omega (arith, inside, c.requires.behind.laid_out.size, c.slot_start.ensures)

pub program-requires-clause-inside : goal.program-requires-clause-inside
program-requires-clause-inside g c =
    let some : 0 < length c.args.bytes.now = search rules in
    let inside = range_inside c.args.map.now (g.F.Flash.chip c.args.flash.now) (Slot c.args.image Secondary) c.args.at
    (length c.args.bytes.now) c.requires.behind.laid_out c.requires.behind.room some in
    omega (arith, inside, c.slot_start.ensures)

pub program-requires-clause-erased : goal.program-requires-clause-erased
program-requires-clause-erased g c =
    subst (λ k. IsErased (g.F.Flash.chip c.args.flash.now) (k + c.args.at) (length c.args.bytes.now))
    (sym c.slot_start.ensures) c.requires.behind.erased

pub program-requires-clause-place : goal.program-requires-clause-place
program-requires-clause-place g c =
    let unit = slot_aligned c.args.map.now c.args.image c.args.at c.requires.behind.place.0 c.requires.behind.laid_out.is_map
    c.requires.behind.place.1 in
    omega (arith, unit, c.slot_start.ensures)

pub returns-then-is_empty : goal.returns-then-is_empty
returns-then-is_empty g c =
    let none = nil_from_length c.args.bytes.now (eqb-true _ 0 (sym c.if-is_empty.ensures)) in
    record {
      outside = keeps_refl _ _ _;
      range = same_outside_refl _ _ _;
      none = λ none. refl;
      ok = λ front long was. rw (none, append-nil) was;
      on = λ some. absurd (no_bytes c.args.bytes.now none some);
      erases = refl;
      journal = omega arith;
      ends = ends_well _ _ _ (uncut_refl _) (λ off. refl);
    }

pub returns : goal.returns
returns g c = record {
  outside = keeps_write c.args.map.now (Slot c.args.image Secondary) c.args.at (c.slot_start.result + c.args.at)
      (length c.args.bytes.now) (g.F.Flash.chip c.args.flash.now) (g.F.Flash.chip c.program.new.self)
      c.requires.behind.laid_out c.program.ensures.outside (ap (λ k. k + c.args.at) c.slot_start.ensures)
      c.requires.behind.room;
  range = subst (λ place. SameOutside (place + c.args.at) (length c.args.bytes.now) (g.F.Flash.chip c.args.flash.now)
      (g.F.Flash.chip c.program.new.self)) c.slot_start.ensures c.program.ensures.outside;
  none = λ none. absurd (no_bytes c.args.bytes.now none (search rules));
  ok = on_ok_weaker c.program.result (λ reads. λ front long was.
      written_more c.args.map.now (g.F.Flash.chip c.args.flash.now) (g.F.Flash.chip c.program.new.self) c.args.image
      c.args.at (c.slot_start.result + c.args.at) front c.args.bytes.now c.requires.behind.laid_out
      c.program.ensures.outside reads (ap (λ k. k + c.args.at) c.slot_start.ensures) c.requires.behind.room long was)
      c.program.ensures.ok;
  on = on_ok_weaker c.program.result (λ on some. on) c.program.ensures.on;
  erases = c.program.ensures.erases;
  journal = c.program.ensures.journal;
  ends = c.program.ensures.ends;
}
