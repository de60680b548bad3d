use Rattle.std.proofs.Common.{None, Some, refl, sym, ap, arith, ◌∙◌, ◌≤◌, ◌+◌, ◌-◌, ◌^◌, length}
use Rattle.std.proofs.lemmas.List.{take_at}
use Rattle.std.proofs.lemmas.Bool.{false≢true}
use Rattle.flash_model.proofs.MemoryLaws.{none_behind, same_memory, torn_for_next, writes_done, writes_cut}
use Rattle.flash_model.proofs.Ending.{ends_cut, ends_well}
use Rattle.flash_model.proofs.Reached.{reached_armed, reached_unarmed}
use Rattle.flash_model.proofs.TornBytes.{items_after, length-replaced, length-torn_at, outside_of_replaced, outside_of_torn, reads_of_replaced}
use Rattle.flash_model.specs.Chip.{unarmed}
use Rattle.flash_model.specs.Memory.{chip_of}
use Rattle.flash_model.proofs.WrittenLaws.{program_taken, written_armed}
use Rattle.flash_model.proofs.memory.MemFlashFlash.program.Goals as goal

pub returns-in-None-clause-chip : goal.returns-in-None-clause-chip
returns-in-None-clause-chip g c =
    let inside : c.args.at + length c.args.bytes.now ≤ length c.args.self.now.bytes.items =
    rw c.args.self.now.whole c.requires.inside in
    record {
      outside = outside_of_replaced _ _ _ _ _ refl inside
          (items_after _ _ _ _ (rw c.deref_mut.ensures.value at c.put.ensures.bytes) (length-replaced _ _ _ inside)
          (sym c.args.self.now.bytes.ok.0)) refl refl refl;
      ok = reads_of_replaced _ _ _ _ inside
          (items_after _ _ _ _ (rw c.deref_mut.ensures.value at c.put.ensures.bytes) (length-replaced _ _ _ inside)
          (sym c.args.self.now.bytes.ok.0));
      on = c.if-not-self.false;
      erases = refl;
      journal = omega arith;
      ends = ends_well _ _ _ (record { on = refl; cuts = refl })
          (λ off. absurd (false≢true (sym off ∙ c.if-not-self.false)));
    }

pub returns-in-None-clause-memory : goal.returns-in-None-clause-memory
returns-in-None-clause-memory g c =
    let inside : c.args.at + length c.args.bytes.now ≤ length c.args.self.now.bytes.items =
    rw c.args.self.now.whole c.requires.inside in
    writes_done _ _ _ _ _ c.if-not-self.false
    (sym (torn_for_next _ _ _ c.args.self.now.armed_below c.saturating_add-self.ensures)
    ∙ sym (rw c.deref.ensures.value at c.in-None.ensures))
    (same_memory _ _ _ _ _ _ _ _ _ _ _ _ _
    (items_after _ _ _ _ (rw c.deref_mut.ensures.value at c.put.ensures.bytes) (length-replaced _ _ _ inside) (sym c.args.self.now.bytes.ok.0))
    refl refl c.saturating_add-self.ensures)

pub returns-in-Some-clause-chip : goal.returns-in-Some-clause-chip
returns-in-Some-clause-chip g c =
    let inside : c.args.at + length c.args.bytes.now ≤ length c.args.self.now.bytes.items =
    rw c.args.self.now.whole c.requires.inside in
    record {
      outside = outside_of_torn c.in-Some.torn.now _ _ _ _ _ refl inside
          (items_after _ _ _ _ (rw c.deref_mut-in-Some.ensures.value at c.tear_program.ensures.bytes)
          (length-torn_at c.in-Some.torn.now _ _ _ inside) (sym c.args.self.now.bytes.ok.0))
          refl refl refl;
      ok = tt;
      on = tt;
      erases = refl;
      journal = omega arith;
      ends = ends_cut c.if-not-self.false c.add.ensures.amount refl;
    }

pub returns-in-Some-clause-memory : goal.returns-in-Some-clause-memory
returns-in-Some-clause-memory g c =
    let flash = c.args.self.now in
    let inside : c.args.at + length c.args.bytes.now ≤ length flash.bytes.items = rw flash.whole c.requires.inside in
    writes_cut _ _ c.in-Some.torn.now _ _ _ c.if-not-self.false
    (sym (torn_for_next flash.armed.items flash.writes c.saturating_add-self.result flash.armed_below
    c.saturating_add-self.ensures) ∙ sym (rw c.deref.ensures.value at c.in-Some.ensures))
    (same_memory flash.sector_size flash.sectors _ flash.armed.items _ _ _ _ _ _ _ _ _
    (items_after _ _ _ _ (rw c.deref_mut-in-Some.ensures.value at c.tear_program.ensures.bytes)
    (length-torn_at c.in-Some.torn.now _ _ _ inside) (sym c.args.self.now.bytes.ok.0))
    c.add.ensures.amount refl c.saturating_add-self.ensures)

pub invariant_of-self-clause-are_bytes : goal.invariant_of-self-clause-are_bytes
invariant_of-self-clause-are_bytes g c k =
    rw (take_at _ _ _ (c.put.auto.all ∙ c.deref_mut.ensures.len)) (c.put.ensures.are_bytes k)

pub invariant_of-self-in-Some-clause-are_bytes : goal.invariant_of-self-in-Some-clause-are_bytes
invariant_of-self-in-Some-clause-are_bytes g c k =
    rw (take_at _ _ _ (c.tear_program.auto.all ∙ c.deref_mut-in-Some.ensures.len)) (c.tear_program.ensures.are_bytes k)

pub invariant_of-self-clause-cut_as_armed : goal.invariant_of-self-clause-cut_as_armed
invariant_of-self-clause-cut_as_armed g c =
    let flash = c.args.self.now in
    flash.cut_as_armed
    ∙ sym (reached_unarmed flash.armed.items flash.writes _ flash.fits c.saturating_add-self.ensures
    (sym (rw c.deref.ensures.value at c.in-None.ensures)))

pub invariant_of-self-in-Some-clause-cut_as_armed : goal.invariant_of-self-in-Some-clause-cut_as_armed
invariant_of-self-in-Some-clause-cut_as_armed g c =
    let flash = c.args.self.now in
    c.add.ensures.amount ∙ ap (λ n. n + 1) flash.cut_as_armed
    ∙ sym (reached_armed flash.armed.items flash.writes _ c.in-Some.torn.now c.saturating_add-self.ensures
    (λ past. none_behind flash.armed.items (2 ^ 64 - 1) _ flash.armed_below past)
    (sym (rw c.deref.ensures.value at c.in-Some.ensures)))

pub invariant_of-self-clause-written : goal.invariant_of-self-clause-written
invariant_of-self-clause-written g c =
    let flash = c.args.self.now in
    let inside : c.args.at + length c.args.bytes.now ≤ length flash.bytes.items = rw flash.whole c.requires.inside in
    written_armed flash.armed.items (record unarmed { first = flash.origin.first }) _ _ c.args.bytes.now
    flash.bytes.items _ flash.writes _ None (program_taken _ _ (chip_of flash) _ flash.whole c.requires) flash.armed_below
    c.saturating_add-self.ensures (sym (rw c.deref.ensures.value at c.in-None.ensures))
    (items_after _ _ _ _ (rw c.deref_mut.ensures.value at c.put.ensures.bytes) (length-replaced _ _ _ inside)
    (sym flash.bytes.ok.0)) flash.written

pub invariant_of-self-in-Some-clause-written : goal.invariant_of-self-in-Some-clause-written
invariant_of-self-in-Some-clause-written g c =
    let flash = c.args.self.now in
    let inside : c.args.at + length c.args.bytes.now ≤ length flash.bytes.items = rw flash.whole c.requires.inside in
    written_armed flash.armed.items (record unarmed { first = flash.origin.first }) _ _ c.args.bytes.now
    flash.bytes.items _ flash.writes _ (Some c.in-Some.torn.now)
    (program_taken _ _ (chip_of flash) _ flash.whole c.requires) flash.armed_below
    c.saturating_add-self.ensures (sym (rw c.deref.ensures.value at c.in-Some.ensures))
    (items_after _ _ _ _ (rw c.deref_mut-in-Some.ensures.value at c.tear_program.ensures.bytes)
    (length-torn_at c.in-Some.torn.now _ _ _ inside) (sym flash.bytes.ok.0)) flash.written
