use Rattle.std.proofs.Common.{None, Some, replicate, ℕ, ◌^◌, ◌-◌, ◌+◌, ◌*◌, ◌≤◌, length, arith, refl, sym, ap, ◌∙◌}
use Rattle.std.proofs.lemmas.List.{length-replicate, take_at}
use Rattle.std.proofs.lemmas.Bool.{false≢true}
use Rattle.flash_model.proofs.Ending.{ends_cut, ends_well}
use Rattle.flash_model.proofs.MemoryLaws.{none_behind, same_memory, torn_for_next, writes_done, writes_cut}
use Rattle.flash_model.proofs.Reached.{reached_armed, reached_unarmed}
use Rattle.flash_model.proofs.TornBytes.{blank_inside, items_after, erased_of_replaced, items_after_torn_blank, length-replaced, outside_of_replaced, outside_of_torn}
use Rattle.flash_model.specs.Chip.{unarmed}
use Rattle.flash_model.proofs.WrittenLaws.{erase_taken, written_armed}
use Rattle.flash_model.proofs.memory.MemFlashFlash.erase.Goals as goal

pub returns-in-None-clause-chip : goal.returns-in-None-clause-chip
returns-in-None-clause-chip g c =
    let flash = c.args.self.now in
    let inside = blank_inside c.args.sector flash.sectors flash.sector_size flash.bytes.items c.requires flash.whole in
    let long = length-replicate {A = ℕ} flash.sector_size 255 in
    let within : c.args.sector * flash.sector_size + flash.sector_size ≤ length flash.bytes.items =
    omega (arith, inside, long) in
    record {
      outside = outside_of_replaced _ _ _ _ _ long within
          (items_after _ _ _ _ (rw c.deref_mut.ensures.value at c.blank.ensures.bytes) (length-replaced _ _ _ inside)
          (sym flash.bytes.ok.0)) refl refl refl;
      ok = erased_of_replaced _ _ _ _ inside
          (items_after _ _ _ _ (rw c.deref_mut.ensures.value at c.blank.ensures.bytes) (length-replaced _ _ _ inside)
          (sym flash.bytes.ok.0));
      on = c.if-not-self.false;
      erases = c.add.ensures.amount;
      uncounted = tt;
      journal = omega arith;
      ends = ends_well _ _ _ (record { on = refl; cuts = refl })
          (λ off. absurd (false≢true (sym off ∙ c.if-not-self.false)));
    }

pub returns-in-None-clause-memory : goal.returns-in-None-clause-memory
returns-in-None-clause-memory g c =
    let flash = c.args.self.now in
    let inside = blank_inside c.args.sector flash.sectors flash.sector_size flash.bytes.items c.requires flash.whole in
    writes_done _ _ _ _ _ c.if-not-self.false
    (sym (torn_for_next flash.armed.items flash.writes c.saturating_add-self.result flash.armed_below
    c.saturating_add-self.ensures)
    ∙ sym (rw c.deref.ensures.value at c.in-None.ensures))
    (same_memory _ _ _ _ _ _ _ _ _ _ _ _ _
    (items_after _ _ _ _ (rw c.deref_mut.ensures.value at c.blank.ensures.bytes) (length-replaced _ _ _ inside) (sym flash.bytes.ok.0))
    refl c.add.ensures.amount c.saturating_add-self.ensures)

pub returns-in-Some-clause-chip : goal.returns-in-Some-clause-chip
returns-in-Some-clause-chip g c =
    let flash = c.args.self.now in
    let inside = blank_inside c.args.sector flash.sectors flash.sector_size flash.bytes.items c.requires flash.whole in
    record {
      outside = outside_of_torn c.in-Some.torn.now _ _ _ _ _ (length-replicate {A = ℕ} flash.sector_size 255) inside
          (items_after_torn_blank c.in-Some.torn.now _ _ _ _ _
          (rw c.deref_mut-in-Some.ensures.value at c.tear_erase.ensures.bytes) inside (sym flash.bytes.ok.0))
          refl refl refl;
      ok = tt;
      on = tt;
      erases = tt;
      uncounted = refl;
      journal = omega arith;
      ends = ends_cut c.if-not-self.false c.add-in-Some.ensures.amount refl;
    }

pub returns-in-Some-clause-memory : goal.returns-in-Some-clause-memory
returns-in-Some-clause-memory g c =
    let flash = c.args.self.now in
    let inside = blank_inside c.args.sector flash.sectors flash.sector_size flash.bytes.items c.requires flash.whole in
    writes_cut _ _ c.in-Some.torn.now _ _ _ c.if-not-self.false
    (sym (torn_for_next flash.armed.items flash.writes c.saturating_add-self.result flash.armed_below
    c.saturating_add-self.ensures) ∙ sym (rw c.deref.ensures.value at c.in-Some.ensures))
    (same_memory _ _ _ _ _ _ _ _ _ _ _ _ _
    (items_after_torn_blank c.in-Some.torn.now _ _ _ _ _
    (rw c.deref_mut-in-Some.ensures.value at c.tear_erase.ensures.bytes) inside (sym flash.bytes.ok.0))
    c.add-in-Some.ensures.amount refl c.saturating_add-self.ensures)

pub invariant_of-self-clause-are_bytes : goal.invariant_of-self-clause-are_bytes
invariant_of-self-clause-are_bytes g c k =
    rw (take_at _ _ _ (c.blank.auto.all ∙ c.deref_mut.ensures.len)) (c.blank.ensures.are_bytes k)

pub invariant_of-self-in-Some-clause-are_bytes : goal.invariant_of-self-in-Some-clause-are_bytes
invariant_of-self-in-Some-clause-are_bytes g c k =
    rw (take_at _ _ _ (c.tear_erase.auto.all ∙ c.deref_mut-in-Some.ensures.len)) (c.tear_erase.ensures.are_bytes k)

pub invariant_of-self-clause-cut_as_armed : goal.invariant_of-self-clause-cut_as_armed
invariant_of-self-clause-cut_as_armed g c =
    let flash = c.args.self.now in
    flash.cut_as_armed
    ∙ sym (reached_unarmed flash.armed.items flash.writes _ flash.fits c.saturating_add-self.ensures
    (sym (rw c.deref.ensures.value at c.in-None.ensures)))

pub invariant_of-self-in-Some-clause-cut_as_armed : goal.invariant_of-self-in-Some-clause-cut_as_armed
invariant_of-self-in-Some-clause-cut_as_armed g c =
    let flash = c.args.self.now in
    c.add-in-Some.ensures.amount ∙ ap (λ n. n + 1) flash.cut_as_armed
    ∙ sym (reached_armed flash.armed.items flash.writes _ c.in-Some.torn.now c.saturating_add-self.ensures
    (λ past. none_behind flash.armed.items (2 ^ 64 - 1) _ flash.armed_below past)
    (sym (rw c.deref.ensures.value at c.in-Some.ensures)))

pub invariant_of-self-clause-written : goal.invariant_of-self-clause-written
invariant_of-self-clause-written g c =
    let flash = c.args.self.now in
    let inside = blank_inside c.args.sector flash.sectors flash.sector_size flash.bytes.items c.requires flash.whole in
    written_armed flash.armed.items (record unarmed { first = flash.origin.first }) _ _ (replicate flash.sector_size 255)
    flash.bytes.items _ flash.writes _ None
    (erase_taken c.args.sector flash.sectors flash.sector_size flash.bytes.items c.requires flash.whole) flash.armed_below
    c.saturating_add-self.ensures (sym (rw c.deref.ensures.value at c.in-None.ensures))
    (items_after _ _ _ _ (rw c.deref_mut.ensures.value at c.blank.ensures.bytes) (length-replaced _ _ _ inside)
    (sym flash.bytes.ok.0)) flash.written

pub invariant_of-self-in-Some-clause-written : goal.invariant_of-self-in-Some-clause-written
invariant_of-self-in-Some-clause-written g c =
    let flash = c.args.self.now in
    let inside = blank_inside c.args.sector flash.sectors flash.sector_size flash.bytes.items c.requires flash.whole in
    written_armed flash.armed.items (record unarmed { first = flash.origin.first }) _ _ (replicate flash.sector_size 255)
    flash.bytes.items _ flash.writes _ (Some c.in-Some.torn.now)
    (erase_taken c.args.sector flash.sectors flash.sector_size flash.bytes.items c.requires flash.whole) flash.armed_below
    c.saturating_add-self.ensures (sym (rw c.deref.ensures.value at c.in-Some.ensures))
    (items_after_torn_blank c.in-Some.torn.now _ _ _ _ _
    (rw c.deref_mut-in-Some.ensures.value at c.tear_erase.ensures.bytes) inside (sym flash.bytes.ok.0)) flash.written
