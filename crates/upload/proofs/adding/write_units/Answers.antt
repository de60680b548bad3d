use Rattle.std.proofs.Common.{◌≡◌, ◌+◌, ◌-◌, ◌*◌, ◌++◌, ◌<◌, ◌≤◌, ℕ, length, List, arith, refl, sym, ◌∙◌, ap, subst, take, drop, length-append}
use Rattle.std.proofs.lemmas.List.{take-append-drop}
use Rattle.sector_map.specs.declared.layout.Side.TheVariants.{Secondary}
use Rattle.flash_model.specs.Chip.{Chip, SameOutside}
use Rattle.flash_model.proofs.Erased.{erased_after, erased_narrower}
use Rattle.flash_model.proofs.Frame.{same_outside_trans, same_outside_wider}
use Rattle.sector_map.specs.Map.{start_of}
use Rattle.sector_map.specs.Part.{Slot, only}
use Rattle.sector_map.proofs.Parts.{keeps_trans, laid_out_kept}
use Rattle.trailer.specs.Standing.{incoming_slot}
use Rattle.upload.specs.Sessions.{IsWritten}
use Rattle.upload.specs.declared.sessions.Upload.{Upload}
use Rattle.upload.proofs.Views.{view_kept, long_kept}
use Rattle.upload.proofs.Added.{IsHeld, added}
use Rattle.flash_model.proofs.Ending.{asleep_trans, ends_after, ends_well, uncut_trans}
use Rattle.upload.proofs.Ends.{err_passed}
use Rattle.upload.proofs.adding.write_units.Goals as goal

whole : (l a b : List ℕ) (n : ℕ) → a ≡ take n l → b ≡ drop n l → l ≡ a ++ b
whole l a b n first second =
    sym (take-append-drop n l) ∙ ap (λ x. x ++ drop n l) (sym first) ∙ ap (λ x. a ++ x) (sym second)

units_range : (base start a b total : ℕ) (old mid new : Chip) → SameOutside (base + start) a old mid
    → SameOutside (base + (start + 8)) b mid new → a ≡ 8 → 8 + b ≤ total → SameOutside (base + start) total old new
units_range base start a b total old mid new first second eight fits =
    same_outside_trans (base + start) total old mid new
    (same_outside_wider (base + start) a (base + start) total old mid first (omega arith) (omega (arith, eight, fits)))
    (same_outside_wider (base + (start + 8)) b (base + start) total mid new second (omega arith) (omega (arith, fits)))

written_range : (base received held k a b total : ℕ) (old mid new : Chip) → k ≡ held
    → SameOutside (base + (received - k)) a old mid → SameOutside (base + (received - k + 8)) b mid new
    → a ≡ 8 → 8 + b ≤ total → SameOutside (base + (received - held)) total old new
written_range base received held k a b total old mid new is first second eight fits = subst
    (λ n. SameOutside (base + (received - n)) total old new) is
    (units_range base (received - k) a b total old mid new first second eight fits)

-- The unit that the first bytes complete.
unit_long : (held first unit : List ℕ) (k : ℕ) → unit ≡ held ++ first → k ≡ length held → length first ≡ 8 - k
    → length held < 8 → length unit ≡ 8
unit_long held first unit k is count long few =
    omega (arith, ap length is, length-append held first, count, long, few)

-- This unit and those after it are no longer than the held bytes and the new ones.
units_fit : (held bytes rest units last k w : ℕ) → k ≡ held → held < 8 → rest + (8 - k) ≡ bytes → units ≡ w
    → last + w ≡ rest → 8 + units ≤ held + bytes
units_fit held bytes rest units last k w count few back front last_is =
    omega (arith, count, few, back, front, last_is)

pub write_slot-requires-clause-units : goal.write_slot-requires-clause-units
write_slot-requires-clause-units g c =
    let was = c.requires.room.counts in
    let unit = c.as_slice.ensures.value ∙ c.extend.ensures
    ∙ ap (λ v. v.items ++ c.split_at.result.0.now) c.take-unit.ensures.value in
    (1, unit_long _ _ _ _ unit c.len-2.ensures.value c.split_at.ensures.front_len was.few)

pub write_slot-requires-clause-behind : goal.write_slot-requires-clause-behind
write_slot-requires-clause-behind g c =
    let was = c.requires.room.counts in
    let unit = c.as_slice.ensures.value ∙ c.extend.ensures
    ∙ ap (λ v. v.items ++ c.split_at.result.0.now) c.take-unit.ensures.value in
    let full = unit_long _ _ _ _ unit c.len-2.ensures.value c.split_at.ensures.front_len was.few in
    let n = c.len.ensures.value in
    record {
      laid_out = c.requires.room.laid_out;
      there = was.there;
      place = (was.units.0, omega (arith, was.units.1, n, was.count));
      room = omega (arith, full, n, was.count, was.room, c.requires.room.fits, c.requires.enough);
      erased = erased_narrower (g.F.Flash.chip c.args.flash.now) _ (8 * 1) _ _
          (c.requires.room.erased 1 (omega (arith, c.requires.enough))) (omega (arith, n, was.count))
          (omega (arith, full, n, was.count));
    }

pub write_slot-requires-2-clause-behind : goal.write_slot-requires-2-clause-behind
write_slot-requires-2-clause-behind g c =
    let was = c.requires.room.counts in
    let unit = c.as_slice.ensures.value ∙ c.extend.ensures
    ∙ ap (λ v. v.items ++ c.split_at.result.0.now) c.take-unit.ensures.value in
    let full = unit_long _ _ _ _ unit c.len-2.ensures.value c.split_at.ensures.front_len was.few in
    let fits = units_fit _ _ _ _ _ _ _ c.len-2.ensures.value was.few c.split_at.ensures.back_len
    c.split_at-2.ensures.front_len c.split_at-2.ensures.back_len in
    let n = c.len.ensures.value in
    let base = start_of c.args.map.now (Slot c.args.image Secondary) in
    let k = c.whole_units.ensures.units in
    let units : length c.split_at-2.result.0.now ≡ 8 * k.0 = c.split_at-2.ensures.front_len ∙ k.1 in
    record {
      laid_out = laid_out_kept c.args.map.now (only (Slot c.args.image Secondary)) _
          (g.F.Flash.chip c.write_slot.new.flash) c.requires.room.laid_out c.write_slot.ensures.outside;
      there = was.there;
      place = (was.units.0 + 1, omega (arith, was.units.1, n, was.count));
      room = omega (arith, fits, n, was.count, was.room, c.requires.room.fits);
      erased = erased_after _ _ (8 * (k.0 + 1)) (base + (c.args.upload.now.received - c.len.result)) _
          (g.F.Flash.chip c.args.flash.now) (g.F.Flash.chip c.write_slot.new.flash)
          (erased_narrower (g.F.Flash.chip c.args.flash.now) _ (8 * (k.0 + 1)) _ _
          (c.requires.room.erased (k.0 + 1) (omega (arith, fits, units))) (omega (arith, n, was.count))
          (omega (arith, n, was.count)))
          c.write_slot.ensures.range (omega (arith, full)) (omega (arith, units));
    }

pub returns-in_err-write_slot : goal.returns-in_err-write_slot
returns-in_err-write_slot g c =
    let unit = c.as_slice.ensures.value ∙ c.extend.ensures
    ∙ ap (λ v. v.items ++ c.split_at.result.0.now) c.take-unit.ensures.value in
    let full =
    unit_long _ _ _ _ unit c.len-2.ensures.value c.split_at.ensures.front_len c.requires.room.counts.few in
    rw (err_passed _ _ c.from_residual.ensures.1) (record {
      outside = c.write_slot.ensures.outside;
      range = subst (λ k. SameOutside (start_of c.args.map.now (Slot c.args.image Secondary)
          + (c.args.upload.now.received - k)) (length c.args.upload.now.held.items + length c.args.bytes.now)
          (g.F.Flash.chip c.args.flash.now) (g.F.Flash.chip c.write_slot.new.flash)) c.len.ensures.value
          (same_outside_wider _ _ _ _ _ _ c.write_slot.ensures.range (omega arith)
          (omega (arith, full, c.requires.enough)));
      ok = tt;
      erases = tt;
      held = λ few. absurd (let enough = c.requires.enough in omega (arith, few, enough));
      on = tt;
      journal = omega (arith, full, c.write_slot.ensures.journal);
      ends = c.in_err-write_slot.ensures.ends;
    })

pub returns-in_err-write_slot-2 : goal.returns-in_err-write_slot-2
returns-in_err-write_slot-2 g c =
    let first = c.in_ok-write_slot.ensures.ends in
    let was = c.requires.room.counts in
    let unit = c.as_slice.ensures.value ∙ c.extend.ensures
    ∙ ap (λ v. v.items ++ c.split_at.result.0.now) c.take-unit.ensures.value in
    let full = unit_long _ _ _ _ unit c.len-2.ensures.value c.split_at.ensures.front_len was.few in
    rw (err_passed _ _ c.from_residual-in_err-write_slot-2.ensures.1) (record {
      outside = keeps_trans c.args.map.now (only (Slot c.args.image Secondary)) _ _ _ c.write_slot.ensures.outside
          c.write_slot-2.ensures.outside;
      range = written_range _ _ _ _ _ _ _ _ _ _ c.len.ensures.value c.write_slot.ensures.range
          c.write_slot-2.ensures.range full (units_fit _ _ _ _ _ _ _ c.len-2.ensures.value was.few
          c.split_at.ensures.back_len c.split_at-2.ensures.front_len c.split_at-2.ensures.back_len);
      ok = tt;
      erases = tt;
      held = λ few. absurd (let enough = c.requires.enough in omega (arith, few, enough));
      on = tt;
      journal = omega (
        arith,
        full,
        was.few,
        units_fit _ _ _ _ _ _ _ c.len-2.ensures.value was.few c.split_at.ensures.back_len
            c.split_at-2.ensures.front_len c.split_at-2.ensures.back_len,
        c.write_slot.ensures.journal,
        c.write_slot-2.ensures.journal,
      );
      ends = ends_after _ _ (g.F.Flash.chip c.write_slot.new.flash) _ first.uncut first.asleep
          c.in_err-write_slot-2.ensures.ends;
    })

pub returns : goal.returns
returns g c =
    let map = c.args.map.now in
    let first = c.write_slot.ensures.outside in
    let second = c.write_slot-2.ensures.outside in
    let laid = laid_out_kept map (only (Slot c.args.image Secondary)) _ (g.F.Flash.chip c.write_slot.new.flash)
    c.requires.room.laid_out first in
    let was = c.requires.room.counts in
    let n = c.len.ensures.value in
    let n2 = c.len-2.ensures.value in
    let one = c.in_ok-write_slot.ensures.ends in
    let two = c.in_ok-write_slot-2.ensures.ends in
    let h = ap (λ v. v.items) c.take-unit.ensures.value in
    let unit = c.as_slice.ensures.value ∙ c.extend.ensures ∙ ap (λ l. l ++ c.split_at.result.0.now) h in
    let full = unit_long _ _ _ _ unit n2 c.split_at.ensures.front_len was.few in
    let fits = units_fit _ _ _ _ _ _ _ n2 was.few c.split_at.ensures.back_len c.split_at-2.ensures.front_len
    c.split_at-2.ensures.back_len in
    let parts : c.args.bytes.now ≡ c.split_at.result.0.now ++
    (c.split_at-2.result.0.now ++ c.split_at-2.result.1.now) =
    sym (take-append-drop (8 - c.len-2.result) c.args.bytes.now)
    ∙ ap (λ l. l ++ drop (8 - c.len-2.result) c.args.bytes.now) (sym c.split_at.ensures.front)
    ∙ ap (λ l. c.split_at.result.0.now ++ l) (sym c.split_at.ensures.back
    ∙ whole _ _ _ c.whole_units.result c.split_at-2.ensures.front c.split_at-2.ensures.back) in
    let held : IsHeld c.args.upload.now c.hold.new.upload
    (length c.args.bytes.now) c.split_at-2.result.1.now = record {
      size = ap (λ (v : Upload). v.size) c.hold.ensures.rest;
      digest = ap (λ (v : Upload). v.digest) c.hold.ensures.rest;
      kind = ap (λ (v : Upload). v.kind) c.hold.ensures.rest;
      received = omega (
        arith,
        ap (λ (v : Upload). v.received) c.hold.ensures.rest,
        c.split_at.ensures.back_len,
        c.split_at-2.ensures.back_len,
      );
      held = c.hold.ensures.held ∙ ap (λ l. l ++ c.split_at-2.result.1.now) c.take-unit.ensures.after;
    } in
    record {
      outside = keeps_trans map (only (Slot c.args.image Secondary)) _ _ _ first second;
      range = written_range _ _ _ _ _ _ _ _ _ _ n c.write_slot.ensures.range c.write_slot-2.ensures.range full fits;
      ok = added c.args.image _ _ _ c.args.upload.now c.hold.new.upload c.args.bytes.now _ _ _ held parts
          (omega (arith, n, n2, was.few, c.split_at.ensures.front_len))
          (c.whole_units.ensures.units.0, c.split_at-2.ensures.front_len ∙ c.whole_units.ensures.units.1)
          (omega (arith, c.split_at-2.ensures.back_len, c.split_at-2.ensures.front_len, c.whole_units.ensures.most))
          c.requires.room.fits (view_kept map _ _ _ first) (view_kept map _ _ _ second)
          (long_kept map _ _ _ (Slot c.args.image Secondary) c.requires.room.laid_out first)
          (long_kept map _ _ _ (Slot c.args.image Secondary) laid second)
          (c.args.upload.now.received - c.len.result) (c.args.upload.now.received - c.len.result + 8)
          (omega (arith, n, was.count)) refl
          (λ front long written. subst
          (λ l. IsWritten (incoming_slot map (g.F.Flash.chip c.write_slot.new.flash) c.args.image) (front ++ l)) unit
          (c.in_ok-write_slot.ensures.ok front long written))
          c.in_ok-write_slot-2.ensures.ok;
      erases = c.write_slot-2.ensures.erases ∙ c.write_slot.ensures.erases;
      held = λ few. absurd (let enough = c.requires.enough in omega (arith, few, enough));
      on = λ enough. c.in_ok-write_slot.ensures.on (omega (arith, full));
      journal = omega (
        arith,
        full,
        was.few,
        fits,
        c.write_slot.ensures.journal,
        c.write_slot-2.ensures.journal,
      );
      ends = ends_well _ _ _ (uncut_trans _ (g.F.Flash.chip c.write_slot.new.flash) _ one.uncut two.uncut)
          (asleep_trans _ (g.F.Flash.chip c.write_slot.new.flash) _ one.uncut one.asleep two.asleep);
    }
