use Rattle.std.proofs.Common.{◌≡◌, ◌+◌, ◌≤◌, ◌<◌, ◌*◌, ℕ, List, length, slice_index, sym, ◌∙◌, ap, subst, arith, rules, true}
use Rattle.flash_model.proofs.TornBytes.{length-replaced}
use Rattle.slice_flash.proofs.Appended.{appended_asked, one_more_asked, range_inside, records_done, step_bytes}
use Rattle.slice_flash.proofs.Recorded.{is_written, one_recorded, rest_kept, room_is}
use Rattle.slice_flash.proofs.Writes.{put_back}
use Rattle.slice_flash.specs.Asked.{step_of}
use Rattle.slice_flash.specs.OverlayFlash.{bytes_of, recording_of}
use Rattle.slice_flash.specs.Steps.{Step, at_of, range_of, spelled}
use Rattle.slice_flash.proofs.overlay.OverlayFlash.write.Goals as goal

pub invariant_of-self-clause-rest : goal.invariant_of-self-clause-rest
invariant_of-self-clause-rest g c =
    let flash = c.args.self.now in
    rest_kept flash.used c.room_of-room.result flash.journal.now flash.journal_origin.first c.record.new.entry flash.fits
    (ap length c.record.ensures.entry ∙ sym (room_is c.args.at c.args.asked) ∙ sym c.room_of-room.ensures) flash.rest

pub invariant_of-self-clause-entries : goal.invariant_of-self-clause-entries
invariant_of-self-clause-entries g c =
    let flash = c.args.self.now in
    (appended_asked flash.sector_size (flash.sectors * flash.sector_size) c.args.at c.args.asked flash.base.now flash.journal.now
    c.record.new.entry _ flash.used flash.writes c.requires flash.whole flash.sized flash.addressed flash.fits flash.end flash.entries
    c.record.ensures.entry).entries

pub invariant_of-self-clause-end : goal.invariant_of-self-clause-end
invariant_of-self-clause-end g c =
    let flash = c.args.self.now in
    ap (λ r. flash.used + r) (c.room_of-room.ensures ∙ room_is c.args.at c.args.asked) ∙ sym
    (appended_asked flash.sector_size (flash.sectors * flash.sector_size) c.args.at c.args.asked flash.base.now flash.journal.now
    c.record.new.entry _ flash.used flash.writes c.requires flash.whole flash.sized flash.addressed flash.fits flash.end flash.entries
    c.record.ensures.entry).end

pub invariant_of-self-clause-whole : goal.invariant_of-self-clause-whole
invariant_of-self-clause-whole g c =
    let flash = c.args.self.now in
    let step : Step = step_of c.args.at c.args.asked in
    ap length (appended_asked flash.sector_size (flash.sectors * flash.sector_size) c.args.at c.args.asked flash.base.now flash.journal.now
    c.record.new.entry _ flash.used flash.writes c.requires flash.whole flash.sized flash.addressed flash.fits flash.end flash.entries
    c.record.ensures.entry).bytes
    ∙ length-replaced (at_of step) (range_of step) (bytes_of flash)
    (range_inside flash.sector_size c.args.at c.args.asked (bytes_of flash) c.requires) ∙ flash.whole

pub invariant_of-self-clause-are_bytes : goal.invariant_of-self-clause-are_bytes
invariant_of-self-clause-are_bytes g c =
    let flash = c.args.self.now in
    let step : Step = step_of c.args.at c.args.asked in
    let grows = (appended_asked flash.sector_size (flash.sectors * flash.sector_size) c.args.at c.args.asked flash.base.now flash.journal.now
    c.record.new.entry _ flash.used flash.writes c.requires flash.whole flash.sized flash.addressed flash.fits flash.end flash.entries
    c.record.ensures.entry).bytes in
    subst (λ (b : List ℕ). (k : ℕ) → slice_index b k < 256) (sym grows)
    (step_bytes step (bytes_of flash) flash.are_bytes
    (subst (λ (e : List ℕ). (k : ℕ) → slice_index e k < 256) c.record.ensures.entry c.record.ensures.are_bytes))

pub invariant_of-self-clause-recorded : goal.invariant_of-self-clause-recorded
invariant_of-self-clause-recorded g c =
    let flash = c.args.self.now in
    one_recorded flash.sector_size c.args.at flash.used c.room_of-room.result flash.base.now (bytes_of flash) flash.journal.now
    c.record.new.entry _ flash.writes c.args.asked c.requires c.room_of-room.ensures flash.fits c.record.ensures.entry
    (appended_asked flash.sector_size (flash.sectors * flash.sector_size) c.args.at c.args.asked flash.base.now flash.journal.now
    c.record.new.entry _ flash.used flash.writes c.requires flash.whole flash.sized flash.addressed flash.fits flash.end flash.entries
    c.record.ensures.entry).bytes flash.recorded

pub invariant_of-self-clause-written : goal.invariant_of-self-clause-written
invariant_of-self-clause-written g c =
    let flash = c.args.self.now in
    is_written flash.sector_size flash.base.now 0 flash.journal_origin.first flash.journal.ghost_name
    _ _ (flash.writes + 1) (omega (arith, flash.few, flash.fits)) (invariant_of-self-clause-recorded g c)

pub returns : goal.returns
returns g c =
    let flash = c.args.self.now in
    let step : Step = step_of c.args.at c.args.asked in
    let room : c.room_of-room.result ≡ length (spelled step) = c.room_of-room.ensures ∙ room_is c.args.at c.args.asked in
    let on : flash.is_on ≡ true = search rules in
    let fits : flash.used + length (spelled step) ≤ length flash.journal.now = omega (arith, room, c.if-self-room.false, flash.fits) in
    records_done step (recording_of flash) _ _ _ _ on fits
    (appended_asked flash.sector_size (flash.sectors * flash.sector_size) c.args.at c.args.asked flash.base.now flash.journal.now
    c.record.new.entry _ flash.used flash.writes c.requires flash.whole flash.sized flash.addressed flash.fits flash.end flash.entries
    c.record.ensures.entry).bytes
    (ap (λ r. flash.used + r) room)
    (omega (arith, room))
    (put_back flash.used c.room_of-room.result flash.journal.now c.record.new.entry (spelled step) c.record.ensures.entry (sym room))

pub invariant_of-self-clause-indexed : goal.invariant_of-self-clause-indexed
invariant_of-self-clause-indexed g c =
    let flash = c.args.self.now in
    c.add.ensures flash.base.now flash.journal.now _ flash.end
    (one_more_asked flash.sector_size (flash.sectors * flash.sector_size) c.args.at c.args.asked flash.base.now flash.journal.now
    c.record.new.entry _ flash.used flash.writes c.requires flash.whole flash.sized flash.addressed flash.fits flash.end flash.entries
    c.record.ensures.entry) flash.indexed
