use Rattle.std.proofs.Common.{◌-◌, arith, ◌∙◌, ap, subst, Err, Ok, length-append, refl, sym}
use Rattle.std.proofs.lemmas.Grind.{common_steps}
use Rattle.flash_model.specs.Chip.{Chip}
use Rattle.flash_model.proofs.Ending.{no_error}
use Rattle.sector_map.specs.declared.layout.Side.TheVariants.{Secondary}
use Rattle.sector_map.specs.Part.{Slot, incoming_of, only}
use Rattle.sector_map.specs.Map.{Keeps}
use Rattle.sector_map.proofs.Parts.{keeps_wider, laid_out_kept}
use Rattle.sector_map.proofs.Touched.{slot_of_incoming}
use Rattle.sector_map.proofs.PartBytes.{length_part}
use Rattle.trailer.specs.Fields.{fields_at}
use Rattle.upload.specs.View.{view}
use Rattle.upload.specs.Sessions.{session_of}
use Rattle.upload.specs.Ending.{EndsUpload}
use Rattle.machine.specs.declared.upload_error.UploadError.TheVariants as no
use Rattle.upload.proofs.Views.{view_kept, slot_then_trailer}
use Rattle.upload.proofs.Ends.{ends_flash, ends_later, ends_well, err_passed, journal_both, off_stops, same_off}
use Rattle.upload.proofs.RefusedFinish.{done_finish, judged_finish, last_unit, stopped_finish}
use Rattle.upload.proofs.Finished.{refused, finish_refused, finish_done, finish_cut}
use Rattle.upload.proofs.Writing.{behind_erased, slot_units}
use Rattle.upload.proofs.finishing.finish_upload.Goals as goal

pub write_last-requires-clause-behind : goal.write_last-requires-clause-behind
write_last-requires-clause-behind g c =
    let map = c.args.map.now in
    let was = c.requires.open.1 in
    let n = c.len.ensures.value in
    let long = length_part map (g.F.Flash.chip c.args.flash.now) (Slot c.args.image Secondary)
    c.requires.laid_out in
    record {
      laid_out = c.requires.laid_out;
      there = was.there;
      place = (was.units.0, omega (arith, was.units.1, n, was.count));
      room = omega (arith, long, n, was.count, was.fits, was.room);
      erased = behind_erased map (g.F.Flash.chip c.args.flash.now) c.args.image _ _ c.requires.open.0
          c.requires.laid_out (omega (arith, n, was.count)) was.slot (omega (arith, long, n, was.count, was.fits, was.room));
    }

-- The unit of the held bytes is erased.
pub write_last-requires-clause-whole : goal.write_last-requires-clause-whole
write_last-requires-clause-whole g c some =
    let map = c.args.map.now in
    let was = c.requires.open.1 in
    let n = c.len.ensures.value in
    let long = length_part map (g.F.Flash.chip c.args.flash.now) (Slot c.args.image Secondary)
    c.requires.laid_out in
    let whole = slot_units map c.args.image c.requires.laid_out.is_map in
    behind_erased map (g.F.Flash.chip c.args.flash.now) c.args.image _ 8 c.requires.open.0
    c.requires.laid_out (omega (arith, n, was.count)) was.slot
    (omega (arith, long, n, was.count, was.fits, was.room, whole.1, was.units.1, some))

pub judge-requires-clause-room : goal.judge-requires-clause-room
judge-requires-clause-room g c =
    let was = c.requires.open.1 in
    let long = length_part c.args.map.now (g.F.Flash.chip c.args.flash.now) (Slot c.args.image Secondary)
    c.requires.laid_out in
    omega (arith, long, was.room)

pub request-requires-clause-erased : goal.request-requires-clause-erased
request-requires-clause-erased g c =
    let map = c.args.map.now in
    let was = c.requires.open.1 in
    ap (λ chip. fields_at map chip c.args.image Secondary) c.judge.ensures.same
    ∙ (view_kept map _ _ _ c.write_last.ensures.outside).trailers c.args.image Secondary refl ∙ was.trailer

pub returns-in_err-write_last : goal.returns-in_err-write_last
returns-in_err-write_last g c =
    rw (err_passed _ (no.Flash c.in_err-write_last.field-0.0) c.from_residual.ensures.1) (record {
      outside = keeps_wider c.args.map.now _ (incoming_of c.args.image) _ _ (slot_of_incoming c.args.image)
          c.write_last.ensures.outside;
      finish = λ written was.
          refused (view c.args.map.now (g.F.Flash.chip c.write_last.new.flash)) c.args.image
          (session_of c.args.upload written) (no.Flash c.in_err-write_last.field-0.0)
          (length-append written c.args.upload.held.items ∙ sym was.count ∙ omega (arith, c.if-upload.false))
          ((view_kept c.args.map.now _ _ _ c.write_last.ensures.outside).trailers c.args.image Secondary refl
          ∙ was.trailer) tt;
      erases = tt;
      refused = stopped_finish _ _ _ _ _ c.in_err-write_last.field-0.0;
      off = λ off size. ap (λ error. Err (no.Flash error)) (off_stops c.in_err-write_last.field-0.0 _ _
          c.in_err-write_last.ensures.ends off);
      journal = omega (arith, c.write_last.ensures.journal);
      ends = ends_flash c.in_err-write_last.field-0.0 _ _ c.in_err-write_last.ensures.ends;
    })

pub returns-in_err-judge : goal.returns-in_err-judge
returns-in_err-judge g c =
    let map = c.args.map.now in
    let n = c.len.ensures.value in
    let first = c.in_ok-write_last.ensures.ends in
    rw (err_passed _ c.in_err-judge.field-0.0 c.from_residual-in_err-judge.ensures.1) (record {
      outside = subst (λ chip. Keeps map (incoming_of c.args.image) (g.F.Flash.chip c.args.flash.now) chip)
          (sym c.judge.ensures.same)
          (keeps_wider map _ (incoming_of c.args.image) _ _ (slot_of_incoming c.args.image)
          c.write_last.ensures.outside);
      finish = finish_refused c.args.image (c.args.upload.received - c.len.result) _ _ _ c.args.upload
          (view_kept map _ _ _ c.write_last.ensures.outside) (ap (λ chip. view map chip) c.judge.ensures.same)
          c.in_ok-write_last.ensures.ok (omega (arith, n, c.requires.open.1.count)) (omega (arith, c.if-upload.false)) c.in_err-judge.field-0.0
          c.in_err-judge.ensures.judges;
      erases = tt;
      refused = judged_finish map c.args.image _ _ c.args.upload c.in_err-judge.field-0.0 _ _
          c.in_err-judge.ensures.judges
          (subst (λ chip. Keeps map (only (Slot c.args.image Secondary)) (g.F.Flash.chip c.args.flash.now) chip)
          (sym c.judge.ensures.same) c.write_last.ensures.outside)
          (last_unit map c.args.image c.len.result c.args.upload _ _ _ _ n c.judge.ensures.same c.write_last.ensures)
          (ap (λ chip. chip.erases) c.judge.ensures.same ∙ c.write_last.ensures.erases);
      off = λ off size. c.in_err-judge.ensures.off (first.uncut.on ∙ off);
      journal = omega (arith, c.write_last.ensures.journal, ap (λ (chip : Chip). chip.journaled) c.judge.ensures.same);
      ends = ends_later _ _ (g.F.Flash.chip c.write_last.new.flash) _ first.uncut first.asleep
          c.in_err-judge.ensures.ends;
    })

pub returns : goal.returns
returns g c =
    let map = c.args.map.now in
    let n = c.len.ensures.value in
    let first = c.in_ok-write_last.ensures.ends in
    record {
      outside = slot_then_trailer map c.args.image _ _ _ _ c.write_last.ensures.outside c.judge.ensures.same
          c.request.ensures.outside;
      finish = finish_done c.args.image (c.args.upload.received - c.len.result) _ _ _ c.args.upload
          (view_kept map _ _ _ c.write_last.ensures.outside) (ap (λ chip. view map chip) c.judge.ensures.same)
          c.in_ok-write_last.ensures.ok (omega (arith, n, c.requires.open.1.count)) (omega (arith, c.if-upload.false)) _
          (view_kept map _ _ _ c.request.ensures.outside) c.in_ok-judge.ensures.judges c.in_ok-request.ensures.ok;
      erases = c.in_ok-request.ensures.erases ∙ ap (λ chip. chip.erases) c.judge.ensures.same
          ∙ c.write_last.ensures.erases;
      refused = done_finish _ _ _ _ _;
      off = λ off size. absurd (no_error tt _ (c.in_ok-judge.ensures.off (first.uncut.on ∙ off)));
      journal = journal_both _ _ _ _ _ _ c.write_last.ensures.journal c.judge.ensures.same c.request.ensures.journal;
      ends = ends_later _ _ (g.F.Flash.chip c.write_last.new.flash) _ first.uncut first.asleep
          (subst (λ chip. EndsUpload (Ok tt) chip (g.F.Flash.chip c.request.new.flash)) c.judge.ensures.same
          (ends_well _ _ _ _ c.in_ok-request.ensures.ends));
    }

pub returns-in_err-request : goal.returns-in_err-request
returns-in_err-request g c =
    let map = c.args.map.now in
    let n = c.len.ensures.value in
    let first = c.in_ok-write_last.ensures.ends in
    rw (err_passed _ (no.Flash c.in_err-request.field-0.0) c.from_residual-in_err-request.ensures.1) (record {
      outside = slot_then_trailer map c.args.image _ _ _ _ c.write_last.ensures.outside c.judge.ensures.same
          c.request.ensures.outside;
      finish = finish_cut c.args.image (c.args.upload.received - c.len.result) _ _ _ c.args.upload
          (view_kept map _ _ _ c.write_last.ensures.outside) (ap (λ chip. view map chip) c.judge.ensures.same)
          c.in_ok-write_last.ensures.ok (omega (arith, n, c.requires.open.1.count)) (omega (arith, c.if-upload.false)) _
          (view_kept map _ _ _ c.request.ensures.outside) c.in_ok-judge.ensures.judges c.in_err-request.field-0.0
          c.request.ensures.either
          (λ is. ap (λ chip. view map chip) (same_off c.in_err-request.field-0.0 _ _ c.in_err-request.ensures.ends is));
      erases = tt;
      refused = stopped_finish _ _ _ _ _ c.in_err-request.field-0.0;
      off = λ off size. absurd (no_error tt _ (c.in_ok-judge.ensures.off (first.uncut.on ∙ off)));
      journal = journal_both _ _ _ _ _ _ c.write_last.ensures.journal c.judge.ensures.same c.request.ensures.journal;
      ends = ends_later _ _ (g.F.Flash.chip c.write_last.new.flash) _ first.uncut first.asleep
          (subst (λ chip. EndsUpload {T = Unit} (Err (no.Flash c.in_err-request.field-0.0)) chip
          (g.F.Flash.chip c.request.new.flash)) c.judge.ensures.same
          (ends_flash c.in_err-request.field-0.0 _ _ c.in_err-request.ensures.ends));
    })

pub request-requires-clause-image : goal.request-requires-clause-image
request-requires-clause-image g c = record {
  laid_out = rw c.judge.ensures.same (laid_out_kept c.args.map.now _ _ (g.F.Flash.chip c.write_last.new.flash)
      c.requires.laid_out c.write_last.ensures.outside);
  there = c.requires.open.1.there;
}

pub returns-then-upload : goal.returns-then-upload
returns-then-upload g c = grind (arith, common_steps)
