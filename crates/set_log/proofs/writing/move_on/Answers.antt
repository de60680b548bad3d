use Rattle.std.proofs.Common.{◌∙◌, arith, inl}
use Rattle.std.proofs.lemmas.Result.{on_ok_weaker}
use Rattle.set_log.proofs.Moves.{has_places, moved, erased_keeps, moved_keeps, moved_active, moved_within, closing_torn, closing_done}
use Rattle.set_log.proofs.Placing.{beside_next, beside_closed, moved_on}
use Rattle.flash_model.proofs.Ending.{at_error, ends_passed, ends_then}
use Rattle.sector_map.proofs.Parts.{keeps_trans, laid_out_kept}
use Rattle.set_log.proofs.writing.move_on.Goals as goal

pub returns-in_err-erase_sector : goal.returns-in_err-erase_sector
returns-in_err-erase_sector g c =
    let sized = has_places c.args.map.now c.requires.laid_out.is_map in
    record {
      outside = c.erase_sector.ensures.outside;
      either = inl (erased_keeps _ c.args.active _ _ _ sized
          c.requires.active c.next_of-next.ensures c.erase_sector.ensures.within);
      ok = at_error _ _ c.from_residual.ensures.0;
      beside = beside_next _ c.args.active _ _ _ sized
          c.requires.active.within c.next_of-next.ensures c.erase_sector.ensures.within;
      moved = at_error _ _ c.from_residual.ensures.0;
      erases = at_error _ _ c.from_residual.ensures.0;
      journal = omega (arith, c.erase_sector.ensures.journal);
      ends = ends_passed _ _ _ _ c.from_residual.ensures.1 c.in_err-erase_sector.ensures.ends;
    }

pub returns-in_err-write_record : goal.returns-in_err-write_record
returns-in_err-write_record g c =
    let sized = has_places c.args.map.now c.requires.laid_out.is_map in
    let here = moved c.args.map.now c.args.active _ _ _ _ c.requires.laid_out.is_map c.requires.active
    c.next_of-next.ensures c.erase_sector.ensures.within c.in_ok-erase_sector.ensures.ok
    c.write_record.ensures.within in
    record {
      outside = keeps_trans _ _ _ _ _ c.erase_sector.ensures.outside c.write_record.ensures.outside;
      either = inl (moved_keeps _ _ _ _ _ _ here);
      ok = at_error _ _ c.from_residual-in_err-write_record.ensures.0;
      beside = beside_next _ c.args.active _ _ _ sized
          c.requires.active.within c.next_of-next.ensures (moved_within _ _ _ _ _ _ here);
      moved = at_error _ _ c.from_residual-in_err-write_record.ensures.0;
      erases = at_error _ _ c.from_residual-in_err-write_record.ensures.0;
      journal = omega (arith, c.erase_sector.ensures.journal, c.write_record.ensures.journal);
      ends = ends_then _ _ _ _ _ c.in_ok-erase_sector.ensures.ends
          (ends_passed _ _ _ _ c.from_residual-in_err-write_record.ensures.1 c.in_err-write_record.ensures.ends);
    }

pub close-requires : goal.close-requires
close-requires g c =
    let here = moved c.args.map.now c.args.active _ _ _ _ c.requires.laid_out.is_map c.requires.active
    c.next_of-next.ensures c.erase_sector.ensures.within c.in_ok-erase_sector.ensures.ok
    c.write_record.ensures.within in
    record {
      laid_out = laid_out_kept _ _ _ _ c.requires.laid_out
          (keeps_trans _ _ _ _ _ c.erase_sector.ensures.outside c.write_record.ensures.outside);
      sector = c.requires.active.within;
      stays_open = (moved_active _ _ _ _ _ _ here).stays_open;
    }

pub returns : goal.returns
returns g c =
    let sized = has_places c.args.map.now c.requires.laid_out.is_map in
    let here = moved c.args.map.now c.args.active _ _ _ _ c.requires.laid_out.is_map c.requires.active
    c.next_of-next.ensures c.erase_sector.ensures.within c.in_ok-erase_sector.ensures.ok
    c.write_record.ensures.within in
    record {
      outside = keeps_trans _ _ _ _ _ (keeps_trans _ _ _ _ _ c.erase_sector.ensures.outside c.write_record.ensures.outside)
          c.close.ensures.outside;
      either = closing_torn _ _ _ _ _ _ _ _ here c.in_ok-write_record.ensures.ok c.close.ensures.within;
      ok = on_ok_weaker c.close.result (λ closed.
          closing_done _ _ _ _ _ _ _ _ here c.in_ok-write_record.ensures.ok c.close.ensures.within closed)
          c.close.ensures.ok;
      beside = beside_closed _ c.args.active _ _ _ sized c.requires.active.within
          (beside_next _ c.args.active _ _ _ sized
          c.requires.active.within c.next_of-next.ensures (moved_within _ _ _ _ _ _ here)) c.close.ensures.within;
      moved = on_ok_weaker c.close.result (λ flag.
          moved_on _ c.args.active c.next_of-next.result c.args.body.now _ _ sized
          c.requires.active.within c.next_of-next.ensures
          c.in_ok-write_record.ensures.written c.told-body c.close.ensures.within flag)
          c.close.ensures.flag;
      erases = on_ok_weaker c.close.result (λ closed.
          c.close.ensures.erases ∙ c.write_record.ensures.erases ∙ c.in_ok-erase_sector.ensures.erases)
          c.close.ensures.ok;
      journal = omega (
        arith,
        c.erase_sector.ensures.journal,
        c.write_record.ensures.journal,
        c.close.ensures.journal,
      );
      ends = ends_then _ _ _ _ _ c.in_ok-erase_sector.ensures.ends
          (ends_then _ _ _ _ _ c.in_ok-write_record.ensures.ends c.close.ensures.ends);
    }
