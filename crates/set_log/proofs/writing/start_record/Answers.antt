use Rattle.std.proofs.Common.{arith, sym, ◌∙◌, inl}
use Rattle.std.proofs.lemmas.Bool.{false≢true}
use Rattle.std.proofs.lemmas.Result.{on_ok_weaker}
use Rattle.set_log.proofs.Moves.{has_places, third_open, started}
use Rattle.set_log.proofs.Placing.{stays_written, third_still_open}
use Rattle.flash_model.proofs.Ending.{at_error, ends_passed, ends_then}
use Rattle.sector_map.proofs.Parts.{keeps_trans, laid_out_kept}
use Rattle.set_log.proofs.writing.start_record.Goals as goal

pub returns-in_err-write_record : goal.returns-in_err-write_record
returns-in_err-write_record g c = record {
  outside = keeps_trans _ _ _ _ _ c.erase_log.ensures.outside c.write_record.ensures.outside;
  ok = at_error _ _ c.from_residual-in_err-write_record.ensures.0;
  written = at_error _ _ c.from_residual-in_err-write_record.ensures.0;
  last = λ three closed.
      let stays = third_still_open _ _ _ (has_places c.args.map.now c.requires.is_map) c.in_ok-erase_log.ensures.ok
      c.write_record.ensures.within in
      absurd (false≢true (sym stays ∙ closed));
  erases = at_error _ _ c.from_residual-in_err-write_record.ensures.0;
  journal = omega (arith, c.erase_log.ensures.journal, c.write_record.ensures.journal);
  off = λ off. absurd (false≢true (sym off ∙ c.in_ok-erase_log.ensures.on));
  ends = ends_then _ _ _ _ _ c.in_ok-erase_log.ensures.ends
      (ends_passed _ _ _ _ c.from_residual-in_err-write_record.ensures.1 c.in_err-write_record.ensures.ends);
}

pub close-requires : goal.close-requires
close-requires g c = record {
  laid_out = laid_out_kept _ _ _ _ c.requires
      (keeps_trans _ _ _ _ _ c.erase_log.ensures.outside c.write_record.ensures.outside);
  sector = omega arith;
  stays_open = third_open _ _ _ _ (record {
    sized = has_places c.args.map.now c.requires.is_map;
    blank = c.in_ok-erase_log.ensures.ok;
    first = c.write_record.ensures.within;
    stands = c.in_ok-write_record.ensures.ok;
  });
}

pub returns : goal.returns
returns g c =
    let sized = has_places c.args.map.now c.requires.is_map in
    record {
      outside = keeps_trans _ _ _ _ _ (keeps_trans _ _ _ _ _ c.erase_log.ensures.outside c.write_record.ensures.outside)
          c.close.ensures.outside;
      ok = on_ok_weaker c.close.result (λ closed.
          started _ _ _ _ _ (record {
            sized = sized;
            blank = c.in_ok-erase_log.ensures.ok;
            first = c.write_record.ensures.within;
            stands = c.in_ok-write_record.ensures.ok;
          }) c.close.ensures.within closed)
          c.close.ensures.ok;
      written = on_ok_weaker c.close.result (λ flag. (
        stays_written _ 0 0 _ 8 c.args.body.now _ _ c.in_ok-write_record.ensures.written c.told-body
            c.close.ensures.within (inl (omega (arith, sized.room))),
        flag,
      )) c.close.ensures.flag;
      last = λ three closed.
          started _ _ _ _ _ (record {
            sized = sized;
            blank = c.in_ok-erase_log.ensures.ok;
            first = c.write_record.ensures.within;
            stands = c.in_ok-write_record.ensures.ok;
          }) c.close.ensures.within closed;
      erases = on_ok_weaker c.close.result (λ closed.
          c.close.ensures.erases ∙ c.write_record.ensures.erases ∙ c.in_ok-erase_log.ensures.erases)
          c.close.ensures.ok;
      journal = omega (
        arith,
        c.erase_log.ensures.journal,
        c.write_record.ensures.journal,
        c.close.ensures.journal,
      );
      off = λ off. absurd (false≢true (sym off ∙ c.in_ok-erase_log.ensures.on));
      ends = ends_then _ _ _ _ _ c.in_ok-erase_log.ensures.ends
          (ends_then _ _ _ _ _ c.in_ok-write_record.ensures.ends c.close.ensures.ends);
    }
